use Rattle.std.proofs.Common.{◌≡◌, [], ap, sym, ◌∙◌, subst}
use Rattle.std.specs.Prelude.{All, IsTrue, Some, option_map}
use Rattle.object_heap.specs.HeapImage.{HeapImage, roots_or, roots_of, is_null_or_live}
use Rattle.collector.proofs.collection.clean_up.redirected_roots.Goals as goal

pub redirect_all-requires-clause-words : goal.redirect_all-requires-clause-words
redirect_all-requires-clause-words g c =
    let image : HeapImage = c.args.plan.now in
    let some : option_map (λ v. v.items) c.args.roots ≡ Some c.in-Some.roots.items = ap (option_map (λ v. v.items)) c.in-Some.is in
    let same : c.as_mut_slice.result.now ≡ roots_of image = c.as_mut_slice.ensures.value ∙ ap (roots_or []) (sym some ∙ c.requires.roots) in
    subst (All (λ w. IsTrue (is_null_or_live image w))) (sym same) (c.roots_are_null_or_live.ensures image c.requires.valid)
