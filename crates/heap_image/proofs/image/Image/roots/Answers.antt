use Rattle.std.proofs.Common.{◌≡◌, ◌<◌, ◌^◌, [], length, ap, sym, ◌∙◌, subst}
use Rattle.std.specs.Prelude.{All, IsTrue, option_map}
use Rattle.object_heap.specs.HeapImage.{HeapImage, IsValid, roots_or, roots_of, is_null_or_live}
use Rattle.heap_image.proofs.Lemmas.RootLive.{roots-few}
use Rattle.heap_image.proofs.image.Image.roots.Goals as goal

pub returns-in-Some-clause-live : goal.returns-in-Some-clause-live
returns-in-Some-clause-live c =
    let image : HeapImage = c.args.self.now in
    let same : c.as_slice.result.now ≡ roots_of image =
    c.as_slice.ensures.value ∙ ap (λ o. roots_or [] (option_map (λ v. v.items) o)) (sym c.in-Some.is) ∙ ap roots_of c.self.view_is in
    subst (All (λ w. IsTrue (is_null_or_live image w))) (sym same) (c.roots_are_null_or_live.ensures image (subst IsValid c.self.view_is c.self.invariant.parts.valid))

pub returns-in-Some-clause-few : goal.returns-in-Some-clause-few
returns-in-Some-clause-few c =
    let image : HeapImage = c.args.self.now in
    let same : c.as_slice.result.now ≡ roots_of image =
    c.as_slice.ensures.value ∙ ap (λ o. roots_or [] (option_map (λ v. v.items) o)) (sym c.in-Some.is) ∙ ap roots_of c.self.view_is in
    subst (λ xs. length xs < 2 ^ 32) (sym same) (roots-few image (subst IsValid c.self.view_is c.self.invariant.parts.valid))
