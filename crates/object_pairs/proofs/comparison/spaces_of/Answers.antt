use Rattle.std.proofs.Common.{[], ◌∷◌, ◌++◌, List, ◌∙◌, ap₂, sym, zero-add}
use Rattle.std.proofs.lemmas.List.FromFn.{map-range_with_len_more}
use Rattle.object_pairs.specs.Comparison.{figures_at}
use Rattle.object_pairs.specs.declared.figures.SpaceFigures.{SpaceFigures}
use Rattle.object_pairs.proofs.comparison.spaces_of.Goals as goal

pub loop-index-preserved : goal.loop-index-preserved
loop-index-preserved c =
    let paired = c.args.paired.now in
    let f = figures_at paired.before.now.objects.items paired.after.now.objects.items paired.pairing.now.partners.items in
    c.in_ok-push.ensures.items
    ∙ ap₂ (λ (xs : List SpaceFigures) (x : SpaceFigures). xs ++ x ∷ []) c.loop-index.invariant c.in_ok-figures.ensures
    ∙ sym (map-range_with_len_more f 0 c.loop-index.index c.loop-index.index (zero-add c.loop-index.index))
