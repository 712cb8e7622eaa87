use Rattle.std.proofs.Common.{◌∙◌, ◌++◌, ◌∷◌, [], ℕ, Bool, List, ap₂, cond, sym, zero-add}
use Rattle.object_pairs.specs.Spaces.{begins}
use Rattle.object_pairs.proofs.Lemmas.Sums.{filtered_more}
use Rattle.object_pairs.proofs.spaces.starts_of.Goals as goal

pub loop-index-preserved : goal.loop-index-preserved
loop-index-preserved c =
    let i = c.loop-index.index in
    c.in_ok-push_if.ensures
    ∙ ap₂ (λ (xs : List ℕ) (b : Bool). xs ++ cond b (i ∷ []) []) c.loop-index.invariant c.begins.ensures
    ∙ sym (filtered_more (begins c.args.objects.now) i)
