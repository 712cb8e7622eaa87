use Rattle.std.proofs.Common.{◌≡◌, ◌∙◌, ◌⊎◌, ℕ, List, ap, inl, inr, subst, sym}
use Rattle.std.proofs.lemmas.Result.{IfOk-weaker}
use Rattle.std.specs.Prelude.{Option}
use Rattle.object_heap.specs.HeapImage.{HeapImage}
use Rattle.heap_commands.specs.Reduce.{IsReduced, IsReduction, IsReductionLine, least_line, step_line}
use Rattle.heap_commands.proofs.reduce.answer.Goals as goal

-- which of the two lines it is
line_of : (from : ℕ) (before after : HeapImage) (shown : List ℕ) → IsReduced from before after shown
    → ((step : ℕ) × (shown ≡ step_line step after)) ⊎ (shown ≡ least_line after)
line_of from before after shown (inl (smaller, (step, later, said))) = inl (step, said)
line_of from before after shown (inr (same, said)) = inr (said ∙ ap least_line (sym same))

-- what is printed of a reduction
printed : (from : ℕ) (left left' took took' : Option (List ℕ)) (shown : List ℕ) → IsReduction from left left' took took' shown → IsReductionLine shown
printed from left left' took took' shown made = (made.after, made.valid, line_of from made.before made.after shown made.reduced)

pub returns-in-Ok : goal.returns-in-Ok
returns-in-Ok g c =
    IfOk-weaker c.ended.result _ _ (λ done is. subst IsReductionLine (sym is) (printed _ _ _ _ _ _ c.in-Ok.ensures.reduction)) c.ended.ensures
