use Rattle.std.proofs.Common.{◌≡◌, ◌∙◌, ◌++◌, List, ℕ, ap}
use Rattle.std.specs.Prelude.{string_bytes}
use Rattle.object_pairs.specs.Text.{table_text, verdict_text}
use Rattle.object_pairs.specs.declared.comparison.Verdict.{Verdict}
use Rattle.object_pairs.specs.declared.figures.SpaceFigures.{SpaceFigures}
use Rattle.object_pairs.proofs.Lemmas.Texts.{join4}
use Rattle.object_pairs.proofs.comparison.Comparison.push_report.Goals as goal

pub returns : goal.returns
returns c =
    join4 _ _ _ _ _ _ _ _ _ c.in_ok-push_counts.ensures c.in_ok-push_conflicts.ensures
    (c.in_ok-push_table.ensures ∙ ap (λ (ss : List SpaceFigures). string_bytes c.push_conflicts.new.text ++ table_text ss) c.deref.ensures.value)
    (c.in_ok-push_verdict.ensures ∙ ap (λ (v : Verdict). string_bytes c.push_table.new.text ++ verdict_text v) c.verdict.ensures)
