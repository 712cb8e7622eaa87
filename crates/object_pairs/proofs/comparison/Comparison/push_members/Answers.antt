use Rattle.std.proofs.Common.{◌∙◌, ◌++◌, List, ℕ, ap}
use Rattle.std.specs.Prelude.{string_bytes}
use Rattle.object_pairs.specs.Json.{verdict_member}
use Rattle.object_pairs.specs.declared.comparison.Verdict.{Verdict}
use Rattle.object_pairs.proofs.Lemmas.Texts.{join3}
use Rattle.object_pairs.proofs.comparison.Comparison.push_members.Goals as goal

pub returns : goal.returns
returns c =
    join3 _ _ _ _ _ _ _ c.in_ok-push_objects.ensures c.in_ok-push_differences.ensures
    (c.in_ok-push_verdict.ensures ∙ ap (λ (v : Verdict). string_bytes c.push_differences.new.text ++ verdict_member v) c.verdict.ensures)
