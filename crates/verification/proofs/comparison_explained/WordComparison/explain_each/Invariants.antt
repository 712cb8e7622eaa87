use Rattle.std.proofs.Common.{◌≡◌}
use Rattle.std.specs.Prelude.{All, map, take}
use Rattle.verification.specs.Explanation.{IsExplained}
use Rattle.verification.specs.declared.verdict_explanation.ExplainedWord.{ExplainedWord}
use Rattle.verification.proofs.comparison_explained.WordComparison.explain_each.Given as goal

abbrev pub invariant-loop-word : goal.invariant-loop-word
invariant-loop-word l = record {
  words : map (λ (e : ExplainedWord). e.word) l.all.items ≡ take l.word-index l.words;
  explained : All (IsExplained l.self.before.now) l.all.items;
}
