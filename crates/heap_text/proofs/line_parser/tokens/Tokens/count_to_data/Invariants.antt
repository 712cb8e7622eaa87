use Rattle.std.proofs.Common.{◌≡◌, ◌+◌, ◌≤◌, ◌++◌, ℕ, List, length}
use Rattle.std.specs.Prelude.{flat_map}
use Rattle.std.specs.List.{AllByRecursion}
use Rattle.heap_text.specs.Text.{reference_text}
use Rattle.heap_text.specs.Words.{data_part}
use Rattle.heap_text.proofs.Lemmas.PartSteps.{IsCounting}
use Rattle.heap_text.proofs.line_parser.tokens.Tokens.count_to_data.Given as goal

abbrev pub invariant-loop-token : goal.invariant-loop-token
invariant-loop-token l = record {
  few : l.count + length l.self.rest.now ≤ length l.fn.self.rest.now;
  counting : (len : ℕ) (refs others : List ℕ) → len ≤ 68719476736 → AllByRecursion (λ w. w ≤ len) refs
      → l.fn.self.rest.now ≡ flat_map reference_text refs ++ data_part others → IsCounting len l.self.rest.now refs others l.count;
}

abbrev pub decreases-loop-token : goal.decreases-loop-token
decreases-loop-token l = length l.self.rest.now
