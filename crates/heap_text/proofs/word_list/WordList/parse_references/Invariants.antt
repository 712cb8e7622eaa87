use Rattle.std.proofs.Common.{◌≡◌, ◌+◌, ◌<◌, ◌≤◌, ◌++◌, ℕ, List, length}
use Rattle.std.specs.Prelude.{flat_map}
use Rattle.std.specs.List.{AllByRecursion}
use Rattle.heap_text.specs.Text.{reference_text}
use Rattle.heap_text.specs.Words.{data_part}
use Rattle.heap_text.proofs.Lemmas.PartSteps.{AreReferences}
use Rattle.heap_text.proofs.word_list.WordList.parse_references.Given as goal

abbrev pub invariant-loop-token : goal.invariant-loop-token
invariant-loop-token l =
    (refs others : List ℕ) → AllByRecursion (λ w. w ≤ l.len) refs → 0 < length refs → l.fn.tokens.rest.now ≡ flat_map reference_text refs ++ data_part others
    → l.fn.self.len + length refs ≤ l.len → AreReferences l.len l.fn.self l.self l.tokens.rest.now refs others

abbrev pub decreases-loop-token : goal.decreases-loop-token
decreases-loop-token l = length l.tokens.rest.now
