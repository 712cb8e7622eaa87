use Rattle.std.proofs.Common.{◌≡◌, ◌+◌, ◌^◌, ◌<◌, ◌≤◌, ℕ, List, length}
use Rattle.std.specs.Prelude.{flat_map}
use Rattle.std.specs.List.{AllByRecursion}
use Rattle.heap_text.specs.Text.{number_text}
use Rattle.heap_text.proofs.Lemmas.PartSteps.{AreNumbers}
use Rattle.heap_text.proofs.word_list.WordList.parse_numbers.Given as goal

abbrev pub invariant-loop-tokens : goal.invariant-loop-tokens
invariant-loop-tokens l = record {
  grown : l.fn.self.len ≤ l.self.len;
  numbers : (ws : List ℕ) → AllByRecursion (λ w. w < 2 ^ 64) ws → 0 < length ws → l.fn.tokens.rest.now ≡ flat_map number_text ws
      → l.fn.self.len + length ws ≤ l.len → AreNumbers l.fn.self l.self l.tokens.rest.now l.first l.are_equal ws;
}

abbrev pub decreases-loop-tokens : goal.decreases-loop-tokens
decreases-loop-tokens l = length l.tokens.rest.now
