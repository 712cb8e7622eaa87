use Rattle.std.proofs.Common.{◌≡◌, ◌≤◌, ℕ, List, [], length}
use Rattle.std.specs.Prelude.{flat_map}
use Rattle.std.specs.List.{AllByRecursion}
use Rattle.heap_text.specs.Text.{reference_text}
use Rattle.heap_text.proofs.Lemmas.PartSteps.{AreRootsLeft}
use Rattle.heap_text.proofs.line_parser.roots_line.parse_roots.Given as goal

abbrev pub invariant-loop-token : goal.invariant-loop-token
invariant-loop-token l = (all : List ℕ) → AllByRecursion (λ w. w ≤ l.len) all → length all ≤ l.len → l.fn.roots.items ≡ []
    → l.fn.tokens.rest.now ≡ flat_map reference_text all → AreRootsLeft l.len l.roots.items l.tokens.rest.now all

abbrev pub decreases-loop-token : goal.decreases-loop-token
decreases-loop-token l = length l.tokens.rest.now
