use Rattle.std.proofs.Common.{◌≡◌, ◌<◌, ℕ, length, get_or}
use Rattle.heap_marking.specs.Rounds.{AreParts, IsUnmarked}
use Rattle.heap_marking.specs.declared.marking.part.Part.{Part}
use Rattle.heap_marking.proofs.marking.start.parts_of.Given as goal

abbrev pub invariant-loop-k : goal.invariant-loop-k
invariant-loop-k l = record {
  count : length l.parts.items ≡ l.k;
  parts : AreParts l.fn.log l.heap l.parts.items;
  clear : (k : ℕ) → (d : Part) → k < length l.parts.items → IsUnmarked (get_or l.parts.items k d);
}
