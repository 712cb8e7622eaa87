use Rattle.std.proofs.Common.{◌≡◌, ◌<◌, ◌≤◌, ◌-◌, ◌*◌, ◌^◌, ◌||◌, ℕ, eqb, get_or, length}
use Rattle.object_heap.specs.Bits.{has}
use Rattle.heap_marking.proofs.references.moved_up.Given as goal

-- the bits of the words so far are moved up
abbrev pub invariant-loop-i : goal.invariant-loop-i
invariant-loop-i l = record {
  room : length l.moved.items ≡ length l.words;
  bits : (r : ℕ) → r < 64 * l.i → has l.moved.items r ≡ (eqb r 0 || has l.words (r - 1));
  first : l.i ≡ 0 → l.before ≡ 2 ^ 63;
  later : 0 < l.i → l.before ≡ get_or l.words (l.i - 1) 0;
}
