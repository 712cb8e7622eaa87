use Rattle.std.proofs.Common.{◌≡◌, ℕ, ◌<◌, ◌≤◌, length, get_or}
use Rattle.caller_heap.specs.Slots.{redirected_slot}
use Rattle.caller_heap.proofs.slots.redirect_slots.Given as goal

-- the slots so far are redirected, and the others are as they were
abbrev pub invariant-loop-slot : goal.invariant-loop-slot
invariant-loop-slot l = record {
  long : length l.slots ≡ length l.initial.slots;
  done : (k : ℕ) → k < l.slot-index → get_or l.slots k 0 ≡ redirected_slot l.places l.coding (get_or l.initial.slots k 0);
  rest : (k : ℕ) → l.slot-index ≤ k → get_or l.slots k 0 ≡ get_or l.initial.slots k 0;
}
