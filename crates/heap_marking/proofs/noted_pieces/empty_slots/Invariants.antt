use Rattle.std.proofs.Common.{◌≡◌, ◌≤◌, All, vec_len}
use Rattle.std.specs.Vec.{vec_capacity}
use Rattle.heap_marking.proofs.noted_pieces.empty_slots.Given as goal

-- the slots so far are of this heap
abbrev pub invariant-loop : goal.invariant-loop
invariant-loop l = record {
  same : All (λ slot. slot ≡ l.heap) l.slots.items;
  count : vec_len l.slots ≡ l.counter;
  room : l.fn.count ≤ vec_capacity l.slots;
}
