use Rattle.std.proofs.Common.{◌≡◌, ◌≤◌, All, vec_len}
use Rattle.std.specs.Vec.{vec_capacity}
use Rattle.collector.proofs.session.returned_stakes.ReturnedStakes.new.Given as goal

-- the slots so far are this session's
abbrev pub invariant-loop : goal.invariant-loop
invariant-loop l = record {
  same : All (λ slot. slot ≡ l.id) l.slots.items;
  count : vec_len l.slots ≡ l.counter;
  room : l.id.workers ≤ vec_capacity l.slots;
}
