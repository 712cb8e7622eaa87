use Rattle.std.proofs.Common.{◌≡◌, ◌+◌, ◌≤◌, All, vec_len}
use Rattle.std.specs.Arc.{arc_value}
use Rattle.std.specs.Vec.{vec_capacity}
use Rattle.collector.proofs.session.room.owners.Given as goal

-- the owners so far are of the first one's value
abbrev pub invariant-loop : goal.invariant-loop
invariant-loop l = record {
  first : arc_value l.first ≡ l.fn.id;
  workers : l.workers ≡ l.fn.id.workers;
  same : All (λ r. arc_value r ≡ l.fn.id) l.owners.items;
  count : vec_len l.owners + 1 ≡ l.counter;
  room : l.workers ≤ vec_capacity l.owners;
}
