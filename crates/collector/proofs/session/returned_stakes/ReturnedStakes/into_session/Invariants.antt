use Rattle.std.proofs.Common.{◌≡◌, ◌-◌, ◌≤◌, All, vec_len}
use Rattle.collector.specs.Stakes.{IsStakeOf}
use Rattle.collector.proofs.session.returned_stakes.ReturnedStakes.into_session.Given as goal

-- the stake has the parts of all slots that are gone
abbrev pub invariant-loop-slot : goal.invariant-loop-slot
invariant-loop-slot l = record {
  same : All (λ slot. slot ≡ l.fn.self) l.slots.items;
  few : vec_len l.slots ≤ l.fn.self.workers;
  stake : IsStakeOf l.fn.self (l.fn.self.workers - vec_len l.slots) l.stake;
}

abbrev pub decreases-loop-slot : goal.decreases-loop-slot
decreases-loop-slot l = vec_len l.slots
