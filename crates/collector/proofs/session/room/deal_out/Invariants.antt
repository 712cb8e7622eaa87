use Rattle.std.proofs.Common.{◌≡◌, ◌+◌, ◌≤◌, All, vec_len}
use Rattle.std.specs.Arc.{arc_value}
use Rattle.std.specs.Vec.{vec_capacity}
use Rattle.collector.specs.Sessions.{heap_of}
use Rattle.collector.specs.Stakes.{Leads}
use Rattle.collector.proofs.session.room.deal_out.Given as goal

-- the shares so far have a part each, and the remaining workers the rest
abbrev pub invariant-loop-workers : goal.invariant-loop-workers
invariant-loop-workers l = record {
  lead : Leads l.id (vec_len l.shares) l.lead l.workers.items;
  some : 1 ≤ vec_len l.workers;
  count : vec_len l.workers + vec_len l.shares ≡ l.id.workers;
  returned : All (λ r. arc_value r ≡ l.id) l.returned.items;
  owners : vec_len l.returned ≡ vec_len l.workers;
  room : l.id.workers ≤ vec_capacity l.shares;
  heap : All (λ share. heap_of share ≡ l.id.heap) l.shares.items;
}

abbrev pub decreases-loop-workers : goal.decreases-loop-workers
decreases-loop-workers l = vec_len l.workers
