use Rattle.std.proofs.Common.{◌≡◌, Result, Ok, Err, IfSome, refl, sym}
use Rattle.image_streams.specs.declared.fault.Fault.{Fault}
use Rattle.collector.specs.declared.workers.end.End.{End}
use Rattle.collector.specs.declared.workers.end.End.TheVariants.{Stopped, Failed}
use Rattle.collector.specs.Halts.{met_fault}
use Rattle.collector.proofs.collection.compaction.first_fault.Goals as goal

-- The fault that a worker has met itself is the one that it ended with.
ended_so : (end : Result Unit End) (P : Fault → Type 0) → ((fault : Fault) → end ≡ Err (Failed fault) → P fault) → IfSome (met_fault end) P
unfolding met_fault
ended_so (Ok _) P holds = search
ended_so (Err (Stopped held)) P holds = search
ended_so (Err (Failed fault)) P holds = holds fault refl

pub returns-then-is_some-clause-lowest : goal.returns-then-is_some-clause-lowest
returns-then-is_some-clause-lowest c = rw c.fault-met.ensures (ended_so c.worker-item.result.result _ (λ fault ended. (
  c.loop-worker.worker-index,
  c.worker-item.result,
  c.loop-worker-test.true,
  sym c.worker-item.is,
  ended,
  c.loop-worker.invariant,
)))
