use Rattle.ready_queues.proofs.Lemmas.Queues.{pushes}
use Rattle.ready_queues.proofs.shared_queue.SharedQueue.push.Goals as goal

pub push_as-requires-clause-pushes : goal.push_as-requires-clause-pushes
push_as-requires-clause-pushes c = pushes _ _ _ c.self.invariant.owner
