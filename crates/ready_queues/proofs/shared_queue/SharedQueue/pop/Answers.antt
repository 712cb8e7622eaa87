use Rattle.ready_queues.proofs.Lemmas.Queues.{takes_pushed}
use Rattle.ready_queues.proofs.shared_queue.SharedQueue.pop.Goals as goal

pub pop_as-requires-clause-fifo : goal.pop_as-requires-clause-fifo
pop_as-requires-clause-fifo c = λ _. takes_pushed _ _ c.self.invariant.owner
