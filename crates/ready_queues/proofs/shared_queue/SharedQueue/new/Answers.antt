use Rattle.ready_queues.proofs.Lemmas.Queues.{begins}
use Rattle.ready_queues.proofs.shared_queue.SharedQueue.new.Goals as goal

pub fifo_as-requires : goal.fifo_as-requires
fifo_as-requires c = begins
