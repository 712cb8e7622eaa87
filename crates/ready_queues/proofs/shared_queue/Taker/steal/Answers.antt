use Rattle.ready_queues.proofs.Lemmas.Queues.{admits, takes_any}
use Rattle.ready_queues.proofs.shared_queue.Taker.steal.Goals as goal

pub pass-pass-requires : goal.pass-pass-requires
pass-pass-requires c = admits

pub steal_as-requires-clause-takes : goal.steal_as-requires-clause-takes
steal_as-requires-clause-takes c = takes_any _ _
