use Rattle.std.proofs.Common.{◌≡◌, vec_len}
use Rattle.collector.proofs.workers.queues.Queues.new.Given as goal

-- a queue for each worker so far, with a handle
abbrev pub invariant-loop-number : goal.invariant-loop-number
invariant-loop-number l = (vec_len l.ready ≡ l.number) × (vec_len l.thieves ≡ l.number)
