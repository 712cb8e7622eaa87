use Rattle.collector.proofs.Lemmas.Rest.{rest_polled}
use Rattle.collector.proofs.workers.fill_task.FillTask.progress_without_region.Goals as goal

pub returns-then-poll-clause-rest : goal.returns-then-poll-clause-rest
returns-then-poll-clause-rest g c = rest_polled _ _ c.args.worker.now.seat.pass c.poll.new.pass _ c.poll.ensures.entry c.poll.ensures.holds c.requires.rest

pub returns-else-poll-clause-rest : goal.returns-else-poll-clause-rest
returns-else-poll-clause-rest g c = rest_polled _ _ c.args.worker.now.seat.pass c.poll.new.pass _ c.poll.ensures.entry c.poll.ensures.holds c.requires.rest
