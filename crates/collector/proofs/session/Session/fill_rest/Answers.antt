use Rattle.collector.proofs.Lemmas.Rest.{rest_polled}
use Rattle.collector.proofs.session.Session.fill_rest.Goals as goal

pub fill_rest-filled-requires-clause-rest : goal.fill_rest-filled-requires-clause-rest
fill_rest-filled-requires-clause-rest c = (rest_polled _ _ c.args.seat.now.pass c.poll.new.pass _ c.poll.ensures.entry c.poll.ensures.holds c.requires.rest).1

pub returns-else-not-poll-clause-rest : goal.returns-else-not-poll-clause-rest
returns-else-not-poll-clause-rest c = (rest_polled _ _ c.args.seat.now.pass c.poll.new.pass _ c.poll.ensures.entry c.poll.ensures.holds c.requires.rest).1
