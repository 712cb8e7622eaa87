use Rattle.std.proofs.Common.{◌∙◌}
use Rattle.collector.proofs.Lemmas.Rest.{rest_all, rest_looked}
use Rattle.collector.proofs.workers.fill_task.FillTask.lowest_open.Goals as goal

pub loop-preserved : goal.loop-preserved
loop-preserved g c = record {
  board = c.look.ensures.entry.board ∙ c.loop.invariant.board;
  rest = rest_all c.args.worker.now.seat.pass c.loop.worker.seat.pass c.look.new.pass c.loop.invariant.rest (rest_looked _ _ c.loop.worker.seat.pass c.look.new.pass _ _ c.look.ensures.entry c.look.ensures.holds c.loop.invariant.rest.1);
}

pub returns-in-Open-eq0-clause-rest : goal.returns-in-Open-eq0-clause-rest
returns-in-Open-eq0-clause-rest g c =
    rest_all c.args.worker.now.seat.pass c.loop.worker.seat.pass c.look.new.pass c.loop.invariant.rest (rest_looked _ _ c.loop.worker.seat.pass c.look.new.pass _ _ c.look.ensures.entry c.look.ensures.holds c.loop.invariant.rest.1)

pub returns-in_default-clause-rest : goal.returns-in_default-clause-rest
returns-in_default-clause-rest g c =
    rest_all c.args.worker.now.seat.pass c.loop.worker.seat.pass c.look.new.pass c.loop.invariant.rest (rest_looked _ _ c.loop.worker.seat.pass c.look.new.pass _ _ c.look.ensures.entry c.look.ensures.holds c.loop.invariant.rest.1)

pub returns-in_default-2 : goal.returns-in_default-2
returns-in_default-2 g c = record {
  seat = c.look.ensures.entry.board ∙ c.loop.invariant.board;
  rest = rest_all c.args.worker.now.seat.pass c.loop.worker.seat.pass c.look.new.pass c.loop.invariant.rest (rest_looked _ _ c.loop.worker.seat.pass c.look.new.pass _ _ c.look.ensures.entry c.look.ensures.holds c.loop.invariant.rest.1);
  region = tt;
}
