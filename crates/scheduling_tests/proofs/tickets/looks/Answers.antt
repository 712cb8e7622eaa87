use Rattle.scheduler.specs.declared.event.Event.TheVariants.{Look}
use Rattle.scheduling_tests.proofs.tickets.looks.Goals as goal

pub returns-clause-others : goal.returns-clause-others
returns-clause-others c r = c.appended_calls_leave_others.ensures c.args.board.now r c.args.pass.now c.look-reply.new.pass (Look c.args.region) c.look-reply.result c.look-reply.ensures.entry (λ q apart. tt)
