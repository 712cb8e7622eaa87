use Rattle.std.proofs.Common.{if◌then◌else◌}
use Rattle.scheduler.specs.declared.event.Event.TheVariants.{Settle}
use Rattle.scheduler.specs.declared.reply.Reply.TheVariants.{All, More}
use Rattle.scheduling_tests.proofs.tickets.settles.Goals as goal

pub returns-clause-others : goal.returns-clause-others
returns-clause-others c =
    c.appended_calls_leave_others.ensures c.args.board.now c.args.done.region c.args.pass.now c.settle.new.pass (Settle c.args.done.region) (if c.settle.result then All else More) c.settle.ensures.entry (λ q apart. apart)
