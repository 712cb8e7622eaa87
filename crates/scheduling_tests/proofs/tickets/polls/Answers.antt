use Rattle.std.proofs.Common.{if◌then◌else◌}
use Rattle.scheduler.specs.declared.event.Event.TheVariants.{Poll}
use Rattle.scheduler.specs.declared.reply.Reply.TheVariants.{All, More}
use Rattle.scheduling_tests.proofs.tickets.polls.Goals as goal

pub returns-clause-others : goal.returns-clause-others
returns-clause-others c r = c.appended_calls_leave_others.ensures c.args.board.now r c.args.pass.now c.poll.new.pass Poll (if c.poll.result then All else More) c.poll.ensures.entry (λ q apart. tt)
