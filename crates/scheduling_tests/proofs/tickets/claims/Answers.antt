use Rattle.std.proofs.Common.{if◌then◌else◌}
use Rattle.std.specs.Prelude.{is_some}
use Rattle.scheduler.specs.declared.event.Event.TheVariants.{Claim}
use Rattle.scheduler.specs.declared.reply.Reply.TheVariants.{Yes, No}
use Rattle.scheduling_tests.proofs.tickets.claims.Goals as goal

pub returns-clause-others : goal.returns-clause-others
returns-clause-others c =
    c.appended_calls_leave_others.ensures c.args.board.now c.args.region c.args.pass.now c.claim-ticket.new.pass (Claim c.args.region) (if is_some c.claim-ticket.result then Yes else No) c.claim-ticket.ensures.entry (λ q apart. tt)
