use Rattle.std.proofs.Common.{◌≢◌, ℕ, sym, subst}
use Rattle.scheduler.specs.declared.event.Event.TheVariants.{Complete}
use Rattle.scheduler.specs.declared.reply.Reply.TheVariants.{Done}
use Rattle.scheduling_tests.proofs.tickets.completes.Goals as goal

pub returns-clause-others : goal.returns-clause-others
returns-clause-others g c =
    c.appended_calls_leave_others.ensures c.args.board.now c.args.ticket.region c.args.pass.now c.complete-done.new.pass (Complete c.right.new.self.region) Done c.complete-done.ensures.entry
    (λ q apart. subst (λ (r : ℕ). q ≢ r) (sym c.right.ensures.same.0) apart)
