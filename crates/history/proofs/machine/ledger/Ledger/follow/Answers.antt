use Rattle.std.proofs.Common.{rules}
use Rattle.history.proofs.Lemmas.Ledgers.{reply_cause}
use Rattle.history.proofs.machine.ledger.Ledger.follow.Goals as goal

pub returns-in-Some-clause-cause : goal.returns-in-Some-clause-cause
returns-in-Some-clause-cause c =
    reply_cause c.args.plan.now c.args.self.now.scheduler.workers c.args.self.now c.step.new.self c.args.line c.in-Some.expected c.in-Ok.reply (search rules) (search rules) c.in-Ok.ensures.leads
