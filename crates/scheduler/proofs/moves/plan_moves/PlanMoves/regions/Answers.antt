use Rattle.std.proofs.Common.{sym, ◌∙◌}
use Rattle.scheduler.proofs.Lemmas.ImageTables.{regions-fill, table-lawful}
use Rattle.scheduler.proofs.moves.plan_moves.PlanMoves.regions.Goals as goal

pub returns-clause-number : goal.returns-clause-number
returns-clause-number c = c.regions.ensures.value ∙ sym (regions-fill c.args.self.now)

pub returns-clause-lawful : goal.returns-clause-lawful
returns-clause-lawful c = table-lawful c.plan_laws.ensures c.args.self.now c.regions.ensures.valid
