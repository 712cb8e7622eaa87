use Rattle.scheduler.proofs.Lemmas.ImageTables.{regions-fill, table-lawful, table-to_fill, table-reads}
use Rattle.scheduler.proofs.laws.image_laws.moves_of_images.Goals as goal

pub returns-clause-regions : goal.returns-clause-regions
returns-clause-regions c = regions-fill

pub returns-clause-lawful : goal.returns-clause-lawful
returns-clause-lawful c = table-lawful c.plan_laws.ensures

pub returns-clause-to_fill : goal.returns-clause-to_fill
returns-clause-to_fill c = table-to_fill c.plan_laws.ensures

pub returns-clause-reads : goal.returns-clause-reads
returns-clause-reads c = table-reads c.plan_laws.ensures
