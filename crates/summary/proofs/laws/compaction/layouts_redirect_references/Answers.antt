use Rattle.summary.proofs.Lemmas.Valid.{redirecting, own_redirects}
use Rattle.summary.proofs.laws.compaction.layouts_redirect_references.Goals as goal

pub returns-clause-own : goal.returns-clause-own
returns-clause-own c = own_redirects

pub returns-clause-lawful : goal.returns-clause-lawful
returns-clause-lawful c layout words lawful = redirecting lawful
