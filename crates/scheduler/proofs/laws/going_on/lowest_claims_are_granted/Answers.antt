use Rattle.scheduler.proofs.Lemmas.GoingOn.{lowest_granted, alone}
use Rattle.scheduler.proofs.laws.going_on.lowest_claims_are_granted.Goals as goal

pub returns-clause-granted : goal.returns-clause-granted
returns-clause-granted c = lowest_granted

pub returns-clause-alone : goal.returns-clause-alone
returns-clause-alone c = alone
