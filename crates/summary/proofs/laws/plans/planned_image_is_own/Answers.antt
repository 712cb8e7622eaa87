use Rattle.summary.proofs.Lemmas.Own.{is_own}
use Rattle.summary.proofs.laws.plans.planned_image_is_own.Goals as goal

pub returns : goal.returns
returns c = is_own c.args.plan.now c.planned_image_is_valid.ensures.own
