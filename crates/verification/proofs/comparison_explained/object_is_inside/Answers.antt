use Rattle.verification.proofs.Lemmas.Comparing.{object_inside}
use Rattle.verification.proofs.comparison_explained.object_is_inside.Goals as goal

pub returns : goal.returns
returns c = record { inside = object_inside c.args.image.now c.image_is_valid.ensures c.args.a c.requires.live }
