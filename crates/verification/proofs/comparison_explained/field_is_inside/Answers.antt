use Rattle.verification.proofs.Lemmas.Comparing.{field_inside}
use Rattle.verification.proofs.comparison_explained.field_is_inside.Goals as goal

pub returns-clause-inside : goal.returns-clause-inside
returns-clause-inside c = field_inside c.args.image.now c.image_is_valid.ensures c.args.a c.args.f c.requires.live c.requires.field
