use Rattle.std.proofs.Common.{length}
use Rattle.fill.proofs.Lemmas.Parts.{late_inside}
use Rattle.fill.proofs.cleanup.deferred.references_in_part.Goals as goal

pub returns : goal.returns
returns c =
    late_inside c.args.plan.now c.args.first (length c.args.regions.now) c.args.d c.args.begin c.requires.inside.0 c.requires.inside.1 c.requires.ends c.requires.begins c.late_references.ensures.region
