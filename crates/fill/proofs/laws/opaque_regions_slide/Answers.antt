use Rattle.fill.proofs.laws.opaque_regions_slide.Goals as goal
use Rattle.fill.proofs.Lemmas.SlidBlocks.{slid_block-same, slid_block-above, length-slid_block}

pub returns : goal.returns
returns c = record { same = slid_block-same c.plan_laws.ensures; above = slid_block-above c.plan_laws.ensures; whole = length-slid_block }
