use Rattle.std.proofs.Common.{length, ◌∙◌, ap}
use Rattle.std.proofs.lemmas.List.{length-replicate}
use Rattle.raw_region.specs.Region.{shown_words}
use Rattle.raw_region.proofs.region.Region.new.Goals as goal

-- A new region isn't cleared: its block has the zeros.
pub returns-clause-zeros : goal.returns-clause-zeros
unfolding shown_words
returns-clause-zeros c = c.in_ok-block.ensures.0

pub returns-clause-length : goal.returns-clause-length
unfolding shown_words
returns-clause-length c = ap length c.in_ok-block.ensures.0 ∙ length-replicate c.args.words 0
