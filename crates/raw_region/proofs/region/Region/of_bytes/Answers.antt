use Rattle.std.proofs.Common.{rules}
use Rattle.raw_region.specs.Region.{shown_words}
use Rattle.raw_region.proofs.region.Region.of_bytes.Goals as goal

-- `shown_words` of a region that was not cleared
pub returns : goal.returns
unfolding shown_words
returns c = search rules
