use Rattle.summary.proofs.laws.compaction.blocks_of_regions.Goals as goal
use Rattle.summary.proofs.Lemmas.Blocks.{compact-block, moved-block, old-block, kept-block, moved-length, compact-length, moved-joined, compact-joined}

pub returns : goal.returns
returns c = record { compacted = compact-block; moved = moved-block; old = old-block; kept = kept-block; moved_length = moved-length; compacted_length = compact-length; moved_joined = λ image valid. moved-joined image valid.limits.whole_regions; compacted_joined = λ image valid. compact-joined image valid.limits.whole_regions }
