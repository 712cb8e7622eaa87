use Rattle.std.proofs.Common.{◌≡◌}
use Rattle.std.specs.Prelude.{map}
use Rattle.std.specs.List.{range_with_len}
use Rattle.summary.specs.Compaction.{compacted_word}
use Rattle.summary.specs.RegionData.{region_addresses}
use Rattle.plain_compaction.proofs.plainly.compact_plainly.Given as goal

abbrev pub invariant-loop-r : goal.invariant-loop-r
invariant-loop-r l = l.regions.items ≡ map (λ r. map (compacted_word l.image) (region_addresses l.image r)) (range_with_len 0 l.r)
