use Rattle.std.proofs.Common.{◌≡◌, ◌++◌}
use Rattle.std.specs.Prelude.{map}
use Rattle.std.specs.List.{range_with_len}
use Rattle.heap_map.specs.Bands.{prefix_bands, regions_band}
use Rattle.heap_map.proofs.bands.region_bands.Given as goal

abbrev pub invariant-loop-i : goal.invariant-loop-i
invariant-loop-i l = l.bands.items ≡ prefix_bands l.image ++ map (regions_band l.image l.each) (range_with_len 0 l.i)
