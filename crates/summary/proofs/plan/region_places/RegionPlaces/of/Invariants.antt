use Rattle.std.proofs.Common.{◌≡◌, ◌<◌, ◌≤◌}
use Rattle.std.specs.Prelude.{map}
use Rattle.std.specs.List.{range_with_len}
use Rattle.object_heap.specs.HeapImage.{start_of}
use Rattle.summary.specs.RegionData.{destination}
use Rattle.summary.specs.RegionPlaces.{placed_region}
use Rattle.summary.proofs.plan.region_places.RegionPlaces.of.Given as goal

abbrev pub invariant-loop-r : goal.invariant-loop-r
invariant-loop-r l =
    (l.regions.items ≡ map (placed_region l.image) (range_with_len 0 l.r))
    × (start_of l.image l.r < l.prefix → l.next ≡ l.prefix)
    × (l.prefix ≤ start_of l.image l.r → l.next ≡ destination l.image l.r)
