use Rattle.std.proofs.Common.{◌≡◌, ◌*◌, ◌≤◌}
use Rattle.object_heap.specs.HeapImage.{region_words}
use Rattle.summary.specs.NewAddresses.{greatest, is_allowed, dead_words_below}
use Rattle.summary.proofs.plan.region_places.prefix_end.Given as goal

abbrev pub invariant-loop-r : goal.invariant-loop-r
invariant-loop-r l =
    (l.regions ≡ greatest (is_allowed l.image) l.r)
    × (l.dead ≡ dead_words_below l.image (l.r * region_words l.image))
    × (l.dead ≤ l.r * region_words l.image)
