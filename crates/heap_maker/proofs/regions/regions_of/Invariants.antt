use Rattle.std.proofs.Common.{◌≡◌, ◌<◌, ◌^◌, All, length}
use Rattle.std.specs.List.{concat}
use Rattle.object_heap.specs.HeapImage.{AreBlocks}
use Rattle.heap_maker.proofs.regions.regions_of.Given as goal

abbrev pub invariant-loop-r : goal.invariant-loop-r
invariant-loop-r l = record {
  whole : AreBlocks l.limits.region_log l.regions.items;
  count : length l.regions.items ≡ l._r;
  fit : All (λ w. w < 2 ^ 64) (concat l.regions.items);
}
