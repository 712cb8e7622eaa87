use Rattle.object_heap.specs.HeapImage.{AreBlocks}
use Rattle.heap_maker.proofs.shrinking.remainder.regions_of.Given as goal

abbrev pub invariant-loop-r : goal.invariant-loop-r
invariant-loop-r l = AreBlocks l.region_log l.regions.items
