use Rattle.object_heap.specs.HeapImage.{AreBlocks}
use Rattle.dump_objects.proofs.heap.UnsealedHeap.new.Given as goal

abbrev pub invariant-loop-r : goal.invariant-loop-r
invariant-loop-r l = AreBlocks l.region_log l.regions.items
