use Rattle.std.proofs.Common.{◌≡◌, length}
use Rattle.std.specs.List.{concat}
use Rattle.object_heap.specs.HeapImage.{FormHeap}
use Rattle.fill.specs.MovedHeap.{words_from, is_late_before}
use Rattle.fill.proofs.cleanup.deferred.update_regions.Given as goal

abbrev pub invariant-loop-d : goal.invariant-loop-d
invariant-loop-d l = record {
  heap : FormHeap l.plan.region_log l.regions;
  words : concat l.regions ≡ words_from l.plan l.first (length l.regions) (is_late_before l.plan l.d);
}
