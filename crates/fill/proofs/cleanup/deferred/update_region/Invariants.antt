use Rattle.std.proofs.Common.{◌≡◌, ◌+◌, ◌-◌, ◌≤◌, ◌<◌, length}
use Rattle.std.specs.List.{concat}
use Rattle.object_heap.specs.HeapImage.{FormHeap, start_of}
use Rattle.object_heap.specs.Layout.{references_in}
use Rattle.summary.specs.Compaction.{moved_word}
use Rattle.fill.specs.MovedHeap.{words_from}
use Rattle.fill.proofs.Lemmas.Late.{late_up_to}
use Rattle.fill.proofs.cleanup.deferred.update_region.Given as goal

abbrev pub invariant-loop-at : goal.invariant-loop-at
invariant-loop-at l = record {
  heap : FormHeap l.plan.region_log l.regions;
  end : start_of l.plan l.first + l.end ≡ l.begin + 1 + references_in l.plan.layout (moved_word l.plan l.begin);
  low : l.begin < start_of l.plan l.first + l.at;
  high : l.at ≤ l.end;
  words : concat l.regions ≡ words_from l.plan l.first (length l.regions) (late_up_to l.plan l.d l.begin (start_of l.plan l.first + l.at));
}

abbrev pub decreases-loop-at : goal.decreases-loop-at
decreases-loop-at l = l.end - l.at
