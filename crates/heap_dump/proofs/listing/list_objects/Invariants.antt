use Rattle.std.proofs.Common.{◌≤◌, ◌-◌}
use Rattle.object_heap.specs.HeapImage.{heap_words}
use Rattle.heap_dump.specs.Listing.{AreLabelled, AreObjectsBefore}
use Rattle.heap_dump.proofs.listing.list_objects.Given as goal

abbrev pub invariant-loop-at : goal.invariant-loop-at
invariant-loop-at l = record {
  objects : AreObjectsBefore l.image l.list.live l.at l.list.objects.items;
  labelled : AreLabelled l.labels l.list.last_id l.list.objects.items;
  within : l.at ≤ heap_words l.image;
}

abbrev pub decreases-loop-at : goal.decreases-loop-at
decreases-loop-at l = heap_words l.image - l.at
