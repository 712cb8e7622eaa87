use Rattle.std.proofs.Common.{◌≤◌, ◌-◌}
use Rattle.object_heap.specs.HeapImage.{heap_words}
use Rattle.heap_dump.specs.Listing.{HasObjectsBefore}
use Rattle.heap_dump.proofs.listing.object_count.count_objects.Given as goal

abbrev pub invariant-loop-at : goal.invariant-loop-at
invariant-loop-at l = record {
  before : HasObjectsBefore l.image l.count.live l.at l.count.objects;
  few : l.count.objects ≤ l.at;
  within : l.at ≤ heap_words l.image;
}

abbrev pub decreases-loop-at : goal.decreases-loop-at
decreases-loop-at l = heap_words l.image - l.at
