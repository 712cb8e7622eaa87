use Rattle.std.proofs.Common.{◌≡◌, take}
use Rattle.object_heap.specs.HeapImage.{with_live, size_at}
use Rattle.heap_image.proofs.Lemmas.Overlaps.{last_end_of, overlap_of}
use Rattle.heap_image.proofs.check.check_overlaps.Given as goal

abbrev pub invariant-loop-a : goal.invariant-loop-a
invariant-loop-a l = record {
  end : l.end ≡ last_end_of (size_at (with_live l.heap l.live)) (take l.a-index l.live);
  overlap : l.overlap ≡ overlap_of (size_at (with_live l.heap l.live)) (take l.a-index l.live);
}
