use Rattle.std.proofs.Common.{◌≡◌, take, None}
use Rattle.std.specs.Prelude.{find, flat_map}
use Rattle.object_heap.specs.HeapImage.{with_live, size_at, is_unsound}
use Rattle.object_heap.specs.ObjectFaults.{is_dangling, fields_of}
use Rattle.heap_image.proofs.Lemmas.Overlaps.{last_end_of, overlap_of}
use Rattle.heap_image.proofs.check.check_objects.Given as goal

abbrev pub invariant-loop-a : goal.invariant-loop-a
invariant-loop-a l = record {
  sound : find (is_unsound (with_live l.heap l.live)) (take l.a-index l.live) ≡ None;
  end : l.end ≡ last_end_of (size_at (with_live l.heap l.live)) (take l.a-index l.live);
  overlap : l.overlap ≡ overlap_of (size_at (with_live l.heap l.live)) (take l.a-index l.live);
  dangling : l.dangling ≡ find (is_dangling (with_live l.heap l.live)) (flat_map (fields_of (with_live l.heap l.live)) (take l.a-index l.live));
}
