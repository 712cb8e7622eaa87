use Rattle.std.proofs.Common.{◌≡◌, ℕ, ◌-◌, ◌<◌, ◌≤◌, length, get_or, false}
use Rattle.std.specs.Prelude.{IsTrue}
use Rattle.object_heap.specs.HeapImage.{heap_words, start_of}
use Rattle.mark_bitmap.specs.Marks.{is_begin}
use Rattle.summary.specs.RegionPlaces.{IsOwnStart}
use Rattle.summary.proofs.plan.counting.own_starts.Given as goal

-- from the start of the region before on, no object begins below `begin`
abbrev pub invariant-loop-r : goal.invariant-loop-r
invariant-loop-r l = record {
  number : length l.starts.items ≡ l.r;
  each : (s : ℕ) → s < l.r → IsOwnStart l.image s (get_or l.starts.items s 0);
  before : (k : ℕ) → start_of l.image (l.r - 1) ≤ k → k < l.begin → is_begin l.image k ≡ false;
  begins : l.begin < heap_words l.image → IsTrue (is_begin l.image l.begin);
}
