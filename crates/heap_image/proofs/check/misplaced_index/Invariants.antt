use Rattle.std.proofs.Common.{◌≡◌, ℕ, ◌+◌, ◌-◌, ◌<◌, false, get_or}
use Rattle.object_heap.specs.ObjectFaults.{is_misplaced}
use Rattle.heap_image.proofs.check.misplaced_index.Given as goal

abbrev pub invariant-loop-index : goal.invariant-loop-index
invariant-loop-index l = record {
  placed : (k : ℕ) → k < l.index → is_misplaced l.words l.live k ≡ false;
  first : l.index ≡ 0 → l.next ≡ 0;
  later : 0 < l.index → l.next ≡ get_or l.live (l.index - 1) 0 + 1;
}
