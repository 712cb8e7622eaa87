use Rattle.std.proofs.Common.{◌≡◌, ℕ, ◌≤◌, ◌<◌, length}
use Rattle.std.specs.Prelude.{slice_index}
use Rattle.object_heap.proofs.bits.last_nonzero.Given as goal

abbrev pub invariant-loop-end : goal.invariant-loop-end
invariant-loop-end l = record {
  inside : l.end ≤ length l.words;
  zeros : (j : ℕ) → l.end ≤ j → j < length l.words → slice_index l.words j ≡ 0;
}

abbrev pub decreases-loop-end : goal.decreases-loop-end
decreases-loop-end l = l.end
