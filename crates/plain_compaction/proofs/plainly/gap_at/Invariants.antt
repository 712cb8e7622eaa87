use Rattle.std.proofs.Common.{◌≡◌, ℕ, ◌≤◌, ◌<◌, false}
use Rattle.object_heap.specs.HeapImage.{is_live_word}
use Rattle.plain_compaction.proofs.plainly.gap_at.Given as goal

abbrev pub invariant-loop-q : goal.invariant-loop-q
invariant-loop-q l = (x : ℕ) → l.p ≤ x → x < l.q → is_live_word l.image x ≡ false
