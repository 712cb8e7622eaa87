use Rattle.std.proofs.Common.{◌≡◌, ℕ, ◌+◌, ◌<◌, length, get_or}
use Rattle.summary.specs.Compaction.{compacted_word}
use Rattle.plain_compaction.proofs.plainly.compacted_region.Given as goal

abbrev pub invariant-loop-i : goal.invariant-loop-i
invariant-loop-i l = (length l.region ≡ l.len) × ((k : ℕ) → k < l.i → get_or l.region k 0 ≡ compacted_word l.image (l.start + k))
