use Rattle.std.proofs.Common.{◌≡◌, ℕ, ◌+◌, ◌<◌, length, get_or}
use Rattle.summary.specs.Compaction.{compacted_word}
use Rattle.history.proofs.machine.carrier.Carrier.finished_region.Given as goal

abbrev pub invariant-loop-i : goal.invariant-loop-i
invariant-loop-i l = (length l.region ≡ l.len) × ((k : ℕ) → k < l.i → get_or l.region k 0 ≡ compacted_word l.self.plan.now (l.start + k))
