use Rattle.std.proofs.Common.{◌≡◌, ◌<◌, ℕ, true, [], get_or}
use Rattle.heap_marking.proofs.soundness.are_all_noted.Given as goal

abbrev pub invariant-loop-piece : goal.invariant-loop-piece
invariant-loop-piece l = l.all ≡ true → (p k : ℕ) → p < l.piece → k < 64 → 0 < get_or (get_or l.sizes p []) k 0
