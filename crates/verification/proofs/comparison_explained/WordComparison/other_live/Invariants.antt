use Rattle.std.proofs.Common.{◌≡◌, ℕ, ◌<◌}
use Rattle.std.specs.Prelude.{slice_index}
use Rattle.summary.specs.LiveObjects.{object_at}
use Rattle.summary.specs.NewAddresses.{new_address}
use Rattle.verification.proofs.comparison_explained.WordComparison.other_live.Given as goal

abbrev pub invariant-loop-i : goal.invariant-loop-i
invariant-loop-i l = (k : ℕ) → k < l.i → slice_index l.found k ≡ new_address l.self.before.now (object_at l.self.before.now k)
