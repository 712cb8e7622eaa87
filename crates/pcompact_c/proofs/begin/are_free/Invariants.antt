use Rattle.std.proofs.Common.{◌≡◌, ℕ, ◌<◌, false}
use Rattle.std.specs.Prelude.{slice_index_or}
use Rattle.pcompact_c.proofs.begin.are_free.Given as goal

-- the handles are as they were, and those so far are free
abbrev pub invariant-loop-handle : goal.invariant-loop-handle
invariant-loop-handle l = record {
  same : l.handles ≡ l.initial.handles;
  free : (j : ℕ) (d : _) → j < l.handle-index → (slice_index_or l.handles j d).0 ≡ false;
}
