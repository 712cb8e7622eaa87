use Rattle.std.proofs.Common.{◌≡◌, ℕ, ◌<◌, false}
use Rattle.std.specs.Prelude.{slice_index_or}
use Rattle.pcompact_c.proofs.end.are_gone.Given as goal

-- the words are as they were, and none so far are held
abbrev pub invariant-loop-place : goal.invariant-loop-place
invariant-loop-place l = record {
  same : l.words ≡ l.initial.words;
  free : (j : ℕ) (d : _) → j < l.place-index → (slice_index_or l.words j d).0 ≡ false;
}
