use Rattle.std.proofs.Common.{◌≡◌, ℕ, ◌<◌, ◌≤◌, length, get_or}
use Rattle.summary.specs.Compaction.{redirected}
use Rattle.pcompact_c.proofs.references.redirect_all.Given as goal

-- the references so far are redirected, and the others are as they were
abbrev pub invariant-loop-reference : goal.invariant-loop-reference
invariant-loop-reference l = record {
  long : length l.references ≡ length l.initial.references;
  done : (k : ℕ) → k < l.reference-index → get_or l.references k 0 ≡ redirected l.plan (get_or l.initial.references k 0);
  rest : (k : ℕ) → l.reference-index ≤ k → get_or l.references k 0 ≡ get_or l.initial.references k 0;
}
