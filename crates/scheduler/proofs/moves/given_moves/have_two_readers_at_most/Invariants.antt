use Rattle.std.proofs.Common.{ℕ, ◌≤◌, take}
use Rattle.std.specs.Prelude.{count_by}
use Rattle.scheduler.specs.MoveTable.{has_source}
use Rattle.scheduler.proofs.Lemmas.Pairs.{AreCounted}
use Rattle.scheduler.proofs.moves.given_moves.have_two_readers_at_most.Given as goal

abbrev pub invariant-loop-source : goal.invariant-loop-source
invariant-loop-source l = record {
  counted : AreCounted 16384 (λ pair. pair.1) (take l.source-index l.pairs) l.readers;
  two : (s : ℕ) → count_by (has_source s) (take l.source-index l.pairs) ≤ 2;
}
