use Rattle.std.proofs.Common.{◌≡◌, ◌<◌, ℕ, None}
use Rattle.std.specs.Prelude.{slice_index_or}
use Rattle.collector.specs.Halts.{met_fault}
use Rattle.collector.proofs.collection.compaction.first_fault.Given as goal

-- no earlier worker has met a fault
abbrev pub invariant-loop-worker : goal.invariant-loop-worker
invariant-loop-worker l = (j : ℕ) (v : _) → j < l.worker-index → met_fault (slice_index_or l.workers j v).result ≡ None
