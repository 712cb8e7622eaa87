use Rattle.std.proofs.Common.{ℕ, ◌<◌, get_or}
use Rattle.std.specs.Prelude.{IsTrue}
use Rattle.object_heap.specs.HeapImage.{is_null_or_live}
use Rattle.pcompact_c.proofs.references.first_stray.Given as goal

-- the references so far are null or to live objects
abbrev pub invariant-loop-i : goal.invariant-loop-i
invariant-loop-i l = (k : ℕ) → k < l.i → IsTrue (is_null_or_live l.survey (get_or l.references k 0))
