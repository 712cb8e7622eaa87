-- Histories after which every region to be filled is settled.
use Rattle.std.specs.Prelude.{◌≡◌, ℕ, Bool, false, ◌==◌, IsTrue, List, count_by}
use Rattle.scheduler.specs.MoveTable.{MoveTable, to_fill, reads}
use Rattle.scheduler.specs.History.{is_grant, is_settling_of, is_drain_of}
use Rattle.scheduler.specs.declared.event.Event.{Event}
use Rattle.scheduler.specs.declared.event.Event.TheVariants.{Complete}
use Rattle.scheduler.specs.declared.entry.Entry.{Entry}

abbrev pub is_completion_of : ℕ → Event → Bool
is_completion_of r (Complete q) = r == q
is_completion_of r _ = false

-- Each region to be filled is granted, completed and settled once, and each pair is drained once.
pub record HasEachOnce (m : MoveTable) (log : List Entry) : Type 0 where
  pub granted : (r : ℕ) → IsTrue (to_fill m r) → count_by (is_grant r) log ≡ 1
  pub completed : (r : ℕ) → IsTrue (to_fill m r) → count_by (λ e. is_completion_of r e.event) log ≡ 1
  pub settled : (r : ℕ) → IsTrue (to_fill m r) → count_by (λ e. is_settling_of r e.event) log ≡ 1
  pub drained : (d s : ℕ) → IsTrue (reads m d s) → count_by (λ e. is_drain_of d s e.event) log ≡ 1
