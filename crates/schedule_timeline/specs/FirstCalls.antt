-- Tables of the first calls that grant, complete or settle regions.
use Rattle.std.specs.Prelude.{◌≡◌, ℕ, ◌<◌, ◌≤◌, IsTrue, All, List, length, Option, Some, None, slice_index_or}
use Rattle.scheduler.specs.History.{is_grant}
use Rattle.scheduler.specs.declared.entry.Entry.{Entry}
use Rattle.schedule_timeline.specs.Timeline.{does, first_call}
use Rattle.schedule_timeline.specs.declared.timeline.call.Call.{Call}
use Rattle.schedule_timeline.specs.declared.timeline.deed.Deed.{Deed}

-- the earlier call if there is one, else this one
abbrev pub earlier_of : Option Call → Call → Option Call
earlier_of None call = Some call
earlier_of (Some earlier) call = Some earlier

-- for each region below a number, the first call of a history that does this to it
pub record AreFirst (deed : Deed) (regions : ℕ) (log : List Entry) (calls : List (Option Call)) : Type 0 where
  pub all : length calls ≡ regions
  pub each : (r : ℕ) → r < regions → slice_index_or calls r None ≡ first_call (does deed r) log

-- every granted region is below this number
abbrev pub AreGrantedBelow : ℕ → List Entry → Type 0
AreGrantedBelow regions log = All (λ e. (r : ℕ) → IsTrue (is_grant r e) → r < regions) log
