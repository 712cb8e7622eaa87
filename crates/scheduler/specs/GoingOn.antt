-- How a legal history goes on.
use Rattle.std.specs.Prelude.{◌≡◌, ℕ, ◌+◌, ◌<◌, ◌⊎◌, Bool, true, false, not, ◌&&◌, ◌==◌, is_none, Some, List, [], ◌∷◌, ◌++◌, count_by}
use Rattle.std.specs.List.{range_with_len}
use Rattle.scheduler.specs.MoveTable.{MoveTable, region_count, to_fill}
use Rattle.scheduler.specs.State.{State, readers_left, unsettled}
use Rattle.scheduler.specs.History.{IsLegal, entry, state_of}
use Rattle.scheduler.specs.declared.event.Event.{Event}
use Rattle.scheduler.specs.declared.event.Event.TheVariants.{Claim, Drain, Complete, Settle}
use Rattle.scheduler.specs.declared.reply.Reply.{Reply}
use Rattle.scheduler.specs.declared.reply.Reply.TheVariants.{Yes, Last}
use Rattle.scheduler.specs.declared.entry.Entry.{Entry}

-- the call grants a region, or drains, completes or settles one
abbrev pub changes : Event → Reply → Bool
changes (Claim r) Yes = true
changes (Drain d s) reply = true
changes (Complete d) reply = true
changes (Settle d) reply = true
changes _ _ = false

abbrev pub is_change : Entry → Bool
is_change e = changes e.event e.reply

-- the history may be followed by this call, which changes something
pub record MayFollow (m : MoveTable) (workers : ℕ) (log : List Entry) (e : Entry) : Type 0 where
  pub legal : IsLegal m workers (log ++ e ∷ [])
  pub change : is_change e ≡ true

-- each worker may claim the region
abbrev pub IsForAll : MoveTable → ℕ → List Entry → ℕ → Type 0
IsForAll m workers log r = (worker : ℕ) → worker < workers → MayFollow m workers log (entry worker (Claim r) Yes)

-- the worker has claimed the region, and a call of it that changes something may follow
abbrev pub IsForOne : MoveTable → ℕ → List Entry → ℕ → Type 0
IsForOne m workers log r = (worker : ℕ) × ((state_of log).claimed r ≡ Some worker) × ((event : Event) × ((reply : Reply) × MayFollow m workers log (entry worker event reply)))

-- some region may be claimed by all, or its claimant may go on
abbrev pub GoesOn : MoveTable → ℕ → List Entry → Type 0
GoesOn m workers log = (r : ℕ) × (IsForAll m workers log r ⊎ IsForOne m workers log r)

-- how many calls that change something are left: grants, drains, completions and settlings
abbrev pub changes_left : MoveTable → State → ℕ
changes_left m now =
    count_by (λ r. to_fill m r && is_none (now.claimed r)) (range_with_len 0 (region_count m))
    + (count_by (λ pair. not (now.drained pair.0 pair.1)) m.pairs
    + (count_by (λ r. to_fill m r && not (now.filled r)) (range_with_len 0 (region_count m))
    + unsettled m now))

-- the call drains the last reader of a region to fill
abbrev pub frees : MoveTable → Event → Reply → Bool
frees m (Drain d s) Last = to_fill m s
frees m _ _ = false

abbrev pub is_freeing : MoveTable → Entry → Bool
is_freeing m e = frees m e.event e.reply

-- the number of regions to fill without pending readers, claimed or not
abbrev pub freed : MoveTable → State → ℕ
freed m now = count_by (λ r. to_fill m r && (readers_left m now r == 0)) (range_with_len 0 (region_count m))

-- the call drains the last reader of this region
abbrev pub frees_it : ℕ → Event → Reply → Bool
frees_it s (Drain d t) Last = s == t
frees_it s _ _ = false

abbrev pub is_last_of : ℕ → Entry → Bool
is_last_of s e = frees_it s e.event e.reply
