use Rattle.std.specs.Prelude.{◌≡◌, ◌≢◌, ℕ, ◌+◌, ◌<◌, ◌≤◌, Bool, false, ◌&&◌, ◌==◌, ◌↔◌, IsTrue, Some, None, List, [], ◌∷◌, ◌++◌, count_by, filter}
use Rattle.std.specs.List.{list_any}
use Rattle.scheduler.specs.MoveTable.{MoveTable, to_fill, reads}
use Rattle.scheduler.specs.State.{State, opening, is_pending, readers_left, unsettled, state_after, IsStep}
use Rattle.scheduler.specs.Scheduler.{sources_left}
use Rattle.scheduler.specs.declared.event.Event.{Event}
use Rattle.scheduler.specs.declared.event.Event.TheVariants.{Claim, Drain, Complete, Settle}
use Rattle.scheduler.specs.declared.reply.Reply.{Reply}
use Rattle.scheduler.specs.declared.reply.Reply.TheVariants.{Yes, All}
use Rattle.scheduler.specs.declared.entry.Entry.{Entry}

-- the state after these calls, from this one on
abbrev pub state_from : State → List Entry → State
state_from now [] = now
state_from now (e ∷ es) = state_from (state_after now e.worker e.event e.reply) es

-- the state to which a history leads
abbrev pub state_of : List Entry → State
state_of log = state_from opening log

-- each call is a step from the state after the calls before it, made by a worker below this number
abbrev pub AreSteps : MoveTable → ℕ → State → List Entry → Type 0
AreSteps m workers now [] = Unit {0}
AreSteps m workers now (e ∷ es) =
    (e.worker < workers)
    × IsStep m now e.worker e.event e.reply (state_after now e.worker e.event e.reply)
    × AreSteps m workers (state_after now e.worker e.event e.reply) es

-- a legal history, oldest call first, begins at the opening
abbrev pub IsLegal : MoveTable → ℕ → List Entry → Type 0
IsLegal m workers log = AreSteps m workers opening log

abbrev pub entry : ℕ → Event → Reply → Entry
entry worker event reply = record { worker = worker; event = event; reply = reply }

-- one worker's own calls in a history
abbrev pub calls_by : ℕ → List Entry → List Entry
calls_by worker log = filter (λ e. e.worker == worker) log

-- the history begins with these calls
abbrev pub BeginsWith : List Entry → List Entry → Type 0
BeginsWith log seen = (later : List Entry) × (log ≡ seen ++ later)

abbrev pub is_drain_of : ℕ → ℕ → Event → Bool
is_drain_of d s (Drain e t) = d == e && s == t
is_drain_of d s _ = false

abbrev pub is_settling_of : ℕ → Event → Bool
is_settling_of r (Settle q) = r == q
is_settling_of r _ = false

-- the reply to a claim grants the region
abbrev pub grants : ℕ → Event → Reply → Bool
grants r (Claim q) Yes = r == q
grants r _ _ = false

abbrev pub is_grant : ℕ → Entry → Bool
is_grant r e = grants r e.event e.reply

-- the entry grants the region to this worker
abbrev pub is_grant_to : ℕ → ℕ → Entry → Bool
is_grant_to worker r e = is_grant r e && e.worker == worker

-- the history is the entries before this one, this one, and those after it
abbrev pub IsSplit : List Entry → List Entry → Entry → List Entry → Type 0
IsSplit log before e after = log ≡ before ++ e ∷ after

-- What holds between the entries of a legal history.
pub record IsOrderly (m : MoveTable) (log : List Entry) : Type 0 where
  -- a region is granted at most once
  pub granted_once : (r : ℕ) → count_by (is_grant r) log ≤ 1
  -- when it is granted, it has no pending readers
  pub granted_when_read : (before after : List Entry) (e : Entry) (r d : ℕ) → IsSplit log before e after → IsTrue (is_grant r e) → is_pending m (state_of before) d r ≡ false
  -- and it has none at any later moment
  pub stays_read : (before middle after : List Entry) (e : Entry) (r d : ℕ) → IsSplit log before e (middle ++ after) → IsTrue (is_grant r e) → is_pending m (state_of (before ++ e ∷ middle)) d r ≡ false
  -- only the worker to which it was granted completes it
  pub completed_by_claimant : (before after : List Entry) (e : Entry) (d : ℕ) → IsSplit log before e after → e.event ≡ Complete d → IsTrue (list_any (is_grant_to e.worker d) before)
  -- and only after it has drained all that it reads
  pub completed_when_drained : (before after : List Entry) (e : Entry) (d s : ℕ) → IsSplit log before e after → e.event ≡ Complete d → IsTrue (reads m d s) → IsTrue (list_any (λ c. is_drain_of d s c.event) before)
  -- the reply to a settling is All if and only if every region to be filled is settled after it
  pub all_when_last : (before after : List Entry) (e : Entry) (d : ℕ) → IsSplit log before e after → e.event ≡ Settle d
      → (e.reply ≡ All) ↔ ((r : ℕ) → IsTrue (to_fill m r) → IsTrue (list_any (λ c. is_settling_of r c.event) (before ++ e ∷ [])))
  -- and no settling follows it
  pub none_after_all : (before after : List Entry) (e : Entry) (d r : ℕ) → IsSplit log before e after → e.event ≡ Settle d → e.reply ≡ All → list_any (λ c. is_settling_of r c.event) after ≡ false

-- What holds in each state that a legal history reaches.
pub record IsReached (m : MoveTable) (now : State) : Type 0 where
  pub claimed_to_fill : (r worker : ℕ) → now.claimed r ≡ Some worker → IsTrue (to_fill m r)
  pub filled_claimed : (r : ℕ) → IsTrue (now.filled r) → now.claimed r ≢ None
  pub settled_filled : (r : ℕ) → IsTrue (now.settled r) → IsTrue (now.filled r)
  pub drained_reads : (d s : ℕ) → IsTrue (now.drained d s) → IsTrue (reads m d s)
  -- a pair is drained only after its destination is claimed
  pub drained_claimed : (d s : ℕ) → IsTrue (now.drained d s) → now.claimed d ≢ None
  -- a region is claimed only when it has no pending readers
  pub claimed_read : (d s worker : ℕ) → now.claimed s ≡ Some worker → is_pending m now d s ≡ false
  -- a region is filled only after it has drained all that it reads
  pub filled_drained : (d s : ℕ) → IsTrue (now.filled d) → is_pending m now d s ≡ false

-- Two states agree on a region and on what it reads.
pub record AgreeOn (d : ℕ) (one other : State) : Type 0 where
  pub claimed : one.claimed d ≡ other.claimed d
  pub filled : one.filled d ≡ other.filled d
  pub settled : one.settled d ≡ other.settled d
  pub drained : (s : ℕ) → one.drained d s ≡ other.drained d s

-- A worker's own calls determine the state of the regions that it claimed, and say nothing about any other.
pub record TellsOwn (worker : ℕ) (own now : State) : Type 0 where
  pub claimed : (d : ℕ) → now.claimed d ≡ Some worker → AgreeOn d own now
  pub others : (d : ℕ) → now.claimed d ≢ Some worker → AgreeOn d own opening

-- How the counts go down, one at a time, and what a count of 0 means.
pub record CountsDown (m : MoveTable) (now : State) : Type 0 where
  pub few : (s : ℕ) → readers_left m now s ≤ 2
  pub no_reader : (d s : ℕ) → readers_left m now s ≡ 0 → is_pending m now d s ≡ false
  pub no_source : (d s : ℕ) → sources_left m now d ≡ 0 → is_pending m now d s ≡ false
  pub none_left : (d : ℕ) → ((s : ℕ) → is_pending m now d s ≡ false) → sources_left m now d ≡ 0
  -- a drain, at its two ends and at any other region
  pub readers : (worker d s : ℕ) (reply : Reply) → IsTrue (is_pending m now d s) → readers_left m now s ≡ readers_left m (state_after now worker (Drain d s) reply) s + 1
  pub readers_of_others : (worker d s q : ℕ) (reply : Reply) → IsTrue (is_pending m now d s) → q ≢ s → readers_left m (state_after now worker (Drain d s) reply) q ≡ readers_left m now q
  pub sources : (worker d s : ℕ) (reply : Reply) → IsTrue (is_pending m now d s) → sources_left m now d ≡ sources_left m (state_after now worker (Drain d s) reply) d + 1
  pub sources_of_others : (worker d s q : ℕ) (reply : Reply) → IsTrue (is_pending m now d s) → q ≢ d → sources_left m (state_after now worker (Drain d s) reply) q ≡ sources_left m now q
  -- a settling
  pub unsettled_one : (worker d : ℕ) (reply : Reply) → IsTrue (to_fill m d) → now.settled d ≡ false → unsettled m now ≡ unsettled m (state_after now worker (Settle d) reply) + 1
