use Rattle.std.specs.Prelude.{◌≡◌, ℕ, ◌<◌, ◌≤◌, Bool, false, not, ◌&&◌, ◌||◌, ◌==◌, if◌then◌else◌, is_none, is_some, IsTrue, Option, Some, None, count_by}
use Rattle.std.specs.List.{range_with_len}
use Rattle.scheduler.specs.MoveTable.{MoveTable, region_count, to_fill, reads}
use Rattle.scheduler.specs.declared.event.Event.{Event}
use Rattle.scheduler.specs.declared.event.Event.TheVariants.{Claim, Look, Drain, Complete, Settle, Poll, Copy}
use Rattle.scheduler.specs.declared.reply.Reply.{Reply}
use Rattle.scheduler.specs.declared.reply.Reply.TheVariants.{Yes, No, Open, Outside, Claimed, Filled, Last, NotLast, Done, All, More}

-- The state of the scheduler: four sets.
pub record State : Type 0 where
  -- the destination has copied all that it takes from the source
  pub drained : ℕ → ℕ → Bool
  -- the worker that claimed the region
  pub claimed : ℕ → Option ℕ
  pub filled : ℕ → Bool
  pub settled : ℕ → Bool

-- nothing has happened yet
abbrev pub opening : State
opening = record { drained = λ d s. false; claimed = λ r. None; filled = λ r. false; settled = λ r. false }

-- d has still to copy words from s
abbrev pub is_pending : MoveTable → State → ℕ → ℕ → Bool
is_pending m now d s = reads m d s && not (now.drained d s)

-- the number of regions that have still to copy words from s
abbrev pub readers_left : MoveTable → State → ℕ → ℕ
readers_left m now s = count_by (λ pair. s == pair.1 && not (now.drained pair.0 pair.1)) m.pairs

-- the number of regions to be filled that aren't settled
abbrev pub unsettled : MoveTable → State → ℕ
unsettled m now = count_by (λ r. to_fill m r && not (now.settled r)) (range_with_len 0 (region_count m))

-- every region to be filled is settled
abbrev pub AllAreSettled : MoveTable → State → Type 0
AllAreSettled m now = (r : ℕ) → IsTrue (to_fill m r) → IsTrue (now.settled r)

-- the worker claimed the region and hasn't filled it
abbrev pub IsFilling : State → ℕ → ℕ → Type 0
IsFilling now worker d = (now.claimed d ≡ Some worker) × (now.filled d ≡ false)

-- the event is allowed
abbrev pub Allows : MoveTable → State → ℕ → Event → Type 0
Allows m now worker (Claim r) = r < region_count m
Allows m now worker (Look r) = r < region_count m
Allows m now worker (Drain d s) = IsFilling now worker d × IsTrue (is_pending m now d s)
Allows m now worker (Complete d) = IsFilling now worker d × ((s : ℕ) → is_pending m now d s ≡ false)
Allows m now worker (Settle d) = (now.claimed d ≡ Some worker) × IsTrue (now.filled d) × (now.settled d ≡ false)
Allows m now worker Poll = Unit {0}
Allows m now worker (Copy d n) = IsFilling now worker d × (1 ≤ n)

-- to be filled, unclaimed and without pending readers
abbrev pub may_claim : MoveTable → State → ℕ → Bool
may_claim m now r = to_fill m r && (is_none (now.claimed r) && (readers_left m now r == 0))

-- the four sets after an event with its reply: a claim to which the reply is Yes gives the region to the worker
abbrev pub state_after : State → ℕ → Event → Reply → State
state_after now worker (Claim r) Yes = record now { claimed = λ q. if q == r then Some worker else now.claimed q }
state_after now worker (Drain d s) reply = record now { drained = λ e t. (e == d && t == s) || now.drained e t }
state_after now worker (Complete d) reply = record now { filled = λ r. r == d || now.filled r }
state_after now worker (Settle d) reply = record now { settled = λ r. r == d || now.settled r }
state_after now worker _ reply = now

-- the status of a region
abbrev pub look_at : MoveTable → State → ℕ → Reply
look_at m now r =
    if now.filled r then Filled
    else if is_some (now.claimed r) then Claimed
    else if to_fill m r then Open (readers_left m now r)
    else Outside (readers_left m now r)

-- All if no region to be filled is unsettled, otherwise More
abbrev pub all_or_more : ℕ → Reply
all_or_more left = if left == 0 then All else More

-- the reply to an event that is allowed
abbrev pub reply_to : MoveTable → State → Event → Reply
reply_to m now (Claim r) = if may_claim m now r then Yes else No
reply_to m now (Look r) = look_at m now r
reply_to m now (Drain d s) = if readers_left m (state_after now 0 (Drain d s) Last) s == 0 then Last else NotLast
reply_to m now (Complete d) = Done
reply_to m now (Settle d) = all_or_more (unsettled m (state_after now 0 (Settle d) All))
reply_to m now Poll = all_or_more (unsettled m now)
reply_to m now (Copy d n) = Done

-- one step of the one-thread scheduler
pub record IsStep (m : MoveTable) (old : State) (worker : ℕ) (event : Event) (reply : Reply) (new : State) : Type 0 where
  pub allowed : Allows m old worker event
  pub replied : reply ≡ reply_to m old event
  pub after : new ≡ state_after old worker event reply
