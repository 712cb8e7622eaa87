-- The callers of a desk.
use Rattle.std.specs.Prelude.{◌≡◌, ℕ, List, [], ◌∷◌, ◌++◌}
use Rattle.atomic_table.specs.Seated.{TableId}
use Rattle.scheduler.specs.declared.event.Event.{Event}
use Rattle.scheduler.specs.declared.reply.Reply.{Reply}
use Rattle.scheduler.specs.declared.entry.Entry.{Entry}
use Rattle.scheduler.specs.State.{State}
use Rattle.scheduler.specs.History.{BeginsWith, entry, state_of}

-- A worker of a board, with the history that it has seen and its own calls in it, oldest first.
pub record Caller : Type 0 where
  pub board : TableId
  pub worker : ℕ
  pub seen : List Entry
  pub mine : List Entry

-- the state after its own calls
abbrev pub own : Caller → State
own c = state_of c.mine

-- The history seen now begins with the one seen before and ends with the entry.
abbrev pub IsSeenLast : List Entry → List Entry → Entry → Type 0
IsSeenLast seen seen' e = (before : List Entry) × BeginsWith before seen × (seen' ≡ before ++ e ∷ [])

-- the same worker of the same board, with one more call, which comes after all that it had seen
pub record Gains (old new : Caller) (event : Event) (reply : Reply) : Type 0 where
  pub board : new.board ≡ old.board
  pub worker : new.worker ≡ old.worker
  pub seen : IsSeenLast old.seen new.seen (entry old.worker event reply)
  pub mine : new.mine ≡ old.mine ++ entry old.worker event reply ∷ []
