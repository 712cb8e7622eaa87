-- What a board and a pass show.
use Rattle.std.specs.Prelude.{◌≡◌, ℕ, suc, List, [], ◌∷◌, ◌++◌, Option}
use Rattle.atomic_table.specs.Seated.{TableId}
use Rattle.atomic_table.specs.Table.{carried_after}
use Rattle.scheduler.specs.declared.event.Event.{Event}
use Rattle.scheduler.specs.declared.reply.Reply.{Reply}
use Rattle.scheduler.specs.declared.entry.Entry.{Entry}
use Rattle.scheduler.specs.MoveTable.{MoveTable, region_count}
use Rattle.scheduler.specs.History.{BeginsWith, calls_by}
use Rattle.claim_board.specs.declared.board.Board.{Board}
use Rattle.claim_board.specs.declared.pass.Pass.{Pass}
use Rattle.claim_board.specs.declared.regions.holding.Holding.{Holding}
use Rattle.claim_board.specs.declared.rule.table_key.TableKey.{TableKey}
use Rattle.claim_board.specs.declared.rule.view.Hold.{Hold}
use Rattle.claim_board.specs.declared.rule.view.Touch.{Touch}
use Rattle.claim_board.specs.Callers.{Caller}
use Rattle.claim_board.specs.Views.{AllFit, worker_of, seen_of, mine_of, steps_of}
use Rattle.claim_board.specs.Steps.{step_of}
use Rattle.claim_board.specs.Rule.{Extends}
use Rattle.claim_board.specs.Slots.{slots, first_of_slot, act_of}

abbrev pub moves : Board → MoveTable
moves b = b.table.shared.key.moves

abbrev pub worker_count : Board → ℕ
worker_count b = b.table.shared.key.workers

-- the identity of the board
abbrev pub identity : Board → TableId
identity b = b.table.shared.table_id

abbrev pub board_of : Pass → TableId
board_of p = p.place.table_id

abbrev pub worker : Pass → ℕ
worker p = worker_of p.place.me.0

-- the history that the pass has seen
abbrev pub seen : Pass → List Entry
seen p = seen_of p.place.me.0

-- its own calls in it
abbrev pub mine : Pass → List Entry
mine p = mine_of p.place.me.0

-- the atomic steps that it has made
abbrev pub steps : Pass → List Touch
steps p = steps_of p.place.me.0

-- the slots that the pass holds, each with its value
abbrev pub held : Pass → List (ℕ × Option Holding)
held p = p.place.me.1

abbrev pub caller : Pass → Caller
caller p = record { board = board_of p; worker = worker p; seen = seen p; mine = mine p }

-- The pass is of the same worker of the same board. This call was added to a legal history that begins with what the
-- pass had seen and has exactly the worker's own calls.
pub record AppendsTo (m : MoveTable) (workers : ℕ) (old new : Pass) (event : Event) (reply : Reply) : Type 0 where
  pub board : board_of new ≡ board_of old
  pub worker : Rattle.claim_board.specs.Boards.worker new ≡ Rattle.claim_board.specs.Boards.worker old
  pub history : Extends m workers (Rattle.claim_board.specs.Boards.worker old) (seen old) (mine old) event reply (seen new) (mine new)

abbrev pub Appends : Board → Pass → Pass → Event → Reply → Type 0
Appends b = AppendsTo (moves b) (worker_count b)

-- the table has a word for each region and one that counts, and the key's slots
abbrev pub IsLaidOut : TableId → TableKey Holding → Type 0
IsLaidOut z k = (z.words ≡ suc (region_count k.moves)) × (z.slots ≡ slots k)

-- what a call that found this value leaves of the slots that the pass held
abbrev pub MovesSlots : TableKey Holding → Event → ℕ → List (ℕ × Option Holding) → List (ℕ × Option Holding) → Type 0
MovesSlots k event found old new = new ≡ carried_after old (act_of k.moves (slots k) (first_of_slot k) event found)

-- the pass has made one atomic step, of the kind of this call
abbrev pub MakesStep : MoveTable → Event → Pass → Pass → Type 0
MakesStep m event old new = steps new ≡ steps old ++ step_of m event ∷ []

abbrev pub TakesStep : Board → Event → Pass → Pass → Type 0
TakesStep b = MakesStep (moves b)

-- the same worker of the same board, with the same calls of its own
abbrev pub Stays : Pass → Pass → Type 0
Stays old new = (board_of new ≡ board_of old) × (worker new ≡ worker old) × (mine new ≡ mine old)

-- the pass of a worker that has made no call
abbrev pub IsNew : TableId → ℕ → Pass → Type 0
IsNew board k p = (board_of p ≡ board) × (worker p ≡ k) × (seen p ≡ []) × (mine p ≡ [])

-- the passes of the workers from k on
abbrev pub ArePassesFrom : TableId → ℕ → List Pass → Type 0
ArePassesFrom board k [] = Unit {0}
ArePassesFrom board k (p ∷ ps) = IsNew board k p × ArePassesFrom board (suc k) ps

-- one pass for each worker, none of which has made a call
abbrev pub ArePasses : TableId → List Pass → Type 0
ArePasses board ps = ArePassesFrom board 0 ps

-- the passes are of this board
abbrev pub AllOf : TableId → List Pass → Type 0
AllOf board [] = Unit {0}
AllOf board (p ∷ ps) = (board_of p ≡ board) × AllOf board ps

-- the passes hold no slots
abbrev pub AllBare : List Pass → Type 0
AllBare [] = Unit {0}
AllBare (p ∷ ps) = (held p ≡ []) × AllBare ps

-- the history begins with what each pass has seen, and the calls of each worker in it are those of its pass
abbrev pub AllStand : List Entry → List Pass → Type 0
AllStand log [] = Unit {0}
AllStand log (p ∷ ps) = (BeginsWith log (seen p) × (calls_by (worker p) log ≡ mine p)) × AllStand log ps

-- a history that fits these workers has what each of these passes has seen, and its calls
abbrev pub Covers : ℕ → List Hold → List Pass → Type 0
Covers n hs ps = (log : List Entry) → AllFit n log hs → AllStand log ps
