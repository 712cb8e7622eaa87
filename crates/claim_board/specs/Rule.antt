-- The rule of the board's table, and what each kind of step adds or shows.
use Rattle.std.specs.Prelude.{◌≡◌, ℕ, suc, ◌+◌, ◌%◌, ◌<◌, cond, ◌||◌, ◌==◌, List, [], ◌∷◌, ◌++◌, length, slice_index, is_some, nat_lt}
use mathlib.Core.Option.{some}
use lib.ListN.{get_elem?}
use Rattle.atomic_table.specs.Table.{Me, Step}
use Rattle.scheduler.specs.declared.event.Event.{Event}
use Rattle.scheduler.specs.declared.reply.Reply.{Reply}
use Rattle.scheduler.specs.declared.reply.Reply.TheVariants.{Yes, No, Open, Outside, Claimed, Filled, Last, NotLast, Done, All, More}
use Rattle.scheduler.specs.declared.entry.Entry.{Entry}
use Rattle.scheduler.specs.MoveTable.{MoveTable, IsMoveTable, to_fill, region_count}
use Rattle.scheduler.specs.State.{State, readers_left, unsettled}
use Rattle.scheduler.specs.History.{entry, calls_by, state_of, BeginsWith, IsLegal}
use Rattle.claim_board.specs.declared.rule.view.View.{View}
use Rattle.claim_board.specs.Views.{rest_of, head_of, times_held, total, AllFit, ViewFits, IsPassView, worker_of, seen_of, mine_of, steps_of}
use Rattle.claim_board.specs.Steps.{touch_of}

-- the word of a region: its readers left, and 16 more if it isn't to be filled; 8 once it is claimed, 12 once it is filled
abbrev pub word_of : MoveTable → State → ℕ → ℕ
word_of m now r = cond (is_some (now.claimed r)) (cond (now.filled r) 12 8) (readers_left m now r + cond (to_fill m r) 0 16)

-- There is one legal history. It determines the words, and each seat has seen a beginning of it.
pub record Kept (m : MoveTable) (workers : ℕ) (words : List ℕ) (views : List View) : Type 0 where
  pub table : IsMoveTable m
  pub log : List Entry
  pub legal : IsLegal m workers log
  pub size : length words ≡ suc (region_count m)
  pub each_word : (r : ℕ) → r < region_count m → slice_index words r ≡ word_of m (state_of log) r
  -- the last word is the remaining one
  pub remaining : slice_index words (region_count m) ≡ unsettled m (state_of log)
  pub each_view : (by : ℕ) (v : View) → get_elem? views by ≡ some v → ViewFits workers log v
  -- each worker has one seat
  pub once : (x : ℕ) → total (λ v. times_held x v.holds) views ≡ cond (nat_lt x workers) 1 0
  pub counted : total (λ v. length v.holds) views ≡ workers

abbrev pub others_of : View → View
others_of v = record { note = v.note; holds = rest_of v.holds }

abbrev pub first_of : View → View
first_of v = record { note = v.note; holds = head_of v.holds }

-- There is a legal history that begins with all that was seen and has exactly this worker's own calls. The call was
-- added to that history.
pub record Extends (m : MoveTable) (workers worker : ℕ) (seen mine : List Entry) (event : Event) (reply : Reply) (seen' mine' : List Entry) : Type 0 where
  pub before : List Entry
  pub begins : BeginsWith before seen
  pub legal_before : IsLegal m workers before
  pub calls : calls_by worker before ≡ mine
  pub seen_is : seen' ≡ before ++ entry worker event reply ∷ []
  pub mine_is : mine' ≡ mine ++ entry worker event reply ∷ []
  pub legal : IsLegal m workers seen'
  pub seen_calls : calls_by worker seen' ≡ mine'

-- what a pass sees after a step that adds an entry
abbrev pub added : {S : Type 0} → MoveTable → ℕ → Event → (ℕ → Reply) → Step S → Me S View → ℕ → Me S View → Type 0
added m workers event reply s v found after =
    IsPassView after.0 × (worker_of after.0 ≡ worker_of v.0)
    × Extends m workers (worker_of v.0) (seen_of v.0) (mine_of v.0) event (reply found) (seen_of after.0) (mine_of after.0)
    × (steps_of after.0 ≡ steps_of v.0 ++ touch_of s ∷ [])

-- the reply of each kind of step, from the value that it found
abbrev pub claim_reply : ℕ → Reply
claim_reply found = cond (found == 0) Yes No

abbrev pub drain_reply : ℕ → Reply
drain_reply found = cond ((found == 1) || (found == 17)) Last NotLast

abbrev pub complete_reply : ℕ → Reply
complete_reply found = Done

abbrev pub settle_reply : ℕ → Reply
settle_reply found = cond (found == 1) All More

abbrev pub poll_reply : ℕ → Reply
poll_reply found = cond (found == 0) All More

abbrev pub look_reply : ℕ → Reply
look_reply found = cond (found == 12) Filled (cond (found == 8) Claimed (cond (nat_lt found 16) (Open found) (Outside (found % 16))))

-- a seat of no worker
abbrev pub nobody : View
nobody = record { note = []; holds = [] }

-- what the seat has seen, to pass to another
abbrev pub note_of : View → View
note_of v = record { note = seen_of v; holds = [] }

-- the seat after another has passed a history to it
abbrev pub informed : View → View → View
informed v w = record { note = w.note; holds = v.holds }

-- the seat with the workers of the other
abbrev pub gathered : View → View → View
gathered v w = record { note = v.note; holds = v.holds ++ w.holds }

-- The pass has seen all of a legal history, which begins with what it had seen and with what was passed to it.
pub record Sees (m : MoveTable) (workers worker : ℕ) (note seen mine seen' mine' : List Entry) : Type 0 where
  pub begins : BeginsWith seen' seen
  pub heard : BeginsWith seen' note
  pub legal : IsLegal m workers seen'
  pub mine_is : mine' ≡ mine
  pub seen_calls : calls_by worker seen' ≡ mine

abbrev pub sees : {S : Type 0} → MoveTable → ℕ → Step S → Me S View → ℕ → Me S View → Type 0
sees m workers s v found after =
    IsPassView after.0 × (worker_of after.0 ≡ worker_of v.0) × (after.1 ≡ v.1)
    × Sees m workers (worker_of v.0) v.0.note (seen_of v.0) (mine_of v.0) (seen_of after.0) (mine_of after.0)
    × (steps_of after.0 ≡ steps_of v.0 ++ touch_of s ∷ [])

-- the pass has seen what was passed to it
abbrev pub takes_note : {S : Type 0} → Step S → Me S View → ℕ → Me S View → Type 0
takes_note s v found after =
    IsPassView after.0 × (worker_of after.0 ≡ worker_of v.0) × (after.1 ≡ v.1) × (seen_of after.0 ≡ v.0.note) × (mine_of after.0 ≡ mine_of v.0) × (calls_by (worker_of v.0) v.0.note ≡ mine_of v.0)
    × (steps_of after.0 ≡ steps_of v.0 ++ touch_of s ∷ [])

-- The seat has seen all of a legal history, which has all its workers' calls. The value found is the number of regions
-- that aren't settled.
abbrev pub surveys : {S : Type 0} → MoveTable → ℕ → Step S → Me S View → ℕ → Me S View → Type 0
surveys m workers s v found after = IsLegal m workers after.0.note × AllFit workers after.0.note v.0.holds × (found ≡ unsettled m (state_of after.0.note))
