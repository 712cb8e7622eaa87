use Rattle.std.specs.Prelude.{◌≡◌, ℕ, ◌<◌, Bool, false, ◌&&◌, ◌||◌, ◌==◌, not, IsTrue, Some, List, [], ◌∷◌, length, slice_index, slice_index_or, count_by, Result, MatchResult}
use Rattle.scheduler.specs.MoveTable.{MoveTable, IsMoveTable, region_count, to_fill, is_pair}
use Rattle.scheduler.specs.State.{State, readers_left, unsettled, Allows, IsStep}
use Rattle.scheduler.specs.Progress.{claimant_of, is_filled, is_settled}
use Rattle.scheduler.specs.declared.event.Event.{Event}
use Rattle.scheduler.specs.declared.event.Illegal.{Illegal}
use Rattle.scheduler.specs.declared.reply.Reply.{Reply}
use Rattle.scheduler.specs.declared.scheduler.progress.Progress.{Progress}
use Rattle.scheduler.specs.declared.scheduler.progress.Progress.TheVariants.{Unclaimed}

-- What contracts see of a scheduler.
pub record SchedulerView : Type 0 where
  pub workers : ℕ
  pub moves : MoveTable
  -- for each pair of the moves, whether it is drained
  pub flags : List Bool
  -- for each region, the state of its fill
  pub progress : List Progress

-- the pair is in the list, and its flag is set
abbrev pub is_flagged : ℕ → ℕ → List (ℕ × ℕ) → List Bool → Bool
is_flagged d s [] flags = false
is_flagged d s (pair ∷ pairs) [] = false
is_flagged d s (pair ∷ pairs) (flag ∷ flags) = (is_pair d s pair && flag) || is_flagged d s pairs flags

-- the state that a scheduler is in
abbrev pub state_in : SchedulerView → State
state_in v =
    record {
      drained = λ d s. is_flagged d s v.moves.pairs v.flags;
      claimed = λ r. claimant_of (slice_index_or v.progress r Unclaimed);
      filled = λ r. is_filled (slice_index_or v.progress r Unclaimed);
      settled = λ r. is_settled (slice_index_or v.progress r Unclaimed);
    }

-- the number of regions from which d has still to copy words
abbrev pub sources_left : MoveTable → State → ℕ → ℕ
sources_left m now d = count_by (λ pair. d == pair.0 && not (now.drained pair.0 pair.1)) m.pairs

-- the counts that a scheduler keeps besides its state
pub record AreCounts (v : SchedulerView) (readers sources : List ℕ) (left : ℕ) : Type 0 where
  pub readers_all : length readers ≡ region_count v.moves
  pub sources_all : length sources ≡ region_count v.moves
  pub readers_are : (s : ℕ) → s < region_count v.moves → slice_index readers s ≡ readers_left v.moves (state_in v) s
  pub sources_are : (d : ℕ) → d < region_count v.moves → slice_index sources d ≡ sources_left v.moves (state_in v) d
  pub left_is : left ≡ unsettled v.moves (state_in v)

-- the invariant of a scheduler
pub record IsKept (v : SchedulerView) (readers sources : List ℕ) (left : ℕ) : Type 0 where
  pub table : IsMoveTable v.moves
  pub flags_all : length v.flags ≡ length v.moves.pairs
  pub progress_all : length v.progress ≡ region_count v.moves
  pub claimed_to_fill : (r worker : ℕ) → (state_in v).claimed r ≡ Some worker → IsTrue (to_fill v.moves r)
  pub counts : AreCounts v readers sources left

-- the moves and the workers stay; the event is a step with this reply, or it isn't allowed and nothing changes
pub record Steps (old : SchedulerView) (worker : ℕ) (event : Event) (result : Result Reply Illegal) (new : SchedulerView) : Type 0 where
  pub moves : new.moves ≡ old.moves
  pub workers : new.workers ≡ old.workers
  pub step : MatchResult result (λ reply. IsStep old.moves (state_in old) worker event reply (state_in new)) (λ e. (new ≡ old) × ¬ (Allows old.moves (state_in old) worker event))

-- the pair is at this index and isn't drained
pub record IsPendingAt (v : SchedulerView) (d s at : ℕ) : Type 0 where
  pub inside : at < length v.moves.pairs
  pub is : slice_index_or v.moves.pairs at (d, s) ≡ (d, s)
  pub undrained : slice_index_or v.flags at false ≡ false

-- for each region, the number of pairs that have it at this end
pub record ArePairCounts (m : MoveTable) (end_of : ℕ × ℕ → ℕ) (pairs : List (ℕ × ℕ)) (counts : List ℕ) : Type 0 where
  pub all : length counts ≡ region_count m
  pub each : (r : ℕ) → r < region_count m → slice_index counts r ≡ count_by (λ pair. r == end_of pair) pairs
