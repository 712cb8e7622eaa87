-- What the words of a table tell of its slots, once no thread shares it any more.
use Rattle.std.specs.Prelude.{◌≡◌, ◌≢◌, ℕ, suc, ◌<◌, ◌≤◌, ◌^◌, ◌==◌, ◌||◌, Bool, true, false, List, length, slice_index, slice_index_or, Option}
use Rattle.scheduler.specs.MoveTable.{MoveTable, IsMoveTable, region_count}
use Rattle.claim_board.specs.declared.regions.holding.Holding.{Holding}
use Rattle.claim_board.specs.Places.{source_at}
use Rattle.claim_board.specs.Slots.{all_slots}
use Rattle.claim_board.specs.Unions.{IsComplete, AreEmptied}

-- it is the word of a claimed region, filled or not
abbrev pub is_claimed_word : ℕ → Bool
is_claimed_word n = n == 8 || n == 12

abbrev pub destination_at : MoveTable → ℕ → ℕ
destination_at m p = (slice_index_or m.pairs p (0, 0)).0

-- The region isn't claimed, and none of its readers is being filled.
pub record IsHome (m : MoveTable) (words : List ℕ) (r : ℕ) : Type 0 where
  pub unclaimed : is_claimed_word (slice_index words r) ≡ false
  pub readers : (p : ℕ) → p < length m.pairs → source_at m p ≡ r → slice_index words (destination_at m p) ≢ 8

-- All that is home by the words is in the slots.
pub record AreAsWordsSay (m : MoveTable) (words : List ℕ) (values : List (Option Holding)) : Type 0 where
  pub table : IsMoveTable m
  pub long : length words ≡ suc (region_count m)
  pub size : length values ≡ all_slots m
  pub small : all_slots m < 2 ^ 64
  pub complete : (r : ℕ) → r < region_count m → IsHome m words r → IsComplete m r values

-- the words can be read
abbrev pub AreThere : List ℕ → List Bool → Type 0
AreThere words there = (k : ℕ) → k < length words → slice_index_or there k false ≡ true

-- The slots of the regions below n are emptied, and the other regions are as complete as at first.
pub record AreFreed (m : MoveTable) (n : ℕ) (first now : List (Option Holding)) (was_left is_left : ℕ → Bool) : Type 0 where
  pub emptied : AreEmptied m n was_left is_left
  pub complete : (r : ℕ) → n ≤ r → IsComplete m r first → IsComplete m r now
