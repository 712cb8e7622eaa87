-- What a seat holds that has claimed a region.
use Rattle.std.specs.Prelude.{◌≡◌, ℕ, suc, ◌-◌, ◌<◌, List, ◌∷◌, ◌++◌, length, slice_index_or, Option, None}
use Rattle.scheduler.specs.MoveTable.{MoveTable, IsFirstPlace}
use Rattle.claim_board.specs.declared.rule.table_key.TableKey.{TableKey}
use Rattle.claim_board.specs.Slots.{region_slot, touches, taken, first_of_slot}

-- the slot of the pair at this index
abbrev pub pair_slot : MoveTable → ℕ → ℕ
pair_slot m p = length m.pairs - suc p

-- the slots of the pairs from index p on that have the region at an end, with their first values, in the order of the pairs
abbrev pub still_out : {X : Type 0} → TableKey X → ℕ → ℕ → List (ℕ × Option X)
still_out k r p = taken (first_of_slot k) (touches k.moves r) (length k.moves.pairs - p)

-- All sources of the region below `next` are opened and drained: the slots of the other sources are held with their first
-- values, and behind them those that were emptied, the region's first. The next source's pair has the index `at`.
pub record IsHolding {X : Type 0} (k : TableKey X) (r next at : ℕ) (held : List (ℕ × Option X)) : Type 0 where
  pub first : IsFirstPlace k.moves.pairs r next at
  pub others : List (ℕ × Option X)
  pub held_is : held ≡ still_out k r at ++ (region_slot k.moves r, None) ∷ others

-- The same while the source s is open: its slot is on top, and the value that was in it is out.
pub record IsReading {X : Type 0} (k : TableKey X) (r s next at : ℕ) (value : Option X) (held : List (ℕ × Option X)) : Type 0 where
  pub first : IsFirstPlace k.moves.pairs r next at
  pub place : ℕ
  pub behind : at ≡ suc place
  pub inside : place < length k.moves.pairs
  pub pair : slice_index_or k.moves.pairs place (0, 0) ≡ (r, s)
  pub value_is : value ≡ first_of_slot k (pair_slot k.moves place)
  pub others : List (ℕ × Option X)
  pub held_is : held ≡ (pair_slot k.moves place, None) ∷ (still_out k r at ++ (region_slot k.moves r, None) ∷ others)
