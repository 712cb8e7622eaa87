-- What is known of a row.
use Rattle.std.specs.Prelude.{◌≡◌, ℕ, suc, ◌-◌, List, reverse}
use Rattle.box_row.specs.Handles.{place_of}
use Rattle.box_row.specs.declared.place.InRow.{InRow}
use Rattle.box_row.specs.declared.row.Row.{Row}

module _ {X : Type 0} where
  -- the values that are in
  abbrev pub items : Row X → List X
  items row = reverse row.rest.items

  -- the place of the value with this index: the last value has the first place
  abbrev pub spot : Row X → ℕ → InRow
  spot row index = place_of row.rest.row (row.count - suc index)

  -- the same row, with more values in, or fewer
  abbrev pub IsSameRow : Row X → Row X → Type 0
  IsSameRow old new = (new.count ≡ old.count) × ((index : ℕ) → spot new index ≡ spot old index)
