-- The handle of a box at a place of a row.
use Rattle.std.specs.Prelude.{ℕ}
use Rattle.std.specs.Ptr.{Ptr}
use Rattle.box_row.specs.declared.place.InRow.{InRow}

abbrev pub place_of : Ptr → ℕ → InRow
place_of row index = record { row = row; index = index }
