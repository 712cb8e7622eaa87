use Rattle.std.proofs.Common.{◌≡◌, ◌++◌, take}
use Rattle.std.specs.Prelude.{flat_map, string_bytes}
use Rattle.heap_map.specs.Text.{area_mark}
use Rattle.heap_map.proofs.strips.write_areas.Given as goal

abbrev pub invariant-loop-cell : goal.invariant-loop-cell
invariant-loop-cell l = string_bytes l.text ≡ string_bytes l.fn.text ++ flat_map (area_mark l.style) (take l.cell-index l.cells)
