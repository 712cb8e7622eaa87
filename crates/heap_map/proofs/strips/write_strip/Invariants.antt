use Rattle.std.proofs.Common.{◌≡◌, ◌++◌, max}
use Rattle.std.specs.Prelude.{flat_map, string_bytes}
use Rattle.std.specs.List.{range_with_len}
use Rattle.heap_map.specs.Text.{name_of_row, row_of, row_text}
use Rattle.heap_map.proofs.strips.write_strip.Given as goal

abbrev pub invariant-loop-i : goal.invariant-loop-i
invariant-loop-i l = string_bytes l.text ≡ string_bytes l.fn.text
    ++ flat_map (λ i. row_text l.style l.shape.has_axis (name_of_row l.name i) (row_of (max l.shape.width 1) l.cells i)) (range_with_len 0 l.i)
