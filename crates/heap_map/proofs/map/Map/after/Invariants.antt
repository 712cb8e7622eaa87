use Rattle.std.proofs.Common.{◌≡◌}
use Rattle.std.specs.Prelude.{map}
use Rattle.std.specs.List.{range_with_len}
use Rattle.summary.specs.Compaction.{compact}
use Rattle.summary.specs.NewAddresses.{new_top, prefix_end}
use Rattle.heap_map.specs.Cells.{cell_at}
use Rattle.heap_map.proofs.map.Map.after.Given as goal

abbrev pub invariant-loop-i : goal.invariant-loop-i
invariant-loop-i l = l.cells.items ≡ map (cell_at (compact l.image) (prefix_end l.image) (new_top l.image) l.count) (range_with_len 0 l.i)
