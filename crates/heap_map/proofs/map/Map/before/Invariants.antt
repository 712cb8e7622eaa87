use Rattle.std.proofs.Common.{◌≡◌}
use Rattle.std.specs.Prelude.{map}
use Rattle.std.specs.List.{range_with_len}
use Rattle.object_heap.specs.HeapImage.{last_end}
use Rattle.summary.specs.NewAddresses.{prefix_end}
use Rattle.heap_map.specs.Cells.{cell_at}
use Rattle.heap_map.proofs.map.Map.before.Given as goal

abbrev pub invariant-loop-i : goal.invariant-loop-i
invariant-loop-i l = l.cells.items ≡ map (cell_at l.image (prefix_end l.image) (last_end l.image) l.count) (range_with_len 0 l.i)
