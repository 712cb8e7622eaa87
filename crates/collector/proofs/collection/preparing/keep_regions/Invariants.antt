use Rattle.std.proofs.Common.{map}
use Rattle.std.specs.List.{range_with_len}
use Rattle.object_heap.specs.HeapImage.{region_count}
use Rattle.region_cells.specs.Blocks.{moved_block}
use Rattle.collector.proofs.collection.preparing.keep_regions.Given as goal

abbrev pub ghosts-new : goal.ghosts-new
ghosts-new a = record { words = map (moved_block a.moves.now) (range_with_len 0 (region_count a.moves.now)) }
