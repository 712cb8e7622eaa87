use Rattle.std.proofs.Common.{[], map}
use Rattle.std.specs.Prelude.{slice_index_or}
use Rattle.std.specs.List.{range_with_len}
use Rattle.object_heap.specs.HeapImage.{region_count}
use Rattle.fill.specs.SlidWords.{slid_block}
use Rattle.collector.proofs.slide.Slide.board.Given as goal

abbrev pub ghosts-new : goal.ghosts-new
ghosts-new a = record { words = map (slid_block a.moves.now (λ r. slice_index_or a.regions.items r [])) (range_with_len 0 (region_count a.moves.now)) }
