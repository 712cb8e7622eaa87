-- The moves of an image as a table.
use Rattle.std.specs.Prelude.{ℕ, not, ◌&&◌, ◌==◌, List, map, filter, flat_map}
use Rattle.std.specs.List.{range_with_len}
use Rattle.object_heap.specs.HeapImage.{HeapImage, region_count}
use Rattle.summary.specs.WordMoves.{reads, is_to_fill}
use Rattle.scheduler.specs.MoveTable.{MoveTable}

module _ (image : HeapImage) where
  abbrev regions : List ℕ
  regions = range_with_len 0 (region_count image)

  -- a pair for each other region from which region d takes words, ascending
  abbrev pub pairs_into : ℕ → List (ℕ × ℕ)
  pairs_into d = map (λ s. (d, s)) (filter (λ s. not (d == s) && reads image d s) regions)

  -- the regions to be filled, and the pairs of regions between which words go
  abbrev pub image_table : MoveTable
  image_table = record { fill = map (is_to_fill image) regions; pairs = flat_map pairs_into regions }
