-- The cells of a map: their words, their live words and their areas.
use Rattle.std.specs.Prelude.{ℕ, ◌+◌, ◌-◌, ◌*◌, ◌/◌, min, max, ◌&&◌, nat_le, ◌==◌, if◌then◌else◌, List, map}
use Rattle.std.specs.List.{range_with_len}
use Rattle.object_heap.specs.HeapImage.{HeapImage, heap_words, last_end, live_words}
use Rattle.summary.specs.NewAddresses.{prefix_end, new_top}
use Rattle.summary.specs.Compaction.{compact}
use Rattle.heap_map.specs.declared.area.Area.{Area}
use Rattle.heap_map.specs.declared.area.Area.TheVariants.{Prefix, Fillers, Moving, Free}
use Rattle.heap_map.specs.declared.cell.Cell.{Cell}

-- the first word of cell i of n, in a heap of this size; the cell ends where the next one begins
abbrev pub cell_start : ℕ → ℕ → ℕ → ℕ
cell_start words n i = i * words / n

-- The area of a cell, by the numbers of its words below the prefix end, below the top, of all its words and of its live ones:
-- the part that has most of its words, and of parts of the same size the lower one.
abbrev pub largest_of : ℕ → ℕ → ℕ → ℕ → Area
largest_of low high all live =
    if nat_le (high - low) low && nat_le (all - high) low then (if live == all then Prefix else Fillers)
    else (if nat_le (all - high) (high - low) then Moving else Free)

-- the area of the words from one address up to another, of which some are live, where the dense prefix ends at prefix and
-- the last live object at top
abbrev pub area_of : ℕ → ℕ → ℕ → ℕ → ℕ → Area
area_of prefix top from to live = largest_of (min prefix to - from) (min (max prefix top) to - from) (to - from) live

-- the cell of the words from one address up to another
abbrev pub cell_between : HeapImage → ℕ → ℕ → ℕ → ℕ → Cell
cell_between heap prefix top from to = record {
  from = from;
  to = to;
  live = live_words heap from to;
  area = area_of prefix top from to (live_words heap from to);
}

-- cell i of n
abbrev pub cell_at : HeapImage → ℕ → ℕ → ℕ → ℕ → Cell
cell_at heap prefix top n i = cell_between heap prefix top (cell_start (heap_words heap) n i) (cell_start (heap_words heap) n (i + 1))

-- the n cells of a heap
abbrev pub cells_of : HeapImage → ℕ → ℕ → ℕ → List Cell
cells_of heap prefix top n = map (cell_at heap prefix top n) (range_with_len 0 n)

module _ (image : HeapImage) where
  -- the number of cells of a map: at most one per word
  abbrev pub cell_count : ℕ → ℕ
  cell_count most = min (heap_words image) most

  -- the cells of the heap as it is
  abbrev pub cells_before : ℕ → List Cell
  cells_before most = cells_of image (prefix_end image) (last_end image) (cell_count most)

  -- the cells of the compacted heap
  abbrev pub cells_after : ℕ → List Cell
  cells_after most = cells_of (compact image) (prefix_end image) (new_top image) (cell_count most)
