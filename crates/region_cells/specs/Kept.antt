-- The words of a cell.
use Rattle.std.specs.Prelude.{◌≡◌}
use Rattle.object_heap.specs.HeapImage.{block_of}
use Rattle.region_cells.specs.declared.kept.Kept.{Kept}
use Rattle.region_cells.specs.declared.kept.Kept.TheVariants.{Original, Moved, Spoiled}
use Rattle.region_cells.specs.Blocks.{moved_block}
use Rattle.region_cells.specs.Views.{ImageRegion}

-- what the cell of a region may hold: the original words, the moved words, or words that no one sees
abbrev pub HasWords : ImageRegion → Kept → Type 0
HasWords place (Original words) = words ≡ block_of place.image place.region
HasWords place (Moved words) = words ≡ moved_block place.image place.region
HasWords place Spoiled = Unit {0}
