-- The figures of a collection, as `collect` and `record` print them.
use Rattle.std.specs.Prelude.{◌≡◌, ℕ, List, ◌++◌, codes, decimal}
use Rattle.object_heap.specs.HeapImage.{HeapImage, IsValid}
use Rattle.collector.specs.Collections.{figures_of}
use Rattle.collector.specs.declared.outcome.Figures.{Figures}

-- the line with the figures of a collection
abbrev pub figures_line : Figures → List ℕ
figures_line figures =
    codes "prefix " ++ (decimal figures.prefix_end ++ (codes " top " ++ (decimal figures.new_top
    ++ (codes " filled " ++ (decimal figures.filled ++ codes "\n")))))

-- the line with the figures of the collection of some valid image
abbrev pub IsFigures : List ℕ → Type 0
IsFigures shown = (image : HeapImage) × IsValid image × (shown ≡ figures_line (figures_of image))
