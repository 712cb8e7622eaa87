-- The figures of a heap, and how they are printed.
use Rattle.std.specs.Prelude.{◌≡◌, ℕ, List, ◌++◌, codes, decimal, count_by}
use Rattle.std.specs.List.{range_with_len}
use Rattle.object_heap.specs.HeapImage.{HeapImage, heap_words, is_dead_word, live_words}
use Rattle.summary.specs.NewAddresses.{prefix_end, new_top}
use Rattle.summary.specs.RegionData.{fill_count}
use Rattle.heap_map.specs.declared.figures.MapFigures.{MapFigures}

-- the figures are those of this heap
pub record AreFiguresOf (image : HeapImage) (figures : MapFigures) : Type 0 where
  pub words : figures.words ≡ heap_words image
  pub live : figures.live ≡ live_words image 0 (heap_words image)
  pub dead : figures.dead ≡ count_by (is_dead_word image) (range_with_len 0 (heap_words image))
  pub prefix_end : figures.prefix_end ≡ prefix_end image
  pub new_top : figures.new_top ≡ new_top image
  pub filled : figures.filled ≡ fill_count image

-- the line with the figures, without its line feed
abbrev pub figures_text : MapFigures → List ℕ
figures_text figures =
    codes "words " ++ (decimal figures.words ++ (codes " live " ++ (decimal figures.live
    ++ (codes " dead " ++ (decimal figures.dead ++ (codes " prefix " ++ (decimal figures.prefix_end
    ++ (codes " top " ++ (decimal figures.new_top ++ (codes " filled " ++ decimal figures.filled))))))))))
