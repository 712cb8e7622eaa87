-- The figures of an image, and their text.
use Rattle.std.specs.Prelude.{◌≡◌, ℕ, List, ◌++◌, codes, decimal, length}
use Rattle.object_heap.specs.HeapImage.{HeapImage, heap_words, roots_of}
use Rattle.heap_maker.specs.declared.figures.GenerationFigures.{GenerationFigures}

-- words, roots and live objects are those of the image
pub record AreFiguresOf (image : HeapImage) (figures : GenerationFigures) : Type 0 where
  pub words : figures.words ≡ heap_words image
  pub roots : figures.roots ≡ length (roots_of image)
  pub live : figures.live ≡ length image.live

-- the line that reports them, without its newline
abbrev pub figures_text : GenerationFigures → List ℕ
figures_text figures =
    codes "words " ++ (decimal figures.words ++ (codes " objects " ++ (decimal figures.objects
    ++ (codes " roots " ++ (decimal figures.roots ++ (codes " live " ++ decimal figures.live))))))
