-- The figures of an image, and their text.
use Rattle.std.specs.Prelude.{◌≡◌, ℕ, List, ◌++◌, ◌-◌, codes, decimal, length}
use Rattle.object_heap.specs.HeapImage.{HeapImage, heap_words, roots_of}
use Rattle.heap_dump.specs.Listing.{HasObjects}
use Rattle.heap_dump.specs.declared.figures.ImportFigures.{ImportFigures}

-- words, objects, roots and live objects are those of the image, and all other objects are dead
pub record AreFiguresOf (image : HeapImage) (figures : ImportFigures) : Type 0 where
  pub words : figures.words ≡ heap_words image
  pub objects : HasObjects image figures.objects
  pub roots : figures.roots ≡ length (roots_of image)
  pub live : figures.live ≡ length image.live
  pub dead : figures.dead ≡ figures.objects - figures.live

-- the line that reports them, without its newline
abbrev pub figures_text : ImportFigures → List ℕ
figures_text figures =
    codes "words " ++ (decimal figures.words ++ (codes " objects " ++ (decimal figures.objects
    ++ (codes " roots " ++ (decimal figures.roots ++ (codes " live " ++ (decimal figures.live
    ++ (codes " dead " ++ (decimal figures.dead ++ (codes " dropped-gaps " ++ (decimal figures.dropped_gaps
    ++ (codes " unresolved " ++ decimal figures.unresolved))))))))))))
