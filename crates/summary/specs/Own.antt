-- Images that have the layout of images in files.
use Rattle.std.specs.Prelude.{◌≡◌, ℕ, List, map}
use Rattle.object_heap.specs.Header.{size_of, references_of}
use Rattle.object_heap.specs.Layout.{Own, size_in, references_in, reference_in}
use Rattle.object_heap.specs.HeapImage.{HeapImage}
use Rattle.summary.specs.Compaction.{redirected, redirected_word}

-- sizes and references are those of the headers, and a reference is the word itself
pub record IsOwn (image : HeapImage) : Type 0 where
  pub layout : image.layout ≡ Own
  pub sizes : (w : ℕ) → size_in image.layout w ≡ size_of w
  pub references : (w : ℕ) → references_in image.layout w ≡ references_of w
  pub leads : (w : ℕ) → reference_in image.layout w ≡ w
  pub redirects : (w : ℕ) → redirected_word image w ≡ redirected image w
  pub redirects_all : (ws : List ℕ) → map (redirected_word image) ws ≡ map (redirected image) ws
