-- How contracts view a region that is read, written or put back.
use Rattle.std.specs.Prelude.{ℕ, List}
use Rattle.object_heap.specs.HeapImage.{HeapImage, block_of}
use Rattle.claim_board.specs.declared.tokens.opening.Opening.{Opening}
use Rattle.claim_board.specs.declared.tokens.right.Right.{Right}

-- a region of an image, by its number
pub record ImageRegion : Type 0 where
  pub image : HeapImage
  pub region : ℕ

-- a region of an image that is read with this opening
pub record Reading : Type 0 where
  pub image : HeapImage
  pub opening : Opening

-- the words that are read
abbrev pub source_words : Reading → List ℕ
source_words s = block_of s.image s.opening.source

-- a region of an image that is written with this right, and its current words
pub record Writing : Type 0 where
  pub image : HeapImage
  pub right : Right
  pub words : List ℕ
