-- A board that keeps the regions of an image, or those of opaque objects.
use Rattle.std.specs.Prelude.{◌≡◌, ℕ, ◌<◌, Bool, MatchBool}
use Rattle.object_heap.specs.HeapImage.{HeapImage, region_count, block_of}
use Rattle.summary.specs.RegionData.{fill_count}
use Rattle.scheduler.specs.ImageMoves.{image_table}
use Rattle.claim_board.specs.declared.regions.region_board.RegionBoard.{RegionBoard}
use Rattle.claim_board.specs.RegionBoards.{moves as moves_of, original_words, moved_words}
use Rattle.region_cells.specs.Blocks.{moved_block}
use Rattle.fill.specs.SlidWords.{AreWhole, slid_block}

-- The board's moves are the image's, its regions have the image's words, and each to be filled gets its moved words.
pub record KeepsImage (image : HeapImage) (b : RegionBoard) : Type 0 where
  pub moves : moves_of b ≡ image_table image
  pub original : (r : ℕ) → r < region_count image → original_words b r ≡ block_of image r
  pub moved : (r : ℕ) → r < fill_count image → moved_words b r ≡ moved_block image r

-- The board's moves are the image's, and its regions hold the words of opaque objects, which lie where those of the image do.
-- Each region to be filled gets its words once all live ones have slid.
pub record KeepsOpaque (image : HeapImage) (b : RegionBoard) : Type 0 where
  pub moves : moves_of b ≡ image_table image
  pub whole : AreWhole image (original_words b)
  pub slid : (r : ℕ) → r < fill_count image → moved_words b r ≡ slid_block image (original_words b) r

-- what the board keeps: objects with headers, whose references are redirected, or opaque ones
abbrev pub Keeps : Bool → HeapImage → RegionBoard → Type 0
Keeps redirects image b = MatchBool redirects (KeepsImage image b) (KeepsOpaque image b)
