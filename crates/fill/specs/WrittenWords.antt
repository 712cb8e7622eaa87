-- The words of the region that is filled, from one moment to the next.
use Rattle.std.specs.Prelude.{◌≡◌, ℕ, List, length}
use Rattle.object_heap.specs.HeapImage.{HeapImage, region_words, start_of}
use Rattle.region_cells.specs.Blocks.{moved_block}
use Rattle.fill.specs.WordBlocks.{IsSplitAt}
use Rattle.fill.specs.CopiedWords.{written_to}
use Rattle.fill.specs.SlidWords.{held_word, slid_word}

-- other words, but as many, of which P holds
pub record Becomes (P : List ℕ → Type 0) (before after : List ℕ) : Type 0 where
  pub same_length : length after ≡ length before
  pub now : P after

-- as many words as a region of the heap has
abbrev pub IsBlockOf : HeapImage → List ℕ → Type 0
IsBlockOf heap words = length words ≡ region_words heap

-- the words that region d held at the start
abbrev pub IsUnwritten : (ℕ → List ℕ) → ℕ → List ℕ → Type 0
IsUnwritten held d words = words ≡ held d

-- The words of region d, once those from all regions below `from` are copied and it is written up to `to`. The regions held
-- these words at the start.
pub record IsCopied (heap : HeapImage) (held : ℕ → List ℕ) (d from to : ℕ) (words : List ℕ) : Type 0 where
  pub block : IsBlockOf heap words
  pub place : to ≡ written_to heap (start_of heap d) (start_of heap from)
  pub split : IsSplitAt (slid_word heap held) (held_word heap held) (start_of heap d) words to

-- the moved words of region d
abbrev pub IsMoved : HeapImage → ℕ → List ℕ → Type 0
IsMoved heap d words = words ≡ moved_block heap d
