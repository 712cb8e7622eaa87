-- Where the collection of a handle takes the words of its heap.
use Rattle.std.specs.Prelude.{◌≡◌, ◌⊎◌, ℕ, ◌&&◌, nat_lt, true, false, if◌then◌else◌, Option, Some, None, MatchOption}
use Rattle.object_heap.specs.HeapImage.{HeapImage, heap_words, is_live_word}
use Rattle.mark_bitmap.specs.Marks.{IsObjectOver}
use Rattle.summary.specs.WordMoves.{slid}
use Rattle.collector.specs.Slides.{IsNextObject}

-- the new address of the word at this address, if a live object has it
abbrev pub IsNewAddress : HeapImage → ℕ → Option ℕ → Type 0
IsNewAddress image a result = MatchOption result ((nat_lt a (heap_words image) && is_live_word image a) ≡ false)
    (λ to. ((nat_lt a (heap_words image) && is_live_word image a) ≡ true) × (to ≡ slid image a))

-- that address, or the greatest word
abbrev pub new_address_in : HeapImage → ℕ → ℕ
new_address_in image a = if nat_lt a (heap_words image) && is_live_word image a then slid image a else 18446744073709551615

-- the first address from this one on at which an object begins, or the greatest word if there is none
abbrev pub IsNextAddress : HeapImage → ℕ → ℕ → Type 0
IsNextAddress image from found = (IsNextObject image from None × (found ≡ 18446744073709551615)) ⊎ IsNextObject image from (Some found)

-- the address of the live object that has the word at this address, or the greatest word if there is none
abbrev pub IsObjectAddress : HeapImage → ℕ → ℕ → Type 0
IsObjectAddress image address found = ((is_live_word image address ≡ false) × (found ≡ 18446744073709551615)) ⊎ IsObjectOver image address found
