-- Redirection as one count.
use Rattle.std.specs.Prelude.{◌≡◌, ℕ, ◌+◌, ◌-◌, ◌*◌, ◌<◌, Bool, ◌||◌, nat_lt, ◌==◌, List, map, count_by}
use Rattle.std.specs.List.{range_with_len}
use Rattle.std.specs.Int.{bit_at}
use Rattle.object_heap.specs.HeapImage.{HeapImage, IsValid, is_live_word, live_words}
use Rattle.mark_bitmap.specs.Marks.{AreLiveBits, bit_words}
use Rattle.summary.specs.NewAddresses.{prefix_end}

-- the bits of the word say which of 64 consecutive numbers pass the test
abbrev pub AreBits : (ℕ → Bool) → ℕ → ℕ → Type 0
AreBits test first word = (j : ℕ) → j < 64 → (bit_at word j == 1) ≡ test (first + j)

module _ (image : HeapImage) where
  -- null, and 1 plus the address of each word that lies below the prefix end or is live
  abbrev pub is_counted : ℕ → Bool
  is_counted x = (x == 0) || (nat_lt (x - 1) (prefix_end image) || is_live_word image (x - 1))

  -- the number of these below x
  abbrev pub counted_below : ℕ → ℕ
  counted_below x = count_by is_counted (range_with_len 0 x)

  -- the dead words of the dense prefix
  abbrev pub first_rank : ℕ
  first_rank = prefix_end image - live_words image 0 (prefix_end image)

  -- what the redirections of this image keep: its live bits, and for each word of them the live words before it, counted
  -- on from the first rank
  pub record AreRedirections (live ranks : List ℕ) : Type 0 where
    pub valid : IsValid image
    pub are_live : AreLiveBits image live
    pub ranks_are : ranks ≡ map (λ i. first_rank + live_words image 0 (64 * i)) (range_with_len 0 (bit_words image))
