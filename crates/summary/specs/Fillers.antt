-- The fillers, which make the dead words of the dense prefix walkable.
use Rattle.std.specs.Prelude.{◌≡◌, ℕ, ◌+◌, ◌-◌, ◌*◌, ◌/◌, ◌%◌, ◌<◌, ◌≤◌, ◌||◌, ◌==◌, min, Bool, true, false, if◌then◌else◌}
use Rattle.std.specs.List.{range_with_len, prefix_len}
use Rattle.object_heap.specs.Header.{filler_header}
use Rattle.object_heap.specs.HeapImage.{HeapImage, is_live_word, is_dead_word}
use Rattle.summary.specs.NewAddresses.{prefix_end}

module _ (image : HeapImage) where
  -- the greatest end of a filler that begins at p: the prefix end, or the next multiple of 2 ^ 31, so that a size fits
  -- its 32 bits
  abbrev pub filler_limit : ℕ → ℕ
  filler_limit p = min (prefix_end image) ((p / 2147483648 + 1) * 2147483648)

  -- the number of consecutive dead words from p on, up to that limit
  abbrev pub gap_at : ℕ → ℕ
  gap_at p = prefix_len (is_dead_word image) (range_with_len p (filler_limit p - p))

  -- p is a multiple of 2 ^ 31, or follows a live word
  abbrev pub may_begin_filler : ℕ → Bool
  may_begin_filler p = (p % 2147483648 == 0) || is_live_word image (p - 1)

  -- Each maximal run of dead words below the prefix end becomes one filler, or one in each 2 ^ 31 words: a header at
  -- its first word, then zeros.
  abbrev pub filler_word : ℕ → ℕ
  filler_word p = if may_begin_filler p then filler_header (gap_at p) else 0

-- a maximal run of dead words, from a up to b, cut at the prefix end and at multiples of 2 ^ 31
pub record IsDeadRun (image : HeapImage) (a b : ℕ) : Type 0 where
  pub some : a < b
  pub inside : b ≤ filler_limit image a
  pub dead : (q : ℕ) → a ≤ q → q < b → is_live_word image q ≡ false
  pub begins : 0 < a % 2147483648 → is_live_word image (a - 1) ≡ true
  pub ends : b < filler_limit image a → is_live_word image b ≡ true
