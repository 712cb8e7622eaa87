-- The dense prefix, the new addresses of the live objects and the new top.
use Rattle.std.specs.Prelude.{◌≡◌, ℕ, zero, suc, ◌+◌, ◌*◌, ◌/◌, ◌%◌, ◌≤◌, max, Bool, nat_lt, nat_le, if◌then◌else◌, List, filter, map, fold, count_by}
use Rattle.std.specs.List.{range_with_len}
use Rattle.object_heap.specs.HeapImage.{HeapImage, region_words, size_at, end_of, is_dead_word, last_end}

-- the greatest number up to n that passes the test, or 0 if none does
abbrev pub greatest : (ℕ → Bool) → ℕ → ℕ
greatest test zero = zero
greatest test (suc n) = if test (suc n) then suc n else greatest test n

module _ (image : HeapImage) where
  abbrev pub dead_words_below : ℕ → ℕ
  dead_words_below b = count_by (is_dead_word image) (range_with_len 0 b)

  -- region r has no more dead words below it than the allowance
  abbrev pub is_allowed : ℕ → Bool
  is_allowed r = nat_le (dead_words_below (r * region_words image)) image.allowance

  -- The dense prefix ends at the last region start that is not above the end of the last live object and has no more
  -- dead words below it than the allowance.
  abbrev pub prefix_end : ℕ
  prefix_end = greatest is_allowed (last_end image / region_words image) * region_words image

  -- objects that begin in the dense prefix stay
  abbrev pub stays : ℕ → Bool
  stays a = nat_lt a prefix_end

  -- The next free address after the object at a is placed. An object that stays is skipped if it ends above; any other
  -- is placed there.
  abbrev pub next_after : ℕ → ℕ → ℕ
  next_after next a = if stays a then max next (end_of image a) else next + size_at image a

  -- the next free address after all live objects below a are placed
  abbrev pub next_at : ℕ → ℕ
  next_at a = fold next_after prefix_end (filter (λ b. nat_lt b a) image.live)

  abbrev pub new_address : ℕ → ℕ
  new_address a = if stays a then a else next_at a

  -- the address after the last word of the object at a at its new address
  abbrev pub new_end_of : ℕ → ℕ
  new_end_of a = new_address a + size_at image a

  -- the new top: the next free address after all live objects are placed
  abbrev pub new_top : ℕ
  new_top = fold next_after prefix_end image.live

  abbrev pub new_live : List ℕ
  new_live = map new_address image.live

-- The prefix end by its property: the greatest region start that is not above the end of the last live object and has
-- no more dead words below it than the allowance.
pub record IsPrefixEnd (image : HeapImage) (b : ℕ) : Type 0 where
  pub aligned : b % region_words image ≡ 0
  pub below_end : b ≤ last_end image
  pub allowed : dead_words_below image b ≤ image.allowance
  pub greatest : (c : ℕ) → c % region_words image ≡ 0 → c ≤ last_end image → dead_words_below image c ≤ image.allowance → c ≤ b
