-- A block as words are written into it.
use Rattle.std.proofs.Common.{◌≡◌, ℕ, ◌+◌, ◌-◌, ◌≤◌, ◌<◌, inl, inr, List, ◌++◌, length, get_or, take, drop, set, refl, ◌∙◌, ap, arith, length-append, length-take, length-drop}
use Rattle.std.proofs.lemmas.Bool.{cases_lt, cases_eq}
use Rattle.std.proofs.lemmas.List.{length-set, get_or-set_same, get_or-set_other, get_or-drop, get_or-take, get_or-append_right, get_or_append_left}
use Rattle.raw_region.specs.Region.{with_words, part}
use Rattle.fill.specs.WordBlocks.{IsSplitAt, Shows}

pub length-part : (xs : List ℕ) (from n : ℕ) → from + n ≤ length xs → length (part xs from n) ≡ n
length-part xs from n h = omega (arith, length-take n (drop from xs), length-drop from xs)

pub length-with_words : (xs ys : List ℕ) (at : ℕ) → at + length ys ≤ length xs → length (with_words xs at ys) ≡ length xs
length-with_words xs ys at h = let rest = drop (at + length ys) xs in omega (arith, length-append (take at xs) (ys ++ rest), length-append ys rest, length-take at xs, length-drop (at + length ys) xs)

pub get_or-part : (xs : List ℕ) (from n k : ℕ) → k < n → get_or (part xs from n) k 0 ≡ get_or xs (from + k) 0
get_or-part xs from n k l = get_or-take n (drop from xs) k 0 l ∙ get_or-drop from xs k 0

pub get_or-written_below : (xs ys : List ℕ) (at k : ℕ) → at + length ys ≤ length xs → k < at → get_or (with_words xs at ys) k 0 ≡ get_or xs k 0
get_or-written_below xs ys at k h l =
    let long = length-take at xs in
    get_or_append_left (take at xs) (ys ++ drop (at + length ys) xs) 0 k (omega arith) ∙ get_or-take at xs k 0 l

pub get_or-written_at : (xs ys : List ℕ) (at k j : ℕ) → at + length ys ≤ length xs → k ≡ at + j → j < length ys → get_or (with_words xs at ys) k 0 ≡ get_or ys j 0
get_or-written_at xs ys at k j h e l =
    let long = length-take at xs in
    let less : k - at ≡ j = omega arith in
    get_or-append_right (take at xs) (ys ++ drop (at + length ys) xs) at k 0 (omega arith) (omega arith)
    ∙ ap (λ i. get_or (ys ++ drop (at + length ys) xs) i 0) less
    ∙ get_or_append_left ys (drop (at + length ys) xs) 0 j l

pub get_or-written_above : (xs ys : List ℕ) (at k : ℕ) → at + length ys ≤ length xs → at + length ys ≤ k → get_or (with_words xs at ys) k 0 ≡ get_or xs k 0
get_or-written_above xs ys at k h l =
    let long = length-take at xs in
    let same : at + length ys + (k - at - length ys) ≡ k = omega arith in
    get_or-append_right (take at xs) (ys ++ drop (at + length ys) xs) at k 0 (omega arith) (omega arith)
    ∙ get_or-append_right ys (drop (at + length ys) xs) (length ys) (k - at) 0 refl (omega arith)
    ∙ get_or-drop (at + length ys) xs (k - at - length ys) 0
    ∙ ap (λ i. get_or xs i 0) same

module _ (f g : ℕ → ℕ) (start : ℕ) where
  pub split_none : (xs : List ℕ) → Shows g start xs → IsSplitAt f g start xs start
  split_none xs h = record { below = λ k l m. (let no : ⊥ = omega arith in absurd no); above = λ k l m. h k l }

  pub split_all : (xs : List ℕ) (p : ℕ) → IsSplitAt f g start xs p → start + length xs ≤ p → Shows f start xs
  split_all xs p h m = λ k l. h.below k l (omega arith)

  -- the words zs of f written at p
  pub split_more : (xs zs : List ℕ) (p : ℕ) → IsSplitAt f g start xs p → start ≤ p → p + length zs ≤ start + length xs
      → ((j : ℕ) → j < length zs → get_or zs j 0 ≡ f (p + j)) → IsSplitAt f g start (with_words xs (p - start) zs) (p + length zs)
  split_more xs zs p h low high each =
      let at : ℕ = p - start in
      let long = length-with_words xs zs at (omega arith) in
      record {
        below = λ k l m. elim (cases_lt k at) [
          | inl before ↦ get_or-written_below xs zs at k (omega arith) before ∙ h.below k (omega arith) (omega arith)
          | inr from ↦
              let j : ℕ = k - at in
              let same : p + j ≡ start + k = omega arith in
              get_or-written_at xs zs at k j (omega arith) (omega arith) (omega arith) ∙ each j (omega arith) ∙ ap f same
        ];
        above = λ k l m. get_or-written_above xs zs at k (omega arith) (omega arith) ∙ h.above k (omega arith) (omega arith);
      }

  -- one word of f written at p
  pub split_set : (xs : List ℕ) (p w : ℕ) → IsSplitAt f g start xs p → start ≤ p → p < start + length xs → w ≡ f p → IsSplitAt f g start (set xs (p - start) w) (p + 1)
  split_set xs p w h low high e =
      let at : ℕ = p - start in
      let long = length-set xs at w in
      record {
        below = λ k l m. elim (cases_eq k at) [
          | inl same ↦
              let here : p ≡ start + k = omega arith in
              ap (λ i. get_or (set xs at w) i 0) same ∙ get_or-set_same xs at w 0 (omega arith) ∙ e ∙ ap f here
          | inr other ↦ get_or-set_other xs at k w 0 other ∙ h.below k (omega arith) (omega arith)
        ];
        above = λ k l m. get_or-set_other xs at k w 0 (omega arith) ∙ h.above k (omega arith) (omega arith);
      }

  -- where f and g agree nothing needs to be written
  pub split_skip : (xs : List ℕ) (p q : ℕ) → IsSplitAt f g start xs p → p ≤ q → ((a : ℕ) → p ≤ a → a < q → a < start + length xs → g a ≡ f a) → IsSplitAt f g start xs q
  split_skip xs p q h l same = record {
    below = λ k m n. elim (cases_lt (start + k) p) [
      | inl before ↦ h.below k m before
      | inr from ↦ h.above k m from ∙ same (start + k) from n (omega arith)
    ];
    above = λ k m n. h.above k m (omega arith);
  }
