-- Images of the same plan.
use Rattle.std.proofs.Common.{◌≡◌, ℕ, ◌+◌, ◌-◌, ◌*◌, ◌/◌, ◌^◌, max, cond, not, ◌&&◌, List, get_or, ◌∙◌, ap, ap₂, ltb, leb, eqb}
use Rattle.std.proofs.lemmas.List.Elements.{All-filter}
use Rattle.std.specs.Prelude.{All, map, find, filter, fold, flat_map, option_map}
use Rattle.std.specs.List.{list_any, range_with_len}
use Rattle.object_heap.specs.HeapImage.{HeapImage, region_words, size_at, end_of, is_word_of, is_live_word, is_dead_word, live_words, last_end}
use Rattle.summary.specs.NewAddresses.{greatest, dead_words_below, is_allowed, prefix_end, next_after, next_at, new_address, new_live, new_top}
use Rattle.summary.specs.WordMoves.{word_moves, origin, slid}
use Rattle.coded_redirection.specs.SamePlan.{HasSameObjects, HasSamePlan}
use Rattle.coded_redirection.proofs.Lemmas.Lists.{any-same, count-same, fold-same, map-same, flat-same, greatest-same}

module _ (image other : HeapImage) (same : HasSameObjects image other) where
  pub live_word-same : (q : ℕ) → is_live_word other q ≡ is_live_word image q
  live_word-same q =
      ap (list_any (λ a. is_word_of other a q)) same.live
      ∙ any-same (λ a. is_word_of other a q) (λ a. is_word_of image a q) image.live (λ i d l.
      let a : ℕ = get_or image.live i d in ap (λ n. leb a q && ltb q (a + n)) (same.sizes i d l))

  live_words-same : (from to : ℕ) → live_words other from to ≡ live_words image from to
  live_words-same from to = count-same (is_live_word other) (is_live_word image) (range_with_len from (to - from)) live_word-same

  dead_words-same : (b : ℕ) → dead_words_below other b ≡ dead_words_below image b
  dead_words-same b = count-same (is_dead_word other) (is_dead_word image) (range_with_len 0 b) (λ q. ap not (live_word-same q))

  last_end-same : last_end other ≡ last_end image
  last_end-same =
      ap (fold (λ _ a. end_of other a) 0) same.live
      ∙ fold-same (λ _ a. end_of other a) (λ _ a. end_of image a) image.live (λ i d l n. ap (λ s. get_or image.live i d + s) (same.sizes i d l)) 0

module _ (image other : HeapImage) (plan : HasSamePlan image other) where
  abbrev same : HasSameObjects image other
  same = plan.objects

  region-same : region_words other ≡ region_words image
  region-same = ap (λ n. 2 ^ n) plan.region_log

  allowed-same : (r : ℕ) → is_allowed other r ≡ is_allowed image r
  allowed-same r =
      ap (λ w. leb (dead_words_below other (r * w)) other.allowance) region-same
      ∙ ap₂ (λ d n. leb d n) (dead_words-same image other same (r * region_words image)) plan.allowance

  pub prefix_end-same : prefix_end other ≡ prefix_end image
  prefix_end-same =
      ap (λ n. n * region_words other) (greatest-same (is_allowed other) (is_allowed image) allowed-same (last_end other / region_words other))
      ∙ ap₂ (λ e w. greatest (is_allowed image) (e / w) * w) (last_end-same image other same) region-same

  next-same : All (λ a. (n : ℕ) → next_after other n a ≡ next_after image n a) image.live
  next-same i d l n =
      let a : ℕ = get_or image.live i d in
      ap₂ (λ p s. cond (ltb a p) (max n (a + s)) (n + s)) prefix_end-same (same.sizes i d l)

  placed-same : (xs : List ℕ) → All (λ a. (n : ℕ) → next_after other n a ≡ next_after image n a) xs
      → fold (next_after other) (prefix_end other) xs ≡ fold (next_after image) (prefix_end image) xs
  placed-same xs each = ap (λ p. fold (next_after other) p xs) prefix_end-same ∙ fold-same (next_after other) (next_after image) xs each (prefix_end image)

  pub new_top-same : new_top other ≡ new_top image
  new_top-same = ap (fold (next_after other) (prefix_end other)) same.live ∙ placed-same image.live next-same

  next_at-same : (a : ℕ) → next_at other a ≡ next_at image a
  next_at-same a =
      ap (λ xs. fold (next_after other) (prefix_end other) (filter (λ b. ltb b a) xs)) same.live
      ∙ placed-same (filter (λ b. ltb b a) image.live) (All-filter (λ b. ltb b a) (λ b. (n : ℕ) → next_after other n b ≡ next_after image n b) image.live next-same)

  pub new_address-same : (a : ℕ) → new_address other a ≡ new_address image a
  new_address-same a = ap₂ (λ p n. cond (ltb a p) a n) prefix_end-same (next_at-same a)

  pub new_live-same : new_live other ≡ new_live image
  new_live-same = ap (map (new_address other)) same.live ∙ map-same (new_address other) (new_address image) image.live new_address-same

  pub slid-same : (q : ℕ) → slid other q ≡ slid image q
  slid-same q =
      ap (λ p. cond (ltb q p) q (p + live_words other p q)) prefix_end-same
      ∙ ap (λ n. cond (ltb q (prefix_end image)) q (prefix_end image + n)) (live_words-same image other same (prefix_end image) q)

  pub word_moves-same : word_moves other ≡ word_moves image
  word_moves-same =
      ap (flat_map (λ a. map (λ i. (a + i, new_address other a + i)) (range_with_len 0 (size_at other a)))) same.live
      ∙ flat-same (λ a. map (λ i. (a + i, new_address other a + i)) (range_with_len 0 (size_at other a))) (λ a. map (λ i. (a + i, new_address image a + i)) (range_with_len 0 (size_at image a))) image.live (λ k d l.
      let a : ℕ = get_or image.live k d in
      ap₂ (λ n s. map (λ i. (a + i, n + i)) (range_with_len 0 s)) (new_address-same a) (same.sizes k d l))

  pub origin-same : (p : ℕ) → origin other p ≡ origin image p
  origin-same p = ap (λ ms. option_map (λ (m : ℕ × ℕ). m.0) (find (λ (m : ℕ × ℕ). eqb m.1 p) ms)) word_moves-same
