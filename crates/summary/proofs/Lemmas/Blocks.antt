-- Counts by blocks of words, new region_addresses by region data, and the words of a region as a list.
use Rattle.std.proofs.Common.{◌≡◌, ℕ, zero, suc, ◌+◌, ◌-◌, ◌*◌, ◌/◌, ◌%◌, ◌≤◌, ◌<◌, inl, inr, Bool, true, cond, ◌&&◌, ◌^◌, List, ◌∷◌, ◌++◌, length, get_or, take, drop, refl, sym, ◌∙◌, ap, subst, arith, ltb, add-zero}
use Rattle.std.proofs.lemmas.Bool.{cases_lt, cond-true, cond-false, and_parts, ltb-true, lt-ltb, le-ltb}
use Rattle.std.proofs.lemmas.Nat.{div-add-mod', mul-le, le-div}
use Rattle.std.proofs.Math.Nat.{zero-mul}
use Rattle.std.proofs.lemmas.List.{get_or_default, map-append}
use Rattle.std.proofs.lemmas.List.Concat.{concat_is}
use Rattle.std.proofs.lemmas.List.Elements.{All-map}
use Rattle.std.proofs.lemmas.List.Folds.{Any-from_list_any, list_any-from_Any, flat_map-map}
use Rattle.std.proofs.lemmas.List.FromFn.{take-map-range_with_len, length-map-range_with_len, fill_by_all}
use Rattle.std.proofs.lemmas.List.Sums.{sum_by-cons}
use Rattle.std.specs.Prelude.{count_by, map, flat_map, sum, slice_range, not, Option, option_map}
use Rattle.std.specs.List.{concat, range_with_len}
use Rattle.object_heap.specs.declared.version.Version.{Version}
use Rattle.object_heap.specs.Layout.{Layout, Own}
use Rattle.object_heap.specs.HeapImage.{HeapImage, HasLiveList, AreBlocks, versioned_image_of, heap_words, region_words, region_count, region_of, start_of, word_at, block_of, size_at, is_word_of, is_live_word, live_words}
use Rattle.summary.proofs.Lemmas.Spans.{count_by-cons, is_in_parts}
use Rattle.summary.specs.NewAddresses.{prefix_end, new_live, new_top}
use Rattle.summary.specs.WordMoves.{origin}
use Rattle.summary.specs.Compaction.{compact, redirected, compacted_word, moved, moved_word, written, is_deferred}
use Rattle.summary.specs.RegionData.{region_addresses, partial_words}
use Rattle.summary.proofs.Lemmas.Addresses.{range_with_len-add}
use Rattle.summary.proofs.Lemmas.Prefix.{prefix_end_is}
use Rattle.summary.proofs.Lemmas.Words.{count_by-range-le, live_words-add, live_words-le, one_owner}
use Rattle.summary.proofs.Lemmas.Regions.{region_low, region_high, region_some, begun_left, partial-front}

pub count_by-all : (p : ℕ → Bool) (b n : ℕ) → ((q : ℕ) → b ≤ q → q < b + n → p q ≡ true) → count_by p (range_with_len b n) ≡ n
count_by-all p b zero h = refl
count_by-all p b (suc n) h =
    let one = count_by-cons p b (range_with_len (b + 1) n) in
    let first : cond {A = ℕ} (p b) 1 0 ≡ 1 = cond-true (p b) 1 0 (h b (omega arith) (omega arith)) in
    let more = count_by-all p (b + 1) n (λ q l k. h q (omega arith) (omega arith)) in
    omega arith

drop-map-range : {X : Type 0} (f : ℕ → X) (b n a : ℕ) → a ≤ n → drop a (map f (range_with_len b n)) ≡ map f (range_with_len (b + a) (n - a))
drop-map-range f b n zero l =
    let e : b + 0 ≡ b = omega arith in
    let k : n - 0 ≡ n = omega arith in
    rw e (rw k refl)
drop-map-range f b zero (suc a) l = let no : ⊥ = omega arith in absurd no
drop-map-range f b (suc n) (suc a) l =
    let e : b + 1 + a ≡ b + suc a = omega arith in
    let k : n - a ≡ suc n - suc a = omega arith in
    drop-map-range f (b + 1) n a (omega arith) ∙ ap (λ c. map f (range_with_len c (n - a))) e ∙ ap (λ m. map f (range_with_len (b + suc a) m)) k

-- a part of a list that is made address by address
block-map-range : {X : Type 0} (f : ℕ → X) (n a m : ℕ) → a + m ≤ n → take m (drop a (map f (range_with_len 0 n))) ≡ map f (range_with_len a m)
block-map-range f n a m l =
    let z : 0 + a ≡ a = omega arith in
    ap (take m) (drop-map-range f 0 n a (omega arith) ∙ ap (λ c. map f (range_with_len c (n - a))) z)
    ∙ take-map-range_with_len f a (n - a) m (omega arith)

pub slice_range-map-range : {X : Type 0} (f : ℕ → X) (n a m : ℕ) → a + m ≤ n → slice_range (map f (range_with_len 0 n)) a (a + m) ≡ map f (range_with_len a m)
slice_range-map-range f n a m l =
    let e : a + m - a ≡ m = omega arith in
    ap (λ k. take k (drop a (map f (range_with_len 0 n)))) e ∙ block-map-range f n a m l

module _ (image : HeapImage) where
  abbrev R : ℕ
  R = region_words image

  pub region_in_heap : (r : ℕ) → r < region_count image → start_of image r + R ≤ heap_words image
  region_in_heap r l =
      let up : suc r * R ≤ region_count image * R = mul-le (suc r) R (region_count image) R l (omega arith) in
      let e : suc r * R ≡ r * R + R = omega arith in
      let whole = div-add-mod' (heap_words image) R in
      omega arith

  pub compact-block : (r : ℕ) → r < region_count image → block_of (compact image) r ≡ map (compacted_word image) (region_addresses image r)
  compact-block r l = block-map-range (compacted_word image) (heap_words image) (start_of image r) R (region_in_heap r l)

  pub moved-block : (r : ℕ) → r < region_count image → block_of (moved image) r ≡ map (moved_word image) (region_addresses image r)
  moved-block r l = block-map-range (moved_word image) (heap_words image) (start_of image r) R (region_in_heap r l)

  map-range-step : (f : ℕ → ℕ) (b k : ℕ) → map f (range_with_len (b * R) (k * R)) ≡ flat_map (λ r. map f (region_addresses image r)) (range_with_len b k)
  map-range-step f b zero = let z : 0 * R ≡ 0 = zero-mul R in rw z refl
  map-range-step f b (suc k) =
      let e : suc k * R ≡ R + k * R = omega arith in
      let n : b * R + R ≡ (b + 1) * R = omega arith in
      ap (λ m. map f (range_with_len (b * R) m)) e
      ∙ ap (map f) (range_with_len-add (b * R) R (k * R))
      ∙ map-append f (range_with_len (b * R) R) (range_with_len (b * R + R) (k * R))
      ∙ ap (λ c. map f (range_with_len (b * R) R) ++ map f (range_with_len c (k * R))) n
      ∙ ap (λ xs. map f (range_with_len (b * R) R) ++ xs) (map-range-step f (b + 1) k)

  -- a list made address by address is the blocks of the regions one after another
  pub joined : (f : ℕ → ℕ) → heap_words image % region_words image ≡ 0 → map f (range_with_len 0 (heap_words image)) ≡ flat_map (λ r. map f (region_addresses image r)) (range_with_len 0 (region_count image))
  joined f none =
      let whole = div-add-mod' (heap_words image) R in
      let e : heap_words image ≡ region_count image * R = omega arith in
      let z : 0 ≡ 0 * R = omega arith in
      ap (λ n. map f (range_with_len 0 n)) e ∙ ap (λ c. map f (range_with_len c (region_count image * R))) z ∙ map-range-step f 0 (region_count image)

  pub words-map : image.words ≡ map (word_at image) (range_with_len 0 (heap_words image))
  words-map = fill_by_all (word_at image) image.words (heap_words image) 0 refl (λ k l. refl)

  pub old-block : (r : ℕ) → r < region_count image → block_of image r ≡ map (word_at image) (region_addresses image r)
  old-block r l = ap (λ ws. take R (drop (start_of image r) ws)) words-map ∙ block-map-range (word_at image) (heap_words image) (start_of image r) R (region_in_heap r l)

  map-range-same : (f g : ℕ → ℕ) (b n : ℕ) → ((p : ℕ) → b ≤ p → p < b + n → f p ≡ g p) → map f (range_with_len b n) ≡ map g (range_with_len b n)
  map-range-same f g b zero h = refl
  map-range-same f g b (suc n) h = rw (h b (omega arith) (omega arith)) (ap (λ xs. g b ∷ xs) (map-range-same f g (b + 1) n (λ p l m. h p (omega arith) (omega arith))))

  -- a region that is not to be filled keeps its block
  pub kept-block : (r : ℕ) → new_top image ≤ start_of image r → r < region_count image → block_of (moved image) r ≡ block_of image r
  kept-block r l m =
      moved-block r m
      ∙ map-range-same (moved_word image) (word_at image) (start_of image r) R (λ p a b. cond-false (ltb p (new_top image)) (written image (λ a. not (is_deferred image a)) (origin image p) p) (word_at image p) (le-ltb p (new_top image) (omega arith)))
      ∙ sym (old-block r m)

  pub moved-length : heap_words (moved image) ≡ heap_words image
  moved-length = length-map-range_with_len (moved_word image) 0 (heap_words image)

  pub compact-length : heap_words (compact image) ≡ heap_words image
  compact-length = length-map-range_with_len (compacted_word image) 0 (heap_words image)

  pub moved-joined : heap_words image % region_words image ≡ 0 → (moved image).words ≡ flat_map (λ r. map (moved_word image) (region_addresses image r)) (range_with_len 0 (region_count image))
  moved-joined none = joined (moved_word image) none

  pub compact-joined : heap_words image % region_words image ≡ 0 → (compact image).words ≡ flat_map (λ r. map (compacted_word image) (region_addresses image r)) (range_with_len 0 (region_count image))
  compact-joined none = joined (compacted_word image) none

  -- ---- counts by blocks of n words

  abbrev block : ℕ → ℕ → ℕ
  block n j = live_words image (j * n) (j * n + n)

  pub live_words-blocks : (n i k : ℕ) → live_words image (i * n) ((i + k) * n) ≡ sum (map (block n) (range_with_len i k))
  live_words-blocks n i zero =
      let few = live_words-le image (i * n) ((i + 0) * n) in
      let e : (i + 0) * n ≡ i * n = ap (λ m. m * n) (add-zero i) in
      omega arith
  live_words-blocks n i (suc k) =
      let e : i + suc k ≡ i + 1 + k = omega arith in
      let next : (i + 1) * n ≡ i * n + n = omega arith in
      let up : (i + 1) * n ≤ (i + 1 + k) * n = mul-le (i + 1) n (i + 1 + k) n (omega arith) (omega arith) in
      let cut = live_words-add image (i * n) ((i + 1) * n) ((i + 1 + k) * n) (omega arith) up in
      let more = live_words-blocks n (i + 1) k in
      let first : live_words image (i * n) ((i + 1) * n) ≡ block n i = ap (live_words image (i * n)) next in
      let one = sum_by-cons (λ (x : ℕ). x) (block n i) (map (block n) (range_with_len (i + 1) k)) in
      ap (λ m. live_words image (i * n) (m * n)) e ∙ (let all : live_words image (i * n) ((i + 1 + k) * n) ≡ sum (map (block n) (range_with_len i (suc k))) = omega arith in all)

  -- from an address of block i up to one of a later block j
  pub live_words-ends : (n i j from to : ℕ) → i < j → from ≤ (i + 1) * n → j * n ≤ to
      → live_words image from to ≡ live_words image from ((i + 1) * n) + sum (map (block n) (range_with_len (i + 1) (j - (i + 1)))) + live_words image (j * n) to
  live_words-ends n i j from to l low high =
      let k : ℕ = j - (i + 1) in
      let e : i + 1 + k ≡ j = omega arith in
      let middle = live_words-blocks n (i + 1) k in
      let to_j : live_words image ((i + 1) * n) ((i + 1 + k) * n) ≡ live_words image ((i + 1) * n) (j * n) = ap (λ m. live_words image ((i + 1) * n) (m * n)) e in
      let up : (i + 1) * n ≤ j * n = mul-le (i + 1) n j n (omega arith) (omega arith) in
      let one = live_words-add image from ((i + 1) * n) to low (omega arith) in
      let two = live_words-add image ((i + 1) * n) (j * n) to up high in
      omega arith

  -- the same by the blocks of the two region_addresses
  pub live_words-cut : (n from to : ℕ) → 0 < n → from / n < to / n
      → live_words image from to ≡ live_words image from ((from / n + 1) * n) + sum (map (block n) (range_with_len (from / n + 1) (to / n - (from / n + 1)))) + live_words image (to / n * n) to
  live_words-cut n from to some l =
      let high = region_high n from some in
      let next : (from / n + 1) * n ≡ from / n * n + n = omega arith in
      live_words-ends n (from / n) (to / n) from to l (omega arith) (region_low n to)

module _ (image : HeapImage) (sound : HasLiveList image) where
  abbrev place : ℕ → ℕ
  place i = get_or image.live i 0

  abbrev region_start : ℕ → ℕ
  region_start a = start_of image (region_of image a)

  -- above the prefix end the region of an address begins there too
  pub start_above : (a : ℕ) → prefix_end image ≤ a → prefix_end image ≤ region_start a
  start_above a l =
      let n : ℕ = region_words image in
      let P : ℕ = prefix_end image in
      let whole = div-add-mod' P n in
      let none : P % n ≡ 0 = (prefix_end_is image).aligned in
      let up = le-div (P / n) a n (region_some image) (omega arith) in
      let more : P / n * n ≤ a / n * n = mul-le (P / n) n (a / n) n up (omega arith) in
      omega arith

  -- the partial words of a region are live
  pub partial-live : (r i : ℕ) → i < partial_words image r → is_live_word image (start_of image r + i) ≡ true
  partial-live r i l =
      let s : ℕ = start_of image r in
      let few = count_by-range-le (begun_left image s) s (region_words image) in
      let h : begun_left image s (s + i) ≡ true = partial-front image r i (omega arith) ∙ lt-ltb i (partial_words image r) l in
      let at = Any-from_list_any (λ a. ltb a s && is_word_of image a (s + i)) image.live h in
      let both = and_parts (ltb at.1 s) (is_word_of image at.1 (s + i)) at.4 in
      list_any-from_Any (λ a. is_word_of image a (s + i)) image.live (at.0, at.1, at.2, at.3, both.1)

  covered : (i r : ℕ) → place i < start_of image r + partial_words image r → start_of image r ≤ place i → place i < start_of image r + region_words image → begun_left image (start_of image r) (place i) ≡ true
  covered i r less low high =
      let s : ℕ = start_of image r in
      let j : ℕ = place i - s in
      let at : s + j ≡ place i = omega arith in
      let front : begun_left image s (s + j) ≡ true = partial-front image r j (omega arith) ∙ lt-ltb j (partial_words image r) (omega arith) in
      subst (λ q. begun_left image s q ≡ true) at front

  -- an object that begins in a region begins after its partial words
  pub partial-before : (i : ℕ) → i < length image.live → region_start (place i) + partial_words image (region_of image (place i)) ≤ place i
  partial-before i l =
      let a : ℕ = place i in
      let r : ℕ = region_of image a in
      let s : ℕ = start_of image r in
      let low : s ≤ a = region_low (region_words image) a in
      let high : a < s + region_words image = region_high (region_words image) a (region_some image) in
      let some = (sound.sound i 0 l).header in
      elim (cases_lt a (s + partial_words image r)) [
        | inr fine ↦ fine
        | inl less ↦
            let h : begun_left image s a ≡ true = covered i r less low high in
            let on = Any-from_list_any (λ c. ltb c s && is_word_of image c a) image.live h in
            let k : ℕ = on.0 in
            let x : ℕ = on.1 in
            let m : k < length image.live = on.2 in
            let is : place k ≡ x = get_or_default image.live k 0 x m ∙ on.3 in
            let both = and_parts (ltb x s) (is_word_of image x a) on.4 in
            let parts = is_in_parts x (size_at image x) a both.1 in
            let before : x < s = ltb-true x s both.0 in
            let same : place i ≡ place k = one_owner image sound i k a l m (omega arith) (omega arith) (rw is parts.0) (rw is parts.1) in
            let no : ⊥ = omega arith in absurd no
      ]

-- ---- the blocks of the regions

module _ (image : HeapImage) where
  abbrev region_block : ℕ → List ℕ
  region_block r = map (compacted_word image) (region_addresses image r)

  abbrev blocks : List (List ℕ)
  blocks = map region_block (range_with_len 0 (region_count image))

  pub blocks-AreBlocks : AreBlocks image.region_log blocks
  blocks-AreBlocks = All-map (λ (b : List ℕ). length b ≡ 2 ^ image.region_log) region_block (range_with_len 0 (region_count image)) (λ k d l. length-map-range_with_len (compacted_word image) (start_of image (get_or (range_with_len 0 (region_count image)) k d)) (region_words image))

  pub compact-of_blocks : image.layout ≡ Own → heap_words image % region_words image ≡ 0 → versioned_image_of image.version image.region_log image.allowance blocks (new_live image) (option_map (map (redirected image)) image.roots) ≡ compact image
  compact-of_blocks own whole = ap (λ (y : Layout). record { version = image.version; layout = y; region_log = image.region_log; allowance = image.allowance; words = concat blocks; live = new_live image; roots = option_map (map (redirected image)) image.roots }) (sym own)
      ∙ ap (λ (ws : List ℕ). record { version = image.version; layout = image.layout; region_log = image.region_log; allowance = image.allowance; words = ws; live = new_live image; roots = option_map (map (redirected image)) image.roots }) (concat_is blocks ∙ flat_map-map (λ (b : List ℕ). b) region_block (range_with_len 0 (region_count image)) ∙ sym (compact-joined image whole))

  pub parts-of_blocks : image.layout ≡ Own → (version : Version) (log allowance r : ℕ) (regions : List (List ℕ)) (live : List ℕ) (roots : Option (List ℕ)) → heap_words image % region_words image ≡ 0
      → version ≡ image.version → log ≡ image.region_log → allowance ≡ image.allowance → regions ≡ map region_block (range_with_len 0 r) → r ≡ region_count image → live ≡ new_live image → roots ≡ option_map (map (redirected image)) image.roots
      → AreBlocks log regions × (versioned_image_of version log allowance regions live roots ≡ compact image)
  parts-of_blocks own version log allowance r regions live roots whole v e f g h k m =
      let all : regions ≡ blocks = g ∙ ap (λ n. map region_block (range_with_len 0 n)) h in (
        subst (λ bs. AreBlocks log bs) (sym all) (subst (λ n. AreBlocks n blocks) (sym e) blocks-AreBlocks),
        ap (λ w. versioned_image_of w log allowance regions live roots) v
            ∙ ap (λ n. versioned_image_of image.version n allowance regions live roots) e
            ∙ ap (λ n. versioned_image_of image.version image.region_log n regions live roots) f
            ∙ ap (λ bs. versioned_image_of image.version image.region_log image.allowance bs live roots) all
            ∙ ap (λ as'. versioned_image_of image.version image.region_log image.allowance blocks as' roots) k
            ∙ ap (λ o. versioned_image_of image.version image.region_log image.allowance blocks (new_live image) o) m
            ∙ compact-of_blocks own whole,
      )
