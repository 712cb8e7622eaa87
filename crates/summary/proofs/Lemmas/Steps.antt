-- Region data step by step: destinations, sources, regions to fill, dead words, and words by objects.
use Rattle.std.proofs.Common.{◌≡◌, ℕ, zero, suc, ◌+◌, ◌-◌, ◌*◌, ◌/◌, ◌%◌, ◌≤◌, ◌<◌, inl, inr, min, max, Bool, true, false, cond, ◌&&◌, ◌||◌, List, [], ◌∷◌, length, get_or, refl, sym, ◌∙◌, ap, subst, arith, ltb, leb, eqb}
use Rattle.std.proofs.lemmas.Bool.{cases_Bool, cases_lt, cases_order, cond-true, cond-false, lt-ltb, le-leb, lt-leb, ltb-true, leb-true, eq-eqb, ne_eqb, and_parts, and_from, false_from_ne_true}
use Rattle.std.proofs.lemmas.Nat.{div-add-mod', mul-le}
use Rattle.std.proofs.lemmas.Grind.{div_ceil_times}
use Rattle.std.proofs.lemmas.List.{get_or_default}
use Rattle.std.proofs.lemmas.List.Folds.{list_any_at, Any-from_list_any}
use Rattle.std.proofs.lemmas.List.FromFn.{length-range_with_len}
use Rattle.std.proofs.lemmas.List.Sums.{sum_by-cons}
use Rattle.std.specs.Prelude.{count_by, filter, not, sum_by, Some, None, option_map, unwrap_or}
use Rattle.std.specs.List.{range_with_len, list_any}
use Rattle.object_heap.specs.HeapImage.{HeapImage, HasLiveList, IsValid, heap_words, region_words, region_count, region_of, start_of, size_at, end_of, is_word_of, is_live_word, live_words}
use Rattle.summary.proofs.Lemmas.Spans.{Apart, Apart-filter, in_any, held, count_by-in_any, count_by-cons, is_in, is_in_parts, count_by-is_in}
use Rattle.summary.proofs.Lemmas.LiveWords.{live_apart}
use Rattle.summary.specs.NewAddresses.{prefix_end, new_top, dead_words_below}
use Rattle.summary.specs.WordMoves.{slid, origin, is_to_fill, word_moves}
use Rattle.summary.specs.RegionData.{partial_words, own_words, destination, source, fill_count, data_words}
use Rattle.summary.proofs.Lemmas.Addresses.{EndBefore-at, new_top-live_words, prefix_end-le}
use Rattle.summary.proofs.Lemmas.Origin.{origin-slid}
use Rattle.summary.proofs.Lemmas.Destinations.{destination-live_words, count_by-none, count_by-same}
use Rattle.summary.proofs.Lemmas.Words.{live_words-add, live_words-le, live_below, slid-above, slid-below, slid-onto}
use Rattle.summary.proofs.Lemmas.Regions.{region_is, region_low, region_high, region_some, region_apart, ltb_same, begun_left, begun_here, data-live_words, region-into, region-onto}
use Rattle.summary.proofs.Lemmas.Readers.{same_Bool}
use Rattle.summary.proofs.Lemmas.Blocks.{start_above}

-- ---- objects in order

-- of two spans in a row that follow one another, the first ends where the second begins, or below
Apart-ordered : (size : ℕ → ℕ) (low : ℕ) (places : List ℕ) → Apart size low places → (i k : ℕ) → i < k → k < length places → get_or places i 0 + size (get_or places i 0) ≤ get_or places k 0
Apart-ordered size low [] h i k l m = let no : ⊥ = omega arith in absurd no
Apart-ordered size low (a ∷ others) h i zero l m = let no : ⊥ = omega arith in absurd no
Apart-ordered size low (a ∷ others) h zero (suc k) l m = (EndBefore-at size (a + size a) others h.1 k (omega arith)).0
Apart-ordered size low (a ∷ others) h (suc i) (suc k) l m = Apart-ordered size (a + size a) others h.1 i k (omega arith) (omega arith)

count_by-not : (p : ℕ → Bool) (xs : List ℕ) → count_by (λ x. not (p x)) xs + count_by p xs ≡ length xs
count_by-not p [] = refl
count_by-not p (x ∷ xs) =
    let one = count_by-cons p x xs in
    let two = count_by-cons (λ y. not (p y)) x xs in
    let first = either (p x) in
    let more = count_by-not p xs in
    omega arith
  where
    either : (b : Bool) → cond {A = ℕ} (not b) 1 0 + cond {A = ℕ} b 1 0 ≡ 1
    either true = refl
    either false = refl

list_any-filter : (f w : ℕ → Bool) (xs : List ℕ) → list_any (λ a. f a && w a) xs ≡ list_any w (filter f xs)
list_any-filter f w [] = refl
list_any-filter f w (x ∷ xs) = elim (cases_Bool (f x)) [
  | inl passes ↦ rw passes (ap (λ b. w x || b) (list_any-filter f w xs))
  | inr fails ↦ rw fails (list_any-filter f w xs)
]

held-filter : (size : ℕ → ℕ) (f : ℕ → Bool) (s e : ℕ) (xs : List ℕ) → held size (filter f xs) s e ≡ sum_by (λ a. cond (f a) (min (a + size a) e - max a s) 0) xs
held-filter size f s e [] = refl
held-filter size f s e (x ∷ xs) =
    let h : ℕ → ℕ = λ a. cond (f a) (min (a + size a) e - max a s) 0 in
    let whole = sum_by-cons h x xs in
    let more = held-filter size f s e xs in
    elim (cases_Bool (f x)) [
      | inl passes ↦
          let kept : held size (filter f (x ∷ xs)) s e ≡ held size (x ∷ filter f xs) s e = ap (λ ys. held size ys s e) (cond-true (f x) (x ∷ filter f xs) (filter f xs) passes) in
          let first : h x ≡ min (x + size x) e - max x s = cond-true (f x) (min (x + size x) e - max x s) 0 passes in
          kept ∙ ap (λ n. min (x + size x) e - max x s + n) more ∙ ap (λ n. n + sum_by h xs) (sym first) ∙ sym whole
      | inr fails ↦
          let left : held size (filter f (x ∷ xs)) s e ≡ held size (filter f xs) s e = ap (λ ys. held size ys s e) (cond-false (f x) (x ∷ filter f xs) (filter f xs) fails) in
          let first : h x ≡ 0 = cond-false (f x) (min (x + size x) e - max x s) 0 fails in
          let all : held size (filter f (x ∷ xs)) s e ≡ h x + sum_by h xs = omega arith in
          all ∙ sym whole
    ]

sum_by-same : (f g : ℕ → ℕ) → ((a : ℕ) → f a ≡ g a) → (xs : List ℕ) → sum_by f xs ≡ sum_by g xs
sum_by-same f g h [] = refl
sum_by-same f g h (x ∷ xs) =
    let one = sum_by-cons f x xs in
    let two = sum_by-cons g x xs in
    let first = h x in
    let more = sum_by-same f g h xs in
    omega arith

module _ (image : HeapImage) where
  abbrev R : ℕ
  R = region_words image

  abbrev P : ℕ
  P = prefix_end image

  abbrev T : ℕ
  T = new_top image

  -- ---- dead words

  pub dead-live : (b : ℕ) → dead_words_below image b + live_words image 0 b ≡ b
  dead-live b =
      let e : b - 0 ≡ b = omega arith in
      let all = count_by-not (is_live_word image) (range_with_len 0 b) in
      let long = length-range_with_len 0 b in
      let same : live_words image 0 b ≡ count_by (is_live_word image) (range_with_len 0 b) = ap (λ n. count_by (is_live_word image) (range_with_len 0 n)) e in
      omega arith

  pub dead-more : (b c : ℕ) → b ≤ c → dead_words_below image b ≤ dead_words_below image c
  dead-more b c l =
      let one = dead-live b in
      let two = dead-live c in
      let cut = live_words-add image 0 b c (omega arith) l in
      let few = live_words-le image b c in
      omega arith

  -- ---- the regions to fill

  pub to_fill-count : (d : ℕ) → is_to_fill image d ≡ ltb d (fill_count image)
  to_fill-count d =
      let F : ℕ = fill_count image in
      let times = div_ceil_times T R (region_some image) in
      let low : T ≤ F * R = times.0 in
      let high : F * R < T + R = times.1 in
      ltb_same (d * R) T d F
      (λ l. elim (cases_lt d F) [
        | inl fine ↦ fine
        | inr more ↦ let up : F * R ≤ d * R = mul-le F R d R more (omega arith) in let no : ⊥ = omega arith in absurd no
      ])
      (λ l. elim (cases_lt d F) [
        | inr fine ↦ fine
        | inl less ↦ let up = region_full d F less in let no : ⊥ = omega arith in absurd no
      ])
    where
      region_full : (d F : ℕ) → d < F → d * R + R ≤ F * R
      region_full d F l = region_apart R d F l

module _ (image : HeapImage) (sound : HasLiveList image) where
  abbrev place : ℕ → ℕ
  place i = get_or image.live i 0

  abbrev start : ℕ → ℕ
  start r = start_of image r

  pub place-ordered : (i k : ℕ) → i < k → k < length image.live → end_of image (place i) ≤ place k
  place-ordered i k l m = Apart-ordered (size_at image) 0 image.live (live_apart image sound) i k l m

  pub top-le : new_top image ≤ heap_words image
  top-le =
      let e = new_top-live_words image sound in
      let few = live_words-le image (prefix_end image) (heap_words image) in
      let low = prefix_end-le image sound in
      omega arith

  pub dead-region : (r : ℕ) → dead_words_below image (start r + region_words image) + data_words image r ≡ dead_words_below image (start r) + region_words image
  dead-region r =
      let n : ℕ = region_words image in
      let one = dead-live image (start r) in
      let two = dead-live image (start r + n) in
      let cut = live_words-add image 0 (start r) (start r + n) (omega arith) (omega arith) in
      let all = data-live_words image sound r in
      omega arith

  -- ---- destinations one after another

  -- up to the prefix end a region's destination is its start
  pub destination-prefix : (r : ℕ) → start r ≤ prefix_end image → destination image r ≡ start r
  destination-prefix r l = elim (cases_lt (start r) (prefix_end image)) [
    | inl less ↦ cond-true (ltb (start r) (prefix_end image)) (start r) (prefix_end image + count_by (λ m. leb (prefix_end image) m.0 && ltb m.0 (start r)) (word_moves image)) (lt-ltb (start r) (prefix_end image) less)
    | inr more ↦
        let low = prefix_end-le image sound in
        let to = destination-live_words image sound r more (omega arith) in
        let few = live_words-le image (prefix_end image) (start r) in
        omega arith
  ]

  -- from there on, each is the one before and the data in between
  pub destination-next : (r : ℕ) → prefix_end image ≤ start r → start r + region_words image ≤ heap_words image → destination image (r + 1) ≡ destination image r + data_words image r
  destination-next r l h =
      let n : ℕ = region_words image in
      let e : start (r + 1) ≡ start r + n = omega arith in
      let one = destination-live_words image sound r l (omega arith) in
      let two = destination-live_words image sound (r + 1) (omega arith) (omega arith) in
      let cut = live_words-add image (prefix_end image) (start r) (start r + n) l (omega arith) in
      let same : live_words image (prefix_end image) (start (r + 1)) ≡ live_words image (prefix_end image) (start r + n) = ap (live_words image (prefix_end image)) e in
      let all = data-live_words image sound r in
      omega arith

  -- ---- sources by destinations

  none_is_some : (s : ℕ) → None ≡ Some s → ⊥
  none_is_some s h = cc

  pub source-at : (d s : ℕ) → prefix_end image ≤ start s → destination image s ≤ start d → start d < destination image s + data_words image s → source image d ≡ Some s
  source-at d s above low high =
      let w = region-onto image sound s (start d - destination image s) above (omega arith) in
      let q : ℕ = w.0 in
      let live : is_live_word image q ≡ true = w.1 in
      let of : region_of image q ≡ s = w.2 in
      let to : slid image q ≡ destination image s + (start d - destination image s) = w.3 in
      let at : slid image q ≡ start d = omega arith in
      let n : ℕ = region_words image in
      let first = region_low n q in
      let same : q / n * n ≡ s * n = ap (λ m. m * n) of in
      let from = slid-above image q (omega arith) in
      let below = slid-below image sound q live in
      let test : (leb (prefix_end image) (start d) && is_to_fill image d) ≡ true = and_from (leb (prefix_end image) (start d)) (is_to_fill image d) (le-leb (prefix_end image) (start d) (omega arith)) (lt-ltb (start d) (new_top image) (omega arith)) in
      cond-true (leb (prefix_end image) (start d) && is_to_fill image d) (option_map (region_of image) (origin image (start d))) None test
      ∙ ap (option_map (region_of image)) (ap (origin image) (sym at) ∙ origin-slid image sound q (live_below image sound q live) live)
      ∙ ap Some of

  pub source-is : (d s : ℕ) → source image d ≡ Some s → (prefix_end image ≤ start d) × (start d < new_top image) × (prefix_end image ≤ start s) × (destination image s ≤ start d) × (start d < destination image s + data_words image s)
  source-is d s e =
      let test : Bool = leb (prefix_end image) (start d) && is_to_fill image d in
      elim (cases_Bool test) [
        | inr fails ↦ absurd (none_is_some s (sym (cond-false test (option_map (region_of image) (origin image (start d))) None fails) ∙ e))
        | inl passes ↦
            let both = and_parts (leb (prefix_end image) (start d)) (is_to_fill image d) passes in
            let from : prefix_end image ≤ start d = leb-true (prefix_end image) (start d) both.0 in
            let below : start d < new_top image = ltb-true (start d) (new_top image) both.1 in
            let w = slid-onto image sound (start d) from below in
            let q : ℕ = w.0 in
            let above : prefix_end image ≤ q = w.1 in
            let live : is_live_word image q ≡ true = w.2 in
            let at : slid image q ≡ start d = w.3 in
            let has : origin image (start d) ≡ Some q = ap (origin image) (sym at) ∙ origin-slid image sound q (live_below image sound q live) live in
            let is : Some (region_of image q) ≡ Some s = sym (ap (option_map (region_of image)) has) ∙ sym (cond-true test (option_map (region_of image) (origin image (start d))) None passes) ∙ e in
            let of : region_of image q ≡ s = ap (λ o. unwrap_or o 0) is in
            let first : prefix_end image ≤ start s = subst (λ r. prefix_end image ≤ start_of image r) of (start_above image sound q above) in
            let into = region-into image sound s q first live of in
            (from, below, first, omega arith, omega arith)
      ]

  -- ---- words by objects

  -- the own words of a region, object by object
  pub own-objects : (r : ℕ) → own_words image r ≡ sum_by (λ a. cond (eqb (region_of image a) r) (min (end_of image a) (start r + region_words image) - a) 0) image.live
  own-objects r =
      let n : ℕ = region_words image in
      let s : ℕ = start r in
      let f : ℕ → Bool = λ a. leb s a in
      count_by-same (begun_here image s) (in_any (size_at image) (filter f image.live)) s n (λ q l m. list_any-filter f (λ a. is_word_of image a q) image.live)
      ∙ count_by-in_any (size_at image) 0 (filter f image.live) (Apart-filter (size_at image) f 0 image.live (live_apart image sound)) s n
      ∙ held-filter (size_at image) f s (s + n) image.live
      ∙ sum_by-same (λ a. cond (f a) (min (end_of image a) (s + n) - max a s) 0) (λ a. cond (eqb (a / n) r) (min (end_of image a) (s + n) - a) 0) each image.live
    where
      each : (a : ℕ) → cond {A = ℕ} (leb (start r) a) (min (end_of image a) (start r + region_words image) - max a (start r)) 0 ≡ cond (eqb (a / region_words image) r) (min (end_of image a) (start r + region_words image) - a) 0
      each a =
          let n : ℕ = region_words image in
          let s : ℕ = start r in
          let low = region_low n a in
          let high = region_high n a (region_some image) in
          let old : ℕ = min (end_of image a) (s + n) - max a s in
          let new : ℕ = min (end_of image a) (s + n) - a in
          elim (cases_lt a s) [
            | inl less ↦
                cond-false (leb s a) old 0 (lt-leb s a less)
                ∙ sym (cond-false (eqb (a / n) r) new 0 (ne_eqb (a / n) r (λ e. let same : a / n * n ≡ r * n = ap (λ m. m * n) e in let no : ⊥ = omega arith in no)))
            | inr from ↦ elim (cases_lt a (s + n)) [
              | inl below ↦ cond-true (leb s a) old 0 (le-leb s a from) ∙ (let e : old ≡ new = omega arith in e) ∙ sym (cond-true (eqb (a / n) r) new 0 (eq-eqb (a / n) r (region_is n r a from below)))
              | inr past ↦
                  cond-true (leb s a) old 0 (le-leb s a from) ∙ (let e : old ≡ 0 = omega arith in e)
                  ∙ sym (cond-false (eqb (a / n) r) new 0 (ne_eqb (a / n) r (λ e. let same : a / n * n ≡ r * n = ap (λ m. m * n) e in let no : ⊥ = omega arith in no)))
            ]
          ]

  -- the partial words of a region, by the last object that begins before it
  pub partial-last : (r i : ℕ) → i < length image.live → place i < start r → (i + 1 < length image.live → start r ≤ place (i + 1)) → partial_words image r ≡ min (region_words image) (end_of image (place i) - start r)
  partial-last r i l left next =
      let n : ℕ = region_words image in
      let s : ℕ = start r in
      let x : ℕ = place i in
      let count = count_by-is_in x (size_at image x) s n in
      count_by-same (begun_left image s) (is_in x (size_at image x)) s n (λ q m k. same_Bool (begun_left image s q) (is_in x (size_at image x) q)
      (λ h. last_is q m h)
      (λ h. list_any_at (λ a. ltb a s && is_word_of image a q) image.live i 0 l (and_from (ltb x s) (is_word_of image x q) (lt-ltb x s left) h)))
      ∙ count ∙ omega arith
    where
      last_is : (q : ℕ) → start r ≤ q → begun_left image (start r) q ≡ true → is_in (place i) (size_at image (place i)) q ≡ true
      last_is q m h =
          let s : ℕ = start r in
          let on = Any-from_list_any (λ c. ltb c s && is_word_of image c q) image.live h in
          let k : ℕ = on.0 in
          let y : ℕ = on.1 in
          let o : k < length image.live = on.2 in
          let is : place k ≡ y = get_or_default image.live k 0 y o ∙ on.3 in
          let both = and_parts (ltb y s) (is_word_of image y q) on.4 in
          let before : y < s = ltb-true y s both.0 in
          let hit : is_in (place k) (size_at image (place k)) q ≡ true = subst (λ a. is_in a (size_at image a) q ≡ true) (sym is) both.1 in
          let parts = is_in_parts (place k) (size_at image (place k)) q hit in
          elim (cases_order k i) [
            | inl same ↦ subst (λ j. is_in (place j) (size_at image (place j)) q ≡ true) same hit
            | inr other ↦ elim other [
              | inl less ↦ let e = place-ordered k i less l in let no : ⊥ = omega arith in absurd no
              | inr more ↦
                  let g : start r ≤ place (i + 1) = next (omega arith) in
                  let no : ⊥ = elim (cases_lt (i + 1) k) [
                    | inl over ↦ let e = place-ordered (i + 1) k over o in omega arith
                    | inr at ↦ let e : i + 1 ≡ k = omega arith in let f : place (i + 1) ≡ place k = ap place e in omega arith
                  ] in absurd no
            ]
          ]

  -- if no object begins before it there are none
  pub partial-none : (r : ℕ) → (0 < length image.live → start r ≤ place 0) → partial_words image r ≡ 0
  partial-none r first = count_by-none (begun_left image (start r)) (start r) (region_words image) (λ q m k. false_from_ne_true (begun_left image (start r) q) (λ h.
      let s : ℕ = start r in
      let on = Any-from_list_any (λ c. ltb c s && is_word_of image c q) image.live h in
      let i : ℕ = on.0 in
      let y : ℕ = on.1 in
      let o : i < length image.live = on.2 in
      let is : place i ≡ y = get_or_default image.live i 0 y o ∙ on.3 in
      let both = and_parts (ltb y s) (is_word_of image y q) on.4 in
      let before : y < s = ltb-true y s both.0 in
      let g : start r ≤ place 0 = first (omega arith) in
      let no : ⊥ = elim (cases_lt 0 i) [
        | inl over ↦ let e = place-ordered 0 i over o in omega arith
        | inr at ↦ let e : i ≡ 0 = omega arith in let f : place i ≡ place 0 = ap place e in omega arith
      ] in no))

  -- by an object that crosses into the region
  pub partial-crossing : (r i : ℕ) → i < length image.live → place i < start r → start r < end_of image (place i) → partial_words image r ≡ min (region_words image) (end_of image (place i) - start r)
  partial-crossing r i l left over = partial-last r i l left (λ m. let e = place-ordered i (i + 1) (omega arith) m in omega arith)

  -- if no object crosses into the region there are none
  pub partial-clear : (r : ℕ) → ((i : ℕ) → i < length image.live → place i < start r → end_of image (place i) ≤ start r) → partial_words image r ≡ 0
  partial-clear r clear = count_by-none (begun_left image (start r)) (start r) (region_words image) (λ q m k. false_from_ne_true (begun_left image (start r) q) (λ h.
      let s : ℕ = start r in
      let on = Any-from_list_any (λ c. ltb c s && is_word_of image c q) image.live h in
      let i : ℕ = on.0 in
      let y : ℕ = on.1 in
      let o : i < length image.live = on.2 in
      let is : place i ≡ y = get_or_default image.live i 0 y o ∙ on.3 in
      let both = and_parts (ltb y s) (is_word_of image y q) on.4 in
      let before : y < s = ltb-true y s both.0 in
      let hit : is_in (place i) (size_at image (place i)) q ≡ true = subst (λ a. is_in a (size_at image a) q ≡ true) (sym is) both.1 in
      let parts = is_in_parts (place i) (size_at image (place i)) q hit in
      let end = clear i o (omega arith) in
      let no : ⊥ = omega arith in no))

module _ (image : HeapImage) (valid : IsValid image) where
  whole_heap : start_of image (region_count image) ≡ heap_words image
  whole_heap =
      let whole = div-add-mod' (heap_words image) (region_words image) in
      let none : heap_words image % region_words image ≡ 0 = valid.limits.whole_regions in
      omega arith

  pub destination-top : destination image (region_count image) ≡ new_top image
  destination-top =
      let e = whole_heap in
      let low = prefix_end-le image valid.live_list in
      let to = destination-live_words image valid.live_list (region_count image) (omega arith) (omega arith) in
      let top = new_top-live_words image valid.live_list in
      let same : live_words image (prefix_end image) (start_of image (region_count image)) ≡ live_words image (prefix_end image) (heap_words image) = ap (live_words image (prefix_end image)) e in
      omega arith

  pub fill_count-le : fill_count image ≤ region_count image
  fill_count-le =
      let F : ℕ = fill_count image in
      let n : ℕ = region_words image in
      let times = div_ceil_times (new_top image) n (region_some image) in
      let high : F * n < new_top image + n = times.1 in
      let e = whole_heap in
      let top = top-le image valid.live_list in
      elim (cases_lt (region_count image) F) [
        | inr fine ↦ fine
        | inl more ↦ let up = region_apart n (region_count image) F more in let no : ⊥ = omega arith in absurd no
      ]
