-- Which region's words go to which, and how many regions read one.
use Rattle.std.proofs.Common.{◌≡◌, ℕ, ◌+◌, ◌-◌, ◌*◌, ◌/◌, ◌%◌, ◌≤◌, ◌<◌, inl, inr, Bool, true, false, cond, ◌&&◌, ◌||◌, List, [], ◌∷◌, get_or, refl, sym, ◌∙◌, ap, arith, ltb, leb, eqb, zero-add}
use Rattle.std.proofs.lemmas.Bool.{cases_Bool, cases_lt, cond-true, cond-false, lt-ltb, le-ltb, le-leb, ltb-true, and_parts, and_from, and_right, or_from, or_left, or_right, false_from_ne_true, eqb-true, eqb-false, eq-eqb, ne_eqb, not-true, not_from_false}
use Rattle.std.proofs.lemmas.Nat.{div-add-mod', div_below, mul-le, le-div}
use Rattle.std.proofs.lemmas.List.Folds.{list_any_at, Any-from_list_any}
use Rattle.std.proofs.lemmas.List.FromFn.{get_or-range_with_len, length-range_with_len}
use Rattle.std.specs.Prelude.{count_by, filter, map, not, Some, None, option_map}
use Rattle.std.specs.List.{range_with_len, list_any}
use Rattle.object_heap.specs.HeapImage.{HeapImage, HasLiveList, IsValid, heap_words, region_words, region_count, region_of, is_live_word, live_words, start_of}
use Rattle.summary.proofs.Lemmas.Spans.{is_in, is_in_inside, is_in_parts, count_by-is_in}
use Rattle.summary.specs.NewAddresses.{prefix_end, new_top}
use Rattle.summary.specs.WordMoves.{slid, origin, reads, is_to_fill, word_moves}
use Rattle.summary.specs.RegionData.{destination, reader_count, source, data_words, first_target, last_target, readers_by_destination}
use Rattle.summary.proofs.Lemmas.Moves.{word_moves-live}
use Rattle.summary.proofs.Lemmas.Destinations.{count_by-same, count_by-none}
use Rattle.summary.proofs.Lemmas.Origin.{slid-increasing, origin-slid, origin-Some}
use Rattle.summary.proofs.Lemmas.Words.{live_words-more, live_below, slid-low, slid-le, slid-above, slid-ordered, slid-below, slid-onto}
use Rattle.summary.proofs.Lemmas.Regions.{region_is, region_low, region_high, region-le, region_apart, region_some, prefix_region, data_nth, data-le, data_before, slid-destination}

list_any-map-filter : {X : Type 0} (t : X → Bool) (h : ℕ → X) (p : ℕ → Bool) (xs : List ℕ) → list_any t (map h (filter p xs)) ≡ list_any (λ q. p q && t (h q)) xs
list_any-map-filter t h p [] = refl
list_any-map-filter t h p (x ∷ xs) = elim (cases_Bool (p x)) [
  | inl passes ↦ rw passes (ap (λ b. t (h x) || b) (list_any-map-filter t h p xs))
  | inr fails ↦ rw fails (list_any-map-filter t h p xs)
]

pub same_Bool : (b c : Bool) → (b ≡ true → c ≡ true) → (c ≡ true → b ≡ true) → b ≡ c
same_Bool true c f g = sym (f refl)
same_Bool false true f g = g refl
same_Bool false false f g = refl

module _ (image : HeapImage) (sound : HasLiveList image) where
  abbrev R : ℕ
  R = region_words image

  abbrev P : ℕ
  P = prefix_end image

  abbrev goes : ℕ → ℕ → ℕ → Bool
  goes d s q = is_live_word image q && (eqb (slid image q / R) d && eqb (q / R) s)

  reads-any : (d s : ℕ) → reads image d s ≡ list_any (goes d s) (range_with_len 0 (heap_words image))
  reads-any d s =
      ap (list_any (λ (m : ℕ × ℕ). eqb (m.1 / R) d && eqb (m.0 / R) s)) (word_moves-live image sound)
      ∙ list_any-map-filter (λ (m : ℕ × ℕ). eqb (m.1 / R) d && eqb (m.0 / R) s) (λ q. (q, slid image q)) (is_live_word image) (range_with_len 0 (heap_words image))

  -- a region is read for a live word of it
  pub reads-word : (d s : ℕ) → reads image d s ≡ true → (q : ℕ) × (is_live_word image q ≡ true) × (region_of image (slid image q) ≡ d) × (region_of image q ≡ s)
  reads-word d s h =
      let at = Any-from_list_any (goes d s) (range_with_len 0 (heap_words image)) (sym (reads-any d s) ∙ h) in
      let q : ℕ = at.1 in
      let both = and_parts (is_live_word image q) (eqb (slid image q / R) d && eqb (q / R) s) at.4 in
      let more = and_parts (eqb (slid image q / R) d) (eqb (q / R) s) both.1 in
      (q, both.0, eqb-true (slid image q / R) d more.0, eqb-true (q / R) s more.1)

  pub word-reads : (q : ℕ) → is_live_word image q ≡ true → reads image (region_of image (slid image q)) (region_of image q) ≡ true
  word-reads q live =
      let d : ℕ = slid image q / R in
      let s : ℕ = q / R in
      let l = live_below image sound q live in
      let n : ℕ = heap_words image in
      let at : get_or (range_with_len 0 n) q 0 ≡ q = get_or-range_with_len 0 n q 0 l ∙ zero-add q in
      let hit : goes d s q ≡ true = and_from (is_live_word image q) (eqb (slid image q / R) d && eqb (q / R) s) live (and_from (eqb (slid image q / R) d) (eqb (q / R) s) (eq-eqb d d refl) (eq-eqb s s refl)) in
      let long = length-range_with_len 0 n in
      reads-any d s ∙ list_any_at (goes d s) (range_with_len 0 n) q 0 (omega arith) (ap (goes d s) at ∙ hit)

  pub word_reads : (d s q : ℕ) → is_live_word image q ≡ true → region_of image (slid image q) ≡ d → region_of image q ≡ s → reads image d s ≡ true
  word_reads d s q live e k = sym (ap (λ a. reads image a (region_of image q)) e ∙ ap (reads image d) k) ∙ word-reads q live

  -- the words that go to a region lie in it or above
  pub reads-below : (d s : ℕ) → reads image d s ≡ true → d ≤ s
  reads-below d s h =
      let w = reads-word d s h in
      let q : ℕ = w.0 in
      let to : slid image q / R ≡ d = w.2 in
      let at : q / R ≡ s = w.3 in
      let down = region-le R (slid image q) q (region_some image) (slid-le image q) in
      omega arith

  pub reads-filled : (d s : ℕ) → reads image d s ≡ true → is_to_fill image d ≡ true
  reads-filled d s h =
      let w = reads-word d s h in
      let q : ℕ = w.0 in
      let to : slid image q / R ≡ d = w.2 in
      let top = slid-below image sound q w.1 in
      let low = region_low R (slid image q) in
      let same : slid image q / R * R ≡ d * R = ap (λ n. n * R) to in
      lt-ltb (start_of image d) (new_top image) (omega arith)

  -- the region of an address reads that of its origin
  pub origin-reads : (p q : ℕ) → origin image p ≡ Some q → reads image (region_of image p) (region_of image q) ≡ true
  origin-reads p q e =
      let h = origin-Some image sound p q e in
      word_reads (region_of image p) (region_of image q) q h.0 (ap (region_of image) h.1) refl

  -- an origin lies at its address or above
  pub origin-up : (p q : ℕ) → origin image p ≡ Some q → p ≤ q
  origin-up p q e =
      let h = origin-Some image sound p q e in
      let to : slid image q ≡ p = h.1 in
      let down = slid-le image q in
      omega arith

  pub origin-below : (p q : ℕ) → origin image p ≡ Some q → p < new_top image
  origin-below p q e =
      let h = origin-Some image sound p q e in
      let to : slid image q ≡ p = h.1 in
      let below = slid-below image sound q h.0 in
      omega arith

  -- a region of the dense prefix reads no other
  pub reads-prefix : (d s : ℕ) → start_of image d < P → reads image d s ≡ true → d ≡ s
  reads-prefix d s l h =
      let w = reads-word d s h in
      let q : ℕ = w.0 in
      let to : slid image q / R ≡ d = w.2 in
      let at : q / R ≡ s = w.3 in
      let end = prefix_region image d l in
      let high = region_high R (slid image q) (region_some image) in
      let same : slid image q / R * R ≡ d * R = ap (λ n. n * R) to in
      elim (cases_lt q P) [
        | inl low ↦ let e = slid-low image q low in let f : slid image q / R ≡ q / R = ap (λ n. n / R) e in omega arith
        | inr above ↦ let e = slid-above image q above in let no : ⊥ = omega arith in absurd no
      ]

  in_region : (r q : ℕ) → q / R ≡ r → (start_of image r ≤ q) × (q < start_of image r + R)
  in_region r q e =
      let low = region_low R q in
      let high = region_high R q (region_some image) in
      let same : q / R * R ≡ r * R = ap (λ n. n * R) e in
      (omega arith, omega arith)

  pub data-from_word : (r q : ℕ) → is_live_word image q ≡ true → region_of image q ≡ r → 0 < data_words image r
  data-from_word r q live e =
      let i = in_region r q e in
      let l = data_before image sound r q i.0 i.1 live in
      omega arith

  -- of the regions with data between two that a region reads it reads each
  pub reads-between : (d s t u : ℕ) → reads image d s ≡ true → reads image d u ≡ true → s ≤ t → t ≤ u → 0 < data_words image t → reads image d t ≡ true
  reads-between d s t u h k l m some =
      let v = reads-word d s h in
      let w = reads-word d u k in
      let a : ℕ = v.0 in
      let c : ℕ = w.0 in
      let r = data_nth image sound t 0 some in
      let b : ℕ = r.0 in
      let low : start_of image t ≤ b = r.1 in
      let high : b < start_of image t + R = r.2 in
      let live : is_live_word image b ≡ true = r.3 in
      let of : b / R ≡ t = region_is R t b low high in
      let ina = in_region s a v.3 in
      let inc = in_region u c w.3 in
      let to_a : slid image a / R ≡ d = v.2 in
      let to_c : slid image c / R ≡ d = w.2 in
      elim (cases_lt s t) [
        | inr same ↦ let e : s ≡ t = omega arith in ap (reads image d) (sym e) ∙ h
        | inl less ↦ elim (cases_lt t u) [
          | inr same ↦ let e : u ≡ t = omega arith in ap (reads image d) (sym e) ∙ k
          | inl more ↦
              let first = region_apart R s t less in
              let last = region_apart R t u more in
              let up = slid-ordered image a b v.1 (omega arith) in
              let over = slid-ordered image b c live (omega arith) in
              let one = region-le R (slid image a) (slid image b) (region_some image) up in
              let two = region-le R (slid image b) (slid image c) (region_some image) over in
              word_reads d t b live (omega arith) of
        ]
      ]

  -- ---- the regions to which a region's words go

  abbrev start : ℕ → ℕ
  start r = start_of image r

  -- of a region of the dense prefix with data both targets are the region itself
  prefix_targets : (s : ℕ) → start s < P → 0 < data_words image s → (first_target image s ≡ s) × (last_target image s ≡ s)
  prefix_targets s l some =
      let e : destination image s ≡ start s = cond-true (ltb (start s) P) (start s) (P + count_by (λ m. leb P m.0 && ltb m.0 (start s)) (word_moves image)) (lt-ltb (start s) P l) in
      let few = data-le image sound s in
      (region_is R s (destination image s) (omega arith) (omega arith), region_is R s (destination image s + data_words image s - 1) (omega arith) (omega arith))

  -- the first live word of a region goes to its first target, and the last one to its last
  first_word : (s : ℕ) → 0 < data_words image s → (q : ℕ) × (is_live_word image q ≡ true) × (q / R ≡ s) × (slid image q / R ≡ first_target image s) × ((r : ℕ) → is_live_word image r ≡ true → r / R ≡ s → q ≤ r)
  first_word s some =
      let w = data_nth image sound s 0 some in
      let q : ℕ = w.0 in
      let low : start s ≤ q = w.1 in
      let high : q < start s + R = w.2 in
      let live : is_live_word image q ≡ true = w.3 in
      let none : live_words image (start s) q ≡ 0 = w.4 in
      let of : q / R ≡ s = region_is R s q low high in (
        q,
        live,
        of,
        elim (cases_lt (start s) P) [
          | inl l ↦
              let t = prefix_targets s l some in
              let end = prefix_region image s l in
              let e = slid-low image q (omega arith) in
              ap (λ n. n / R) e ∙ of ∙ sym t.0
          | inr m ↦ ap (λ n. n / R) (slid-destination image sound s q m low live ∙ omega arith)
        ],
        λ r alive e. elim (cases_lt r q) [
          | inr fine ↦ fine
          | inl less ↦
              let i = in_region s r e in
              let from : start s ≤ r = i.0 in
              let more : live_words image (start s) r < live_words image (start s) q = live_words-more image (start s) r q from less alive in
              let no : ⊥ = omega arith in absurd no
        ],
      )

  last_word : (s : ℕ) → 0 < data_words image s → (q : ℕ) × (is_live_word image q ≡ true) × (q / R ≡ s) × (slid image q / R ≡ last_target image s) × ((r : ℕ) → is_live_word image r ≡ true → r / R ≡ s → r ≤ q)
  last_word s some =
      let w = data_nth image sound s (data_words image s - 1) (omega arith) in
      let q : ℕ = w.0 in
      let low : start s ≤ q = w.1 in
      let high : q < start s + R = w.2 in
      let live : is_live_word image q ≡ true = w.3 in
      let rest : live_words image (start s) q ≡ data_words image s - 1 = w.4 in
      let of : q / R ≡ s = region_is R s q low high in (
        q,
        live,
        of,
        elim (cases_lt (start s) P) [
          | inl l ↦
              let t = prefix_targets s l some in
              let end = prefix_region image s l in
              let e = slid-low image q (omega arith) in
              ap (λ n. n / R) e ∙ of ∙ sym t.1
          | inr m ↦ ap (λ n. n / R) (slid-destination image sound s q m low live ∙ omega arith)
        ],
        λ r alive e. elim (cases_lt q r) [
          | inr fine ↦ fine
          | inl less ↦
              let i = in_region s r e in
              let more : live_words image (start s) q < live_words image (start s) r = live_words-more image (start s) q r low less live in
              let few = data_before image sound s r i.0 i.1 alive in
              let no : ⊥ = omega arith in absurd no
        ],
      )

  -- a region is read by the regions from its first target up to its last one
  pub reads-targets : (d s : ℕ) → reads image d s ≡ true → (0 < data_words image s) × (first_target image s ≤ d) × (d ≤ last_target image s)
  reads-targets d s h =
      let w = reads-word d s h in
      let q : ℕ = w.0 in
      let some = data-from_word s q w.1 w.3 in
      let a = first_word s some in
      let b = last_word s some in
      let to : slid image q / R ≡ d = w.2 in
      let to_first : slid image a.0 / R ≡ first_target image s = a.3 in
      let to_last : slid image b.0 / R ≡ last_target image s = b.3 in
      let one = region-le R (slid image a.0) (slid image q) (region_some image) (slid-ordered image a.0 q a.1 (a.4 q w.1 w.3)) in
      let two = region-le R (slid image q) (slid image b.0) (region_some image) (slid-ordered image q b.0 w.1 (b.4 q w.1 w.3)) in
      (some, omega arith, omega arith)

  pub targets-read : (d s : ℕ) → 0 < data_words image s → first_target image s ≤ d → d ≤ last_target image s → reads image d s ≡ true
  targets-read d s some l m =
      let a = first_word s some in
      let to_first : slid image a.0 / R ≡ first_target image s = a.3 in
      elim (cases_lt (start s) P) [
        | inl below ↦
            let t = prefix_targets s below some in
            word_reads d s a.0 a.1 (omega arith) a.2
        | inr above ↦
            let D : ℕ = destination image s in
            elim (cases_lt D (d * R)) [
              | inl past ↦
                  let whole : d * R ≤ last_target image s * R = mul-le d R (last_target image s) R m (omega arith) in
                  let low = region_low R (D + data_words image s - 1) in
                  let w = data_nth image sound s (d * R - D) (omega arith) in
                  let q : ℕ = w.0 in
                  let live : is_live_word image q ≡ true = w.3 in
                  let k : live_words image (start s) q ≡ d * R - D = w.4 in
                  let goes_to = slid-destination image sound s q above w.1 live in
                  let at : slid image q ≡ d * R = omega arith in
                  let pos = region_some image in
                  word_reads d s q live (region_is R d (slid image q) (omega arith) (omega arith)) (region_is R s q w.1 w.2)
              | inr before ↦
                  let up = le-div d D R (region_some image) before in
                  word_reads d s a.0 a.1 (omega arith) a.2
            ]
      ]

  pub targets-ordered : (s : ℕ) → 0 < data_words image s → (first_target image s ≤ last_target image s) × (last_target image s ≤ first_target image s + 1) × (last_target image s ≤ s)
  targets-ordered s some =
      let D : ℕ = destination image s in
      let b = last_word s some in
      let few = data-le image sound s in
      let pos = region_some image in
      let high = region_high R D pos in
      let two : (D / R + 2) * R ≡ D / R * R + R + R = omega arith in
      let near = div_below (D + data_words image s - 1) R (D / R + 2) pos (omega arith) in
      let up = region-le R D (D + data_words image s - 1) pos (omega arith) in
      let down = region-le R (slid image b.0) b.0 pos (slid-le image b.0) in
      let to_last : slid image b.0 / R ≡ last_target image s = b.3 in
      let of : b.0 / R ≡ s = b.2 in
      (up, omega arith, omega arith)

  -- a region of the dense prefix with data reads itself
  pub prefix-reads : (d : ℕ) → start d < P → 0 < data_words image d → reads image d d ≡ true
  prefix-reads d l some = let t = prefix_targets d l some in targets-read d d some (omega arith) (omega arith)

  -- a region reads, from one that it reads on, those with data whose destination is not above it
  pub next-reads : (d s t : ℕ) → reads image d s ≡ true → s ≤ t → 0 < data_words image t → destination image t < start d + R → reads image d t ≡ true
  next-reads d s t h l some below =
      let w = reads-word d s h in
      let q : ℕ = w.0 in
      let to : slid image q / R ≡ d = w.2 in
      let of : q / R ≡ s = w.3 in
      let b = last_word t some in
      let of_b : b.0 / R ≡ t = b.2 in
      let to_b : slid image b.0 / R ≡ last_target image t = b.3 in
      let pos = region_some image in
      let e : (d + 1) * R ≡ start d + R = omega arith in
      let first = div_below (destination image t) R (d + 1) pos (omega arith) in
      let order : q ≤ b.0 = elim (cases_lt b.0 q) [
        | inr fine ↦ fine
        | inl less ↦
            let down = region-le R b.0 q pos (omega arith) in
            let same : s ≡ t = omega arith in
            b.4 q w.1 (omega arith)
      ] in
      let up = region-le R (slid image q) (slid image b.0) pos (slid-ordered image q b.0 w.1 order) in
      targets-read d t some (omega arith) (omega arith)

  pub reads-destination : (d t : ℕ) → reads image d t ≡ true → destination image t < start d + R
  reads-destination d t h =
      let r = reads-targets d t h in
      let first : first_target image t ≤ d = r.1 in
      let high = region_high R (destination image t) (region_some image) in
      let up : first_target image t * R ≤ d * R = mul-le (first_target image t) R d R first (omega arith) in
      omega arith

  -- ---- the source of a region's first word

  pub source-Some : (d : ℕ) → P ≤ start d → is_to_fill image d ≡ true → (s : ℕ) × (source image d ≡ Some s) × (reads image d s ≡ true) × ((t : ℕ) → reads image d t ≡ true → s ≤ t)
  source-Some d l fill =
      let below : start d < new_top image = ltb-true (start d) (new_top image) fill in
      let w = slid-onto image sound (start d) l below in
      let q : ℕ = w.0 in
      let live : is_live_word image q ≡ true = w.2 in
      let to : slid image q ≡ start d = w.3 in
      let pos = region_some image in
      let e : origin image (start d) ≡ Some q = ap (origin image) (sym to) ∙ origin-slid image sound q (live_below image sound q live) live in
      let test : (leb P (start d) && is_to_fill image d) ≡ true = and_from (leb P (start d)) (is_to_fill image d) (le-leb P (start d) l) fill in (
        q / R,
        cond-true (leb P (start d) && is_to_fill image d) (option_map (region_of image) (origin image (start d))) None test ∙ ap (option_map (region_of image)) e,
        word_reads d (q / R) q live (region_is R d (slid image q) (omega arith) (omega arith)) refl,
        λ t h.
            let v = reads-word d t h in
            let r : ℕ = v.0 in
            let to_r : slid image r / R ≡ d = v.2 in
            let of : r / R ≡ t = v.3 in
            let i = in_region d (slid image r) to_r in
            elim (cases_lt r q) [
              | inr fine ↦ let u = region-le R q r pos fine in omega arith
              | inl less ↦ let up = slid-increasing image r q v.1 less in let no : ⊥ = omega arith in absurd no
            ],
      )

  pub source-None : (d : ℕ) → (leb P (start d) && is_to_fill image d) ≡ false → source image d ≡ None
  source-None d h = cond-false (leb P (start d) && is_to_fill image d) (option_map (region_of image) (origin image (start d))) None h

  -- ---- how many other regions read one

  abbrev others_of : ℕ → ℕ
  others_of s = cond (eqb s (last_target image s)) 0 1 + cond (eqb (first_target image s) (last_target image s)) 0 1

  -- a region other than s between the targets, of which there are m from the first target on
  other_is_in : (s m : ℕ) → 0 < data_words image s → ((d : ℕ) → d ≤ last_target image s → (d ≡ s → ⊥) → d < first_target image s + m) → ((d : ℕ) → d < first_target image s + m → (d ≤ last_target image s) × (d < s))
      → (d : ℕ) → (not (eqb d s) && reads image d s) ≡ is_in (first_target image s) m d
  other_is_in s m some inside outside d = same_Bool (not (eqb d s) && reads image d s) (is_in (first_target image s) m d)
      (λ h.
      let both = and_parts (not (eqb d s)) (reads image d s) h in
      let t = reads-targets d s both.1 in
      is_in_inside (first_target image s) m d t.1 (inside d t.2 (eqb-false d s (not-true (eqb d s) both.0))))
      (λ h.
      let parts = is_in_parts (first_target image s) m d h in
      let o = outside d parts.1 in
      let below : d < s = o.1 in
      and_from (not (eqb d s)) (reads image d s) (not_from_false (eqb d s) (ne_eqb d s (λ e. let no : ⊥ = omega arith in no))) (targets-read d s some parts.0 o.0))

  other_readers : (s n : ℕ) → 0 < data_words image s → s < n → count_by (λ d. not (eqb d s) && reads image d s) (range_with_len 0 n) ≡ others_of s
  other_readers s n some l =
      let f : ℕ = first_target image s in
      let t : ℕ = last_target image s in
      let order = targets-ordered s some in
      let up : f ≤ t = order.0 in
      let near : t ≤ f + 1 = order.1 in
      let down : t ≤ s = order.2 in
      let wide : cond {A = ℕ} (eqb f t) 0 1 ≡ t - f = elim (cases_lt f t) [
        | inr more ↦ let same : f ≡ t = omega arith in cond-true (eqb f t) 0 1 (eq-eqb f t same) ∙ omega arith
        | inl less ↦ cond-false (eqb f t) 0 1 (ne_eqb f t (λ e. let no : ⊥ = omega arith in no)) ∙ omega arith
      ] in
      elim (cases_lt t s) [
        | inr more ↦
            let same : s ≡ t = omega arith in
            let one : cond {A = ℕ} (eqb s t) 0 1 ≡ 0 = cond-true (eqb s t) 0 1 (eq-eqb s t same) in
            let tests = count_by-same (λ d. not (eqb d s) && reads image d s) (is_in f (t - f)) 0 n (λ d a b. other_is_in s (t - f) some (λ c m k. elim (cases_lt c t) [ inl less ↦ omega arith | inr from ↦ let e : c ≡ s = omega arith in absurd (k e) ]) (λ c m. (omega arith, omega arith)) d) in
            let count = count_by-is_in f (t - f) 0 n in
            omega arith
        | inl less ↦
            let one : cond {A = ℕ} (eqb s t) 0 1 ≡ 1 = cond-false (eqb s t) 0 1 (ne_eqb s t (λ e. let no : ⊥ = omega arith in no)) in
            let tests = count_by-same (λ d. not (eqb d s) && reads image d s) (is_in f (t - f + 1)) 0 n (λ d a b. other_is_in s (t - f + 1) some (λ c m k. omega arith) (λ c m. (omega arith, omega arith)) d) in
            let count = count_by-is_in f (t - f + 1) 0 n in
            omega arith
      ]

module _ (image : HeapImage) (valid : IsValid image) where
  abbrev live_list : HasLiveList image
  live_list = valid.live_list

  -- the region of an address of the heap
  pub region_below : (q : ℕ) → q < heap_words image → region_of image q < region_count image
  region_below q l =
      let n : ℕ = region_words image in
      let whole = div-add-mod' (heap_words image) n in
      let none : heap_words image % n ≡ 0 = valid.limits.whole_regions in
      div_below q n (region_count image) (region_some image) (omega arith)

  pub reads-in_range : (d s : ℕ) → reads image d s ≡ true → (d < region_count image) × (s < region_count image)
  reads-in_range d s h =
      let w = reads-word image live_list d s h in
      let q : ℕ = w.0 in
      let of : region_of image q ≡ s = w.3 in
      let l = region_below q (live_below image live_list q w.1) in
      let down = reads-below image live_list d s h in
      (omega arith, omega arith)

  pub data-in_range : (s : ℕ) → 0 < data_words image s → s < region_count image
  data-in_range s some =
      let a = first_word image live_list s some in
      let of : region_of image a.0 ≡ s = a.2 in
      let l = region_below a.0 (live_below image live_list a.0 a.1) in
      omega arith

  pub reader_count-some : (s : ℕ) → 0 < data_words image s → reader_count image s ≡ others_of image live_list s
  reader_count-some s some = other_readers image live_list s (region_count image) some (data-in_range s some)

  pub reader_count-none : (s : ℕ) → data_words image s ≡ 0 → reader_count image s ≡ 0
  reader_count-none s none = count_by-none (λ d. not (eqb d s) && reads image d s) 0 (region_count image) (λ d a b. and_right (not (eqb d s)) (reads image d s) (false_from_ne_true (reads image d s) (λ h.
      let t = reads-targets image live_list d s h in
      let some : 0 < data_words image s = t.0 in
      let no : ⊥ = omega arith in no)))

  nested : (b c : Bool) (n : ℕ) → cond (b || c) 0 n ≡ cond b 0 (cond c 0 n)
  nested true c n = refl
  nested false c n = refl

  reader_count-cases : (s : ℕ) → reader_count image s ≡ cond (ltb (start_of image s) (prefix_end image) || eqb (data_words image s) 0) 0 (others_of image live_list s)
  reader_count-cases s =
      let low : Bool = ltb (start_of image s) (prefix_end image) in
      let empty : Bool = eqb (data_words image s) 0 in
      let others : ℕ = others_of image live_list s in
      elim (cases_lt 0 (data_words image s)) [
        | inr none ↦
            let z : data_words image s ≡ 0 = omega arith in
            reader_count-none s z ∙ sym (cond-true (low || empty) 0 others (or_right low empty (eq-eqb (data_words image s) 0 z)))
        | inl some ↦
            let full : empty ≡ false = ne_eqb (data_words image s) 0 (λ e. let no : ⊥ = omega arith in no) in
            elim (cases_lt (start_of image s) (prefix_end image)) [
              | inr above ↦ reader_count-some s some ∙ sym (cond-false (low || empty) 0 others (or_from low empty (le-ltb (start_of image s) (prefix_end image) above) full))
              | inl below ↦
                  let t = prefix_targets image live_list s below some in
                  let f : ℕ = first_target image s in
                  let g : ℕ = last_target image s in
                  let one : cond {A = ℕ} (eqb s g) 0 1 ≡ 0 = cond-true (eqb s g) 0 1 (eq-eqb s g (sym t.1)) in
                  let two : cond {A = ℕ} (eqb f g) 0 1 ≡ 0 = cond-true (eqb f g) 0 1 (eq-eqb f g (t.0 ∙ sym t.1)) in
                  let e = reader_count-some s some in
                  let z : reader_count image s ≡ 0 = omega arith in
                  z ∙ sym (cond-true (low || empty) 0 others (or_left low empty (lt-ltb (start_of image s) (prefix_end image) below)))
            ]
      ]

  pub reader_count-is : (s : ℕ) → reader_count image s ≡ readers_by_destination image s
  reader_count-is s = reader_count-cases s ∙ nested (ltb (start_of image s) (prefix_end image)) (eqb (data_words image s) 0) (others_of image live_list s)

  cond-le-1 : (b : Bool) → cond {A = ℕ} b 0 1 ≤ 1
  cond-le-1 true = omega arith
  cond-le-1 false = omega arith

  pub reader_count-le : (s : ℕ) → reader_count image s ≤ 2
  reader_count-le s = elim (cases_lt 0 (data_words image s)) [
    | inr none ↦ let e = reader_count-none s (omega arith) in omega arith
    | inl some ↦
        let e = reader_count-some s some in
        let one = cond-le-1 (eqb s (last_target image s)) in
        let two = cond-le-1 (eqb (first_target image s) (last_target image s)) in
        omega arith
  ]
