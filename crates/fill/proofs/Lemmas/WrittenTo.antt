-- How far a region is written once the live words below an address are copied.
use Rattle.std.proofs.Common.{◌≡◌, ℕ, zero, suc, ◌+◌, ◌-◌, ◌*◌, ◌/◌, ◌≤◌, ◌<◌, inl, inr, true, false, ◌&&◌, List, length, refl, sym, ◌∙◌, ap, subst, arith, ltb, max, min}
use Rattle.std.proofs.lemmas.Bool.{cases_lt, and_from, and_parts, lt-ltb, ltb-true, false≢true}
use Rattle.object_heap.specs.HeapImage.{HeapImage, HasLiveList, IsValid, heap_words, region_words, start_of, region_count, word_at, is_live_word, block_of}
use Rattle.summary.specs.NewAddresses.{prefix_end, new_top}
use Rattle.summary.specs.WordMoves.{slid, reads}
use Rattle.summary.specs.PlanLaws.{PlanLaws}
use Rattle.fill.proofs.Lemmas.Regions.{region_is, region_apart, region_low, region_high, region_some}
use Rattle.std.specs.Prelude.{Some}
use Rattle.std.proofs.lemmas.Bool.{false_from_ne_true}
use Rattle.summary.specs.RegionData.{source, destination, fill_count}
use Rattle.fill.proofs.Lemmas.Lists.{same_Bool}
use Rattle.fill.specs.WordBlocks.{IsSplitAt, Shows}
use Rattle.std.proofs.lemmas.List.{ext_get_or}
use Rattle.std.specs.Prelude.{map}
use Rattle.std.proofs.lemmas.List.FromFn.{get_or-map-range_with_len, length-map-range_with_len}
use Rattle.summary.specs.RegionData.{region_addresses}
use Rattle.fill.specs.CopiedWords.{written_to, reaches}
use Rattle.fill.specs.SlidWords.{held_word, slid_word}
use Rattle.fill.proofs.Lemmas.Slides.{slid-monotone, slid-all, slid_word-above}
use Rattle.std.proofs.lemmas.Nat.{mul-le, div-add-mod'}
use Rattle.fill.proofs.Lemmas.Writing.{split_skip, split_all, length-part, get_or-part}

pub next_start : (image : HeapImage) (s t : ℕ) → t ≡ s + 1 → start_of image s + region_words image ≡ start_of image t
next_start image s t e = let more : t * region_words image ≡ (s + 1) * region_words image = ap (λ n. n * region_words image) e in omega arith

module _ (law : PlanLaws) (image : HeapImage) (sound : HasLiveList image) where
  abbrev P : ℕ
  P = prefix_end image

  abbrev R : ℕ
  R = region_words image

  -- a region whose words reach the target is read by its fill
  pub reaches-reads : (d s : ℕ) → P ≤ start_of image d → P ≤ start_of image s → start_of image s + R ≤ heap_words image
      → slid image (start_of image s) < start_of image d + R → start_of image d < slid image (start_of image s + R) → slid image (start_of image s) < slid image (start_of image s + R) → reads image d s ≡ true
  reaches-reads d s l m n one two three =
      let first : ℕ = slid image (start_of image s) in
      let behind : ℕ = slid image (start_of image s + R) in
      let t : ℕ = max (start_of image d) first in
      let up = slid-monotone law image (start_of image s + R) (heap_words image) (omega arith) n in
      let all = slid-all law image sound in
      let on = law.slid-onto image sound t (omega arith) (omega arith) in
      let q : ℕ = on.0 in
      let after_prefix : P ≤ q = on.1 in
      let live : is_live_word image q ≡ true = on.2 in
      let to : slid image q ≡ t = on.3 in
      let from : start_of image s ≤ q = elim (cases_lt q (start_of image s)) [
        | inl less ↦ let more = law.slid-increasing image q (start_of image s) live less in let no : ⊥ = omega arith in absurd no
        | inr more ↦ more
      ] in
      let below : q < start_of image s + R = elim (cases_lt q (start_of image s + R)) [
        | inl less ↦ less
        | inr more ↦ let over = slid-monotone law image (start_of image s + R) q (omega arith) more in let no : ⊥ = omega arith in absurd no
      ] in
      law.word_reads image sound d s q live (region_is R d (slid image q) (omega arith) (omega arith)) (region_is R s q from below)

  pub reads-reaches : (d s : ℕ) → P ≤ start_of image s → reads image d s ≡ true
      → (slid image (start_of image s) < start_of image d + R) × (start_of image d < slid image (start_of image s + R)) × (slid image (start_of image s) < slid image (start_of image s + R))
  reads-reaches d s m h =
      let some = region_some image in
      let w = law.reads-word image sound d s h in
      let q : ℕ = w.0 in
      let live : is_live_word image q ≡ true = w.1 in
      let to : slid image q / R ≡ d = w.2 in
      let of : q / R ≡ s = w.3 in
      let low : s * R ≤ q = subst (λ (n : ℕ). n * R ≤ q) of (region_low R q) in
      let high : q < s * R + R = subst (λ (n : ℕ). q < n * R + R) of (region_high R q some) in
      let to_low : d * R ≤ slid image q = subst (λ (n : ℕ). n * R ≤ slid image q) to (region_low R (slid image q)) in
      let to_high : slid image q < d * R + R = subst (λ (n : ℕ). slid image q < n * R + R) to (region_high R (slid image q) some) in
      let first = slid-monotone law image (start_of image s) q m low in
      let last = law.slid-increasing image q (start_of image s + R) live high in
      (omega arith, omega arith, omega arith)

  pub reads-is : (d s : ℕ) → P ≤ start_of image d → P ≤ start_of image s → start_of image s + R ≤ heap_words image
      → reaches (start_of image d) (start_of image d + R) (slid image (start_of image s)) (slid image (start_of image s + R)) ≡ reads image d s
  reads-is d s l m n =
      let first : ℕ = slid image (start_of image s) in
      let behind : ℕ = slid image (start_of image s + R) in
      same_Bool (reaches (start_of image d) (start_of image d + R) first behind) (reads image d s)
      (λ h.
      let one = and_parts (ltb first (start_of image d + R)) (ltb (start_of image d) behind && ltb first behind) h in
      let two = and_parts (ltb (start_of image d) behind) (ltb first behind) one.1 in
      reaches-reads d s l m n (ltb-true first (start_of image d + R) one.0) (ltb-true (start_of image d) behind two.0) (ltb-true first behind two.1))
      (λ h.
      let r = reads-reaches d s m h in
      and_from (ltb first (start_of image d + R)) (ltb (start_of image d) behind && ltb first behind) (lt-ltb first (start_of image d + R) r.0)
      (and_from (ltb (start_of image d) behind) (ltb first behind) (lt-ltb (start_of image d) behind r.1) (lt-ltb first behind r.2)))

  -- a region that is not read leaves the target written up to the same address
  pub written_to-skip : (d s : ℕ) → P ≤ start_of image d → P ≤ start_of image s → start_of image s + R ≤ heap_words image → reads image d s ≡ false
      → written_to image (start_of image d) (start_of image s) ≡ written_to image (start_of image d) (start_of image s + R)
  written_to-skip d s l m n h =
      let first : ℕ = slid image (start_of image s) in
      let behind : ℕ = slid image (start_of image s + R) in
      let up = slid-monotone law image (start_of image s) (start_of image s + R) m (omega arith) in
      elim (cases_lt first (start_of image d + R)) [
        | inr far ↦ omega arith
        | inl near ↦ elim (cases_lt (start_of image d) behind) [
          | inr low ↦ omega arith
          | inl over ↦ elim (cases_lt first behind) [
            | inr none ↦ omega arith
            | inl some ↦ absurd (false≢true (sym h ∙ reaches-reads d s l m n near over some))
          ]
        ]
      ]

  -- a region that is read continues where the target is written up to
  pub written_to-read : (d s : ℕ) → P ≤ start_of image s → reads image d s ≡ true
      → (slid image (start_of image s) ≤ written_to image (start_of image d) (start_of image s)) × (written_to image (start_of image d) (start_of image s) ≤ slid image (start_of image s + R))
      × (written_to image (start_of image d) (start_of image s + R) ≡ min (start_of image d + R) (slid image (start_of image s + R)))
  written_to-read d s m h = let r = reads-reaches d s m h in (omega arith, omega arith, omega arith)

  pub written_to-own : (d : ℕ) → written_to image (start_of image d) (start_of image d) ≡ start_of image d
  written_to-own d = let down = law.slid-le image (start_of image d) in omega arith

  -- once all live words are written, so is the region
  pub written_to-all : (held : ℕ → List ℕ) (start : ℕ) (xs : List ℕ) (p : ℕ) → length xs ≡ R → p ≡ written_to image start (heap_words image)
      → IsSplitAt (slid_word image held) (held_word image held) start xs p → Shows (slid_word image held) start xs
  written_to-all held start xs p long e h =
      let all = slid-all law image sound in
      let skipped = split_skip (slid_word image held) (held_word image held) start xs p (start + R) h (omega arith) (λ a l m n. sym (slid_word-above image held a (omega arith))) in
      split_all (slid_word image held) (held_word image held) start xs (start + R) skipped (omega arith)

module _ (image : HeapImage) (valid : IsValid image) where
  abbrev N : ℕ
  N = heap_words image

  abbrev S : ℕ
  S = region_words image

  pub all_regions : region_count image * S ≡ N
  all_regions = let e = div-add-mod' N S in let w = valid.limits.whole_regions in omega arith

  pub region_fits : (s : ℕ) → s < region_count image → start_of image s + S ≤ N
  region_fits s l = let up = region_apart S s (region_count image) l in let all = all_regions in omega arith

  pub source_behind : (d s : ℕ) → d ≤ s → prefix_end image ≤ start_of image d → prefix_end image ≤ start_of image s
  source_behind d s l m = let up = mul-le d S s S l (omega arith) in omega arith

  -- the words of a region at the start
  pub shows_start : (d : ℕ) → d < region_count image → Shows (word_at image) (start_of image d) (block_of image d)
  shows_start d l = λ k m. let fits = region_fits d l in let long = length-part image.words (start_of image d) S fits in get_or-part image.words (start_of image d) S k (omega arith)

  pub length_start : (d : ℕ) → d < region_count image → length (block_of image d) ≡ S
  length_start d l = length-part image.words (start_of image d) S (region_fits d l)

  -- a region that shows the words of f has these words
  pub shows_block : (f : ℕ → ℕ) (d : ℕ) (xs : List ℕ) → length xs ≡ S → Shows f (start_of image d) xs → xs ≡ map f (region_addresses image d)
  shows_block f d xs long h =
      let all = length-map-range_with_len f (start_of image d) S in
      ext_get_or 0 xs (map f (region_addresses image d)) (long ∙ sym all) (λ k m.
      h k m ∙ sym (get_or-map-range_with_len f (start_of image d) S k (start_of image d + k) 0 (omega arith) refl))

module _ (law : PlanLaws) (image : HeapImage) (valid : IsValid image) where
  pub to_fill-below : (d : ℕ) → start_of image d < new_top image → d < fill_count image
  to_fill-below d l = ltb-true d (fill_count image) (sym (law.to_fill-count image d) ∙ lt-ltb (start_of image d) (new_top image) l)

  pub to_fill-inside : (d : ℕ) → start_of image d < new_top image → d < region_count image
  to_fill-inside d l = elim (cases_lt d (region_count image)) [
    | inl less ↦ less
    | inr more ↦
        let up = mul-le (region_count image) (region_words image) d (region_words image) more (omega arith) in
        let all = all_regions image valid in
        let top = slid-all law image valid.live_list in
        let down = law.slid-le image (heap_words image) in
        let no : ⊥ = omega arith in absurd no
  ]

  -- nor do several in a row
  pub written_to-gap : (d s n : ℕ) → prefix_end image ≤ start_of image d → d ≤ s → s + n ≤ region_count image → ((t : ℕ) → s ≤ t → t < s + n → reads image d t ≡ false)
      → written_to image (start_of image d) (start_of image s) ≡ written_to image (start_of image d) (start_of image (s + n))
  written_to-gap d s zero l m k unread = let e : s + 0 ≡ s = omega arith in ap (λ r. written_to image (start_of image d) (start_of image r)) (sym e)
  written_to-gap d s (suc n) l m k unread =
      let before = written_to-gap d s n l m (omega arith) (λ t a b. unread t a (omega arith)) in
      let fits = region_fits image valid (s + n) (omega arith) in
      let skip = written_to-skip law image valid.live_list d (s + n) l (source_behind image valid d (s + n) (omega arith) l) fits (unread (s + n) (omega arith) (omega arith)) in
      let next : start_of image (s + n) + region_words image ≡ start_of image (s + suc n) = next_start image (s + n) (s + suc n) (omega arith) in
      before ∙ skip ∙ ap (written_to image (start_of image d)) next

  pub written_to-between : (d s t : ℕ) → prefix_end image ≤ start_of image d → d ≤ s → s ≤ t → t ≤ region_count image → ((u : ℕ) → s ≤ u → u < t → reads image d u ≡ false)
      → written_to image (start_of image d) (start_of image s) ≡ written_to image (start_of image d) (start_of image t)
  written_to-between d s t l m up k unread =
      let e : s + (t - s) ≡ t = omega arith in
      written_to-gap d s (t - s) l m (omega arith) (λ u a b. unread u a (omega arith)) ∙ ap (λ r. written_to image (start_of image d) (start_of image r)) e

  -- a region written up to the words of its last source is written whole
  pub written_to-last : (held : ℕ → List ℕ) (d from to : ℕ) (xs : List ℕ) → prefix_end image ≤ start_of image d → d < from → from ≤ region_count image
      → ((t : ℕ) → from ≤ t → t < region_count image → reads image d t ≡ false) → to ≡ written_to image (start_of image d) (start_of image from)
      → length xs ≡ region_words image → IsSplitAt (slid_word image held) (held_word image held) (start_of image d) xs to → Shows (slid_word image held) (start_of image d) xs
  written_to-last held d from to xs l own within last place long h =
      let rest = written_to-between d from (region_count image) l (omega arith) within (omega arith) last ∙ ap (written_to image (start_of image d)) (all_regions image valid) in
      written_to-all law image valid.live_list held (start_of image d) xs to long (place ∙ rest) h

  -- the words for a region lie below the region after its last source
  pub reached-last : (d from p : ℕ) → prefix_end image ≤ start_of image d → d < from → from ≤ region_count image
      → ((t : ℕ) → from ≤ t → t < region_count image → reads image d t ≡ false) → start_of image d ≤ p → p < start_of image d + region_words image → p < new_top image → p < slid image (start_of image from)
  reached-last d from p l own within last low high below =
      let rest : written_to image (start_of image d) (start_of image from) ≡ written_to image (start_of image d) (heap_words image) = written_to-between d from (region_count image) l (omega arith) within (omega arith) last ∙ ap (written_to image (start_of image d)) (all_regions image valid) in
      let all = slid-all law image valid.live_list in
      omega arith

  -- the source of a region to fill has the word that goes to its start
  pub source_place : (d s : ℕ) → prefix_end image ≤ start_of image d → start_of image d < new_top image → source image d ≡ Some s
      → (reads image d s ≡ true) × (d ≤ s) × (s < region_count image) × (slid image (start_of image s) ≤ start_of image d) × (start_of image d ≤ slid image (start_of image s + region_words image))
  source_place d s l m e =
      let found = law.source-Some image valid.live_list d l (lt-ltb (start_of image d) (new_top image) m) in
      let t : ℕ = found.0 in
      let same : s ≡ t = one_some s t (sym e ∙ found.1) in
      let read : reads image d s ≡ true = ap (reads image d) same ∙ found.2 in
      let up : d ≤ s = law.reads-below image valid.live_list d s read in
      let inside : s < region_count image = (law.reads-in_range image valid d s read).1 in
      let between = written_to-between d d s l (omega arith) up (omega arith) (λ u a b. false_from_ne_true (reads image d u) (λ h.
      let least : t ≤ u = found.3 u h in
      omega arith)) in
      let own = written_to-own law image valid.live_list d in
      let on = written_to-read law image valid.live_list d s (source_behind image valid d s up l) read in
      let low : slid image (start_of image s) ≤ written_to image (start_of image d) (start_of image s) = on.0 in
      let high : written_to image (start_of image d) (start_of image s) ≤ slid image (start_of image s + region_words image) = on.1 in
      (read, up, inside, omega arith, omega arith)
    where
      one_some : (a b : ℕ) → Some a ≡ Some b → a ≡ b
      one_some a b h = cc

  -- where the first live word of a region goes, by its region data
  pub destination-slid : (r : ℕ) → prefix_end image ≤ start_of image r → start_of image r ≤ heap_words image → destination image r ≡ slid image (start_of image r)
  destination-slid r l m = law.destination-live_words image valid.live_list r l m ∙ sym (law.slid-high image (start_of image r) l)
