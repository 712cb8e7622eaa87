-- The objects that roots reach, as a live list.
use Rattle.std.proofs.Common.{◌≡◌, ℕ, zero, suc, ◌+◌, ◌-◌, ◌/◌, ◌%◌, ◌^◌, ◌≤◌, ◌<◌, inl, inr, true, false, not, ◌&&◌, List, [], length, get_or, refl, sym, ◌∙◌, ap, ap₂, subst, subst₂, arith, ltb, leb, eqb}
use Rattle.std.proofs.lemmas.Bool.{cases_Bool, cases_eq, and_from, and_parts, or_left, or_right, cond-true, cond-false, le-ltb, lt-leb, ltb-true, eq-eqb, eqb-true, ne_eqb}
use Rattle.std.proofs.lemmas.List.Folds.{list_any_at, Any-from_list_any}
use Rattle.std.proofs.lemmas.List.FromFn.{length-range_with_len, get_or-range_with_len}
use Rattle.std.specs.Prelude.{All, None, filter}
use Rattle.std.specs.List.{list_any, range_with_len, AllAdjacentBelow}
use Rattle.object_heap.specs.declared.version.Version.TheVariants.{One}
use Rattle.object_heap.specs.HeapImage.{HeapImage, HasLiveList, HasSoundHeader, heap_words, word_at, kind_at, size_at, end_of, references_at, reference_at, is_null_or_live, is_unsound, leads_to, refers_to, with_referred, reached_in, reachable}
use Rattle.object_heap.specs.Layout.{Layout, Coding, Coded, coded_reference, is_coded, reference_in}
use Rattle.object_heap.specs.Reachable.{is_listed, IsClosed}
use Rattle.coded_redirection.specs.SamePlan.{HasSameObjects, HasSameWords}

-- a reference leads to one of the addresses, or nowhere
reference-le : (c : Coding) (w : ℕ) → coded_reference c w ≤ c.count
reference-le c w = elim (cases_Bool (is_coded c w)) [
  | inl some ↦
      let place : ℕ = (w - c.base) / 2 ^ c.unit in
      let is = cond-true (is_coded c w) (place + 1) 0 some in
      let low = ltb-true place c.count (and_parts (leb c.base w && eqb ((w - c.base) % 2 ^ c.unit) 0) (ltb place c.count) some).1 in
      omega (arith, is, low)
  | inr none ↦ let is = cond-false (is_coded c w) ((w - c.base) / 2 ^ c.unit + 1) 0 none in omega (arith, is)
]

module _ (image : HeapImage) where
  -- a sound header fails no test
  not_unsound : (a : ℕ) → HasSoundHeader image a → is_unsound image a ≡ false
  not_unsound a h =
      let one : not (eqb (kind_at image a) 1) ≡ false = ap not (eq-eqb (kind_at image a) 1 h.object) in
      let two : eqb (size_at image a) 0 ≡ false = ne_eqb (size_at image a) 0 (λ z. let s = h.header in let no : ⊥ = omega arith in no) in
      let three : leb (size_at image a) (references_at image a) ≡ false = lt-leb (size_at image a) (references_at image a) h.references in
      let four : ltb (heap_words image) (end_of image a) ≡ false = le-ltb (heap_words image) (end_of image a) h.inside in
      rw (one, two, three, four) refl

  -- an object refers by each of its fields
  refers_by : (a b f : ℕ) → is_unsound image a ≡ false → f < references_at image a → reference_at image a f ≡ b + 1 → refers_to image a b ≡ true
  refers_by a b f ok l e =
      let n : ℕ = references_at image a in
      let long = length-range_with_len 0 n in
      let field : get_or (range_with_len 0 n) f 0 ≡ f = get_or-range_with_len 0 n f 0 l ∙ omega arith in
      and_from (not (is_unsound image a)) (list_any (λ k. leads_to (reference_at image a k) b) (range_with_len 0 n)) (ap not ok)
      (list_any_at (λ k. leads_to (reference_at image a k) b) (range_with_len 0 n) f 0 (omega arith) (ap (λ k. leads_to (reference_at image a k) b) field ∙ eq-eqb (reference_at image a f) (b + 1) e))

  leads_to_listed : (w b : ℕ) → w ≡ b + 1 → is_listed image.live b ≡ true → is_null_or_live image w ≡ true
  leads_to_listed w b is listed =
      let at = Any-from_list_any (λ x. eqb b x) image.live listed in
      let same : b ≡ at.1 = eqb-true b at.1 at.4 in
      or_right (eqb w 0) (list_any (λ x. eqb w (x + 1)) image.live)
      (list_any_at (λ x. eqb w (x + 1)) image.live at.0 at.1 at.2
      (ap (λ x. eqb w (x + 1)) at.3 ∙ eq-eqb w (at.1 + 1) (is ∙ ap (λ x. x + 1) same)))

module _ (c : Coding) (image other : HeapImage) (roots : List ℕ) (closed : IsClosed image roots (is_listed (reachable image roots))) (coded : image.layout ≡ Coded c) (few : c.count ≤ heap_words image)
    (reached : image.live ≡ reachable image roots) (sounds : All (HasSoundHeader image) image.live) (same : HasSameObjects image other) (lives : HasLiveList other) where
  leads : (k d f : ℕ) → k < length image.live → f < references_at image (get_or image.live k d) → is_null_or_live image (reference_at image (get_or image.live k d) f) ≡ true
  leads k d f l inside =
      let a : ℕ = get_or image.live k d in
      let w : ℕ = reference_at image a f in
      let most : w ≤ heap_words image =
      subst (λ n. n ≤ heap_words image) (sym (ap (λ m. reference_in m (word_at image (a + 1 + f))) coded)) (let r = reference-le c (word_at image (a + 1 + f)) in omega (arith, r, few)) in
      elim (cases_eq w 0) [
        | inl null ↦ or_left (eqb w 0) (list_any (λ x. eqb w (x + 1)) image.live) (eq-eqb w 0 null)
        | inr some ↦
            let b : ℕ = w - 1 in
            let is : w ≡ b + 1 = omega (arith, some) in
            let low : b < heap_words image = omega (arith, some, most) in
            let refers = refers_by image a b f (not_unsound image a (sounds k d l)) inside is in
            let listed : is_listed image.live a ≡ true = list_any_at (λ x. eqb a x) image.live k d l (eq-eqb a a refl) in
            let passes = closed.from_objects a b (sym (ap (λ xs. is_listed xs a) reached) ∙ listed) refers low in
            leads_to_listed image w b is (ap (λ xs. is_listed xs b) reached ∙ passes)
      ]

  reached-HasLiveList : HasLiveList image
  reached-HasLiveList = record {
    sound = sounds;
    apart = λ k d l.
        let a : ℕ = get_or image.live k d in
        let there = subst (λ xs. AllAdjacentBelow (λ x y. end_of other x ≤ y) xs (length xs)) same.live lives.apart k d l in
        subst (λ s. a + s ≤ get_or image.live (k + 1) d) (same.sizes k d (omega arith)) there;
    references = λ k d l f inside. leads k d f l inside;
  }

-- an image of these words alone
abbrev bare : Layout → List ℕ → HeapImage
bare layout words = record { version = One; layout = layout; region_log = 0; allowance = 0; words = words; live = []; roots = None }

module _ (image other : HeapImage) (same : HasSameWords image other) (roots : List ℕ) where
  reached_in-same : (n : ℕ) → reached_in other roots n ≡ reached_in image roots n
  reached_in-same zero = ap (λ ws. filter (λ b. list_any (λ w. leads_to w b) roots) (range_with_len 0 (length ws))) same.words
  reached_in-same (suc n) = ap (with_referred other) (reached_in-same n) ∙ ap₂ (λ l ws. with_referred (bare l ws) (reached_in image roots n)) same.layout same.words

  pub reachable-same : reachable other roots ≡ reachable image roots
  unfolding reachable
  reachable-same = ap (reached_in other roots) (ap length same.words) ∙ reached_in-same (heap_words image)

-- a header is as sound
sound-same : (image other : HeapImage) → HasSameWords image other → (a : ℕ) → HasSoundHeader image a → HasSoundHeader other a
sound-same image other same a h = back (subst₂ (λ l ws. HasSoundHeader (bare l ws) a) (sym same.layout) (sym same.words) (record { object = h.object; header = h.header; references = h.references; inside = h.inside }))
  where
    back : HasSoundHeader (bare other.layout other.words) a → HasSoundHeader other a
    back k = record { object = k.object; header = k.header; references = k.references; inside = k.inside }

pub reached_in_heap : (c : Coding) (heap image other : HeapImage) (roots : List ℕ) → IsClosed image roots (is_listed (reachable image roots)) → heap.layout ≡ Coded c → c.count ≤ heap_words heap
    → All (HasSoundHeader heap) image.live → image.live ≡ reachable heap roots → HasSameWords heap image → HasSameObjects image other → HasLiveList other → HasLiveList image
reached_in_heap c heap image other roots closed coded few sounds reached words same lives =
    let all : c.count ≤ heap_words image = subst (λ n. c.count ≤ n) (sym (ap length words.words)) few in
    reached-HasLiveList c image other roots closed (words.layout ∙ coded) all (reached ∙ sym (reachable-same heap image words roots))
    (λ k d l. sound-same heap image words (get_or image.live k d) (sounds k d l)) same lives
