-- The references of the planned objects that begin below a limit.
use Rattle.std.proofs.Common.{◌≡◌, ◌∙◌, ℕ, zero, suc, ◌+◌, ◌-◌, ◌≤◌, ◌<◌, Bool, true, false, ◌&&◌, ◌||◌, List, [], ◌∷◌, length, get_or, ltb, leb, eqb, inl, inr, refl, sym, ap, subst, arith}
use Rattle.std.proofs.lemmas.Bool.{and_parts, and_from, and_right, cases_Bool, cases_lt, false_from_ne_true, true≢false, ltb-true, leb-true, lt-ltb, le-leb, le-ltb, eqb-true, eq-eqb}
use Rattle.std.proofs.lemmas.Grind.{get_or_default_zero}
use Rattle.std.proofs.lemmas.List.Folds.{Any-from_list_any, list_any_at}
use Rattle.std.specs.List.{list_any}
use Rattle.object_heap.specs.Layout.{Coding, coded_references}
use Rattle.object_heap.specs.HeapImage.{HeapImage, HasLiveList, HasSoundHeader, heap_words, end_of, is_word_of}
use Rattle.mark_bitmap.specs.Marks.{is_begin}
use Rattle.summary.specs.PlanLaws.{PlanLaws}
use Rattle.coded_redirection.specs.References.{is_reference_in, is_planned_reference}

same_any : (p r : ℕ → Bool) (xs : List ℕ) → ((i : ℕ) → i < length xs → p (get_or xs i 0) ≡ r (get_or xs i 0)) → list_any p xs ≡ list_any r xs
same_any p r [] e = refl
same_any p r (x ∷ xs) e = ap (λ b. b || list_any p xs) (e 0 (omega arith)) ∙ ap (λ b. r x || b) (same_any p r xs (λ i l. e (suc i) (omega arith)))

module _ (image : HeapImage) (c : Coding) (first : ℕ) (words : List ℕ) where
  abbrev is_in : ℕ → ℕ → Bool
  is_in = is_reference_in image c first words

  -- q is one of the references of an object that begins below the limit
  abbrev pub is_done : ℕ → ℕ → Bool
  is_done limit q = list_any (λ b. is_in b q && ltb b limit) image.live

  pub parts : (a q : ℕ) → is_in a q ≡ true → (first ≤ a) × (a < q) × (q < end_of image a) × (q ≤ a + coded_references c (get_or words (a - first) 0))
  unfolding is_reference_in
  parts a q h =
      let one = and_parts (leb first a) _ h in
      let two = and_parts (ltb a q) _ one.1 in
      let three = and_parts (is_word_of image a q) _ two.1 in
      let word = and_parts (leb a q) (ltb q (end_of image a)) three.0 in
      (leb-true first a one.0, ltb-true a q two.0, ltb-true q (end_of image a) word.1, leb-true q _ three.1)

  pub from_parts : (a q : ℕ) → first ≤ a → a < q → q < end_of image a → q ≤ a + coded_references c (get_or words (a - first) 0) → is_in a q ≡ true
  unfolding is_reference_in
  from_parts a q low behind inside counted =
      and_from (leb first a) _ (le-leb first a low)
      (and_from (ltb a q) _ (lt-ltb a q behind)
      (and_from (is_word_of image a q) _ (and_from (leb a q) (ltb q (end_of image a)) (le-leb a q (omega arith)) (lt-ltb q (end_of image a) inside)) (le-leb q _ counted)))

module _ (laws : PlanLaws) (image : HeapImage) (sound : HasLiveList image) (c : Coding) (first : ℕ) (words : List ℕ) where
  abbrev reads : ℕ → ℕ → Bool
  reads = is_reference_in image c first words

  abbrev done : ℕ → ℕ → Bool
  done = is_done image c first words

  abbrev parts_of : (a q : ℕ) → reads a q ≡ true → (first ≤ a) × (a < q) × (q < end_of image a) × (q ≤ a + coded_references c (get_or words (a - first) 0))
  parts_of = parts image c first words

  index_of : (a : ℕ) → is_begin image a ≡ true → (i : ℕ) × (i < length image.live) × (get_or image.live i 0 ≡ a)
  index_of a h =
      let at = Any-from_list_any (λ b. eqb b a) image.live h in
      (at.0, at.2, sym (get_or_default_zero image.live at.0 at.1 at.2) ∙ at.3 ∙ eqb-true at.1 a at.4)

  begins : (i : ℕ) → i < length image.live → is_begin image (get_or image.live i 0) ≡ true
  begins i l = list_any_at (λ b. eqb b (get_or image.live i 0)) image.live i 0 l (eq-eqb (get_or image.live i 0) (get_or image.live i 0) refl)

  -- an object begins in the heap
  pub begin_below : (a : ℕ) → is_begin image a ≡ true → a < heap_words image
  begin_below a is_a =
      let i = index_of a is_a in
      let header = subst (HasSoundHeader image) i.2 (sound.sound i.0 0 i.1) in
      let some = header.header in
      let inside = header.inside in
      omega (arith, some, inside)

  -- the words of an object end before the next object begins
  ends : (a b : ℕ) → is_begin image a ≡ true → is_begin image b ≡ true → b < a → end_of image b ≤ a
  ends a b is_a is_b below =
      let i = index_of a is_a in
      let k = index_of b is_b in
      let lower : get_or image.live k.0 0 < get_or image.live i.0 0 = omega (arith, i.2, k.2, below) in
      let apart = laws.ends_before image sound k.0 i.0 k.1 i.1 lower in
      subst (λ n. end_of image b ≤ n) i.2 (subst (λ n. end_of image n ≤ get_or image.live i.0 0) k.2 apart)

  pub done_start : (q : ℕ) → done first q ≡ false
  done_start q = false_from_ne_true (done first q) (λ h.
      let at = Any-from_list_any (λ b. reads b q && ltb b first) image.live h in
      let both = and_parts (reads at.1 q) (ltb at.1 first) at.4 in
      let low = (parts_of at.1 q both.0).0 in
      let high = ltb-true at.1 first both.1 in
      omega (arith, low, high))

  -- no reference of an earlier object lies where an object begins, or behind
  pub done_above : (from a q : ℕ) → is_begin image a ≡ true → from ≤ a → a ≤ q → done from q ≡ false
  done_above from a q is_a low high = false_from_ne_true (done from q) (λ h.
      let at = Any-from_list_any (λ b. reads b q && ltb b from) image.live h in
      let is : get_or image.live at.0 0 ≡ at.1 = sym (get_or_default_zero image.live at.0 at.1 at.2) ∙ at.3 in
      let both = and_parts (reads at.1 q) (ltb at.1 from) at.4 in
      let below = ltb-true at.1 from both.1 in
      let inside = (parts_of at.1 q both.0).2 in
      let apart = ends a at.1 is_a (subst (λ n. is_begin image n ≡ true) is (begins at.0 at.2)) (omega (arith, below, low)) in
      omega (arith, apart, inside, high))

  pub done_one : (a q : ℕ) → is_begin image a ≡ true → reads a q ≡ true → done (a + 1) q ≡ true
  done_one a q is_a h =
      let i = index_of a is_a in
      list_any_at (λ b. reads b q && ltb b (a + 1)) image.live i.0 0 i.1
      (subst (λ n. (reads n q && ltb n (a + 1)) ≡ true) (sym i.2) (and_from (reads a q) (ltb a (a + 1)) h (lt-ltb a (a + 1) (omega arith))))

  -- the next object, of which it is no reference, changes nothing
  pub done_next : (from a q : ℕ) → from ≤ a → ((b : ℕ) → from ≤ b → b < a → is_begin image b ≡ false) → reads a q ≡ false → done (a + 1) q ≡ done from q
  done_next from a q low none other = same_any (λ b. reads b q && ltb b (a + 1)) (λ b. reads b q && ltb b from) image.live (λ i l.
      let b : ℕ = get_or image.live i 0 in
      elim (cases_lt b from) [
        | inl below ↦ ap (λ t. reads b q && t) (lt-ltb b (a + 1) (omega (arith, below, low)) ∙ sym (lt-ltb b from below))
        | inr above ↦ elim (cases_lt b a) [
          | inl before ↦ absurd (true≢false (sym (begins i l) ∙ none b above before))
          | inr behind ↦ elim (cases_lt a b) [
            | inl past ↦ ap (λ t. reads b q && t) (le-ltb b (a + 1) (omega (arith, past)) ∙ sym (le-ltb b from above))
            | inr upto ↦
                let same : b ≡ a = omega (arith, behind, upto) in
                let not_read : reads b q ≡ false = subst (λ n. reads n q ≡ false) (sym same) other in
                ap (λ t. t && ltb b (a + 1)) not_read ∙ sym (ap (λ t. t && ltb b from) not_read)
          ]
        ]
      ])

  -- where no object begins from the limit on and before it, all of them are done
  pub done_all : (from q : ℕ) → ((b : ℕ) → from ≤ b → b < q → is_begin image b ≡ false) → done from q ≡ is_planned_reference image c first words q
  done_all from q none = same_any (λ b. reads b q && ltb b from) (λ b. reads b q) image.live (λ i l.
      let b : ℕ = get_or image.live i 0 in
      elim (cases_Bool (reads b q)) [
        | inr other ↦ ap (λ t. t && ltb b from) other ∙ sym other
        | inl is ↦ elim (cases_lt b from) [
          | inl below ↦ and_from (reads b q) (ltb b from) is (lt-ltb b from below) ∙ sym is
          | inr above ↦ absurd (true≢false (sym (begins i l) ∙ none b above (parts_of b q is).1))
        ]
      ])

-- where no header below an address was changed, the references are the same
pub same_header : (image : HeapImage) (c : Coding) (first : ℕ) (words others : List ℕ) (a q : ℕ) → get_or words (a - first) 0 ≡ get_or others (a - first) 0
    → is_reference_in image c first words a q ≡ is_reference_in image c first others a q
unfolding is_reference_in
same_header image c first words others a q e = ap (λ w. leb first a && (ltb a q && (is_word_of image a q && leb q (a + coded_references c w)))) e
