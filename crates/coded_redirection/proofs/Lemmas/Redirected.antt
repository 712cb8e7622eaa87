-- Redirecting references where they lie, and the compaction.
use Rattle.std.proofs.Common.{◌≡◌, ◌⊎◌, ℕ, ◌+◌, ◌-◌, ◌*◌, ◌/◌, ◌^◌, ◌≤◌, ◌<◌, inl, inr, Bool, true, false, cond, ◌&&◌, length, get_or, refl, sym, ◌∙◌, ap, ap₂, subst, arith, ltb, leb, eqb, add-zero}
use Rattle.std.proofs.lemmas.Bool.{cases_Bool, and_from, and_parts, or_cases, cond-true, cond-false, lt-ltb, le-leb, ltb-true, leb-true, eq-eqb, eqb-true, ne_eqb}
use Rattle.std.proofs.lemmas.List.{get_or_default}
use Rattle.std.proofs.lemmas.List.Folds.{Any-from_list_any}
use Rattle.std.proofs.lemmas.List.FromFn.{get_or-map-range_with_len}
use Rattle.std.specs.Prelude.{Some}
use Rattle.std.specs.List.{list_any}
use Rattle.object_heap.specs.Layout.{Coding, Coded, coded_references, coded_reference, coded_redirected, is_coded, references_in, reference_in, redirected_in}
use Rattle.object_heap.specs.HeapImage.{HeapImage, HasLiveList, word_at, size_at, references_at, reference_at, is_null_or_live, is_live_word}
use Rattle.summary.specs.LiveObjects.{object_count, object_at}
use Rattle.summary.specs.NewAddresses.{new_address, new_top}
use Rattle.summary.specs.WordMoves.{origin, slid}
use Rattle.summary.specs.Compaction.{redirected, redirected_word, is_reference_of, carried, written, compacted_word}
use Rattle.summary.specs.PlanLaws.{PlanLaws}
use Rattle.coded_redirection.specs.References.{redirected_reference, is_reference_in, is_planned_reference, redirected_at, redirected_words}
use Rattle.coded_redirection.specs.SamePlan.{HasSamePlan}
use Rattle.coded_redirection.proofs.Lemmas.Lists.{agree, any-same}
use Rattle.coded_redirection.proofs.Lemmas.Alike.{live_word-same, slid-same, origin-same}

-- q is one of the references of an object of this size at a, as the redirection and as the compaction say it
module _ (a q size references : ℕ) (fewer : references < size) where
  abbrev word : Bool
  word = leb a (0 + q) && ltb (0 + q) (a + size)

  abbrev ending : Bool
  ending = word && leb (0 + q) (a + references)

  abbrev in_words : Bool
  in_words = leb 0 a && (ltb a (0 + q) && ending)

  abbrev of_object : Bool
  of_object = ltb a q && leb q (a + references) && true

  to_object : in_words ≡ true → of_object ≡ true
  to_object h =
      let parts = and_parts (ltb a (0 + q)) ending (and_parts (leb 0 a) (ltb a (0 + q) && ending) h).1 in
      let low = ltb-true a (0 + q) parts.0 in
      let high = leb-true (0 + q) (a + references) (and_parts word (leb (0 + q) (a + references)) parts.1).1 in
      and_from (ltb a q && leb q (a + references)) true (and_from (ltb a q) (leb q (a + references)) (lt-ltb a q (omega arith)) (le-leb q (a + references) (omega arith))) refl

  to_words : of_object ≡ true → in_words ≡ true
  to_words h =
      let parts = and_parts (ltb a q) (leb q (a + references)) (and_parts (ltb a q && leb q (a + references)) true h).0 in
      let low = ltb-true a q parts.0 in
      let high = leb-true q (a + references) parts.1 in
      let inside = and_from (leb a (0 + q)) (ltb (0 + q) (a + size)) (le-leb a (0 + q) (omega arith)) (lt-ltb (0 + q) (a + size) (omega arith)) in
      and_from (leb 0 a) (ltb a (0 + q) && ending) (le-leb 0 a (omega arith))
      (and_from (ltb a (0 + q)) ending (lt-ltb a (0 + q) (omega arith)) (and_from word (leb (0 + q) (a + references)) inside (le-leb (0 + q) (a + references) (omega arith))))

  same_test : in_words ≡ of_object
  same_test = agree in_words of_object to_object to_words

-- a word that leads nowhere stays
stays_null : (c : Coding) (w to : ℕ) → coded_reference c w ≡ 0 → coded_redirected c w to ≡ w
stays_null c w to null = elim (cases_Bool (is_coded c w)) [
  | inl some ↦ let is = cond-true (is_coded c w) ((w - c.base) / 2 ^ c.unit + 1) 0 some in let no : ⊥ = omega (arith, is, null) in absurd no
  | inr none ↦ cond-false (is_coded c w) (c.base + 2 ^ c.unit * (to - 1)) w none
]

module _ (law : PlanLaws) (c : Coding) (image other : HeapImage) (coded : image.layout ≡ Coded c) (sound : HasLiveList image) (plan : HasSamePlan image other) where
  test-same : (k d q : ℕ) → k < length image.live → is_reference_in other c 0 image.words (get_or image.live k d) (0 + q) ≡ (is_reference_of image (get_or image.live k d) q && true)
  unfolding is_reference_in
  test-same k d q l =
      let a : ℕ = get_or image.live k d in
      let header : coded_references c (get_or image.words (a - 0) 0) ≡ references_at image a =
      ap (λ p. coded_references c (get_or image.words p 0)) (omega arith) ∙ sym (ap (λ m. references_in m (word_at image a)) coded) in
      ap₂ (λ s r. leb 0 a && (ltb a (0 + q) && (leb a (0 + q) && ltb (0 + q) (a + s) && leb (0 + q) (a + r)))) (plan.objects.sizes k d l) header
      ∙ same_test a q (size_at image a) (references_at image a) (sound.sound k d l).references

  planned-same : (q : ℕ) → is_planned_reference other c 0 image.words (0 + q) ≡ list_any (λ a. is_reference_of image a q && true) image.live
  planned-same q =
      ap (list_any (λ a. is_reference_in other c 0 image.words a (0 + q))) plan.objects.live
      ∙ any-same (λ a. is_reference_in other c 0 image.words a (0 + q)) (λ a. is_reference_of image a q && true) image.live (λ k d l. test-same k d q l)

  -- a reference is null, or leads to some live object
  leads_to_object : (w : ℕ) → is_null_or_live image w ≡ true → (w ≡ 0) ⊎ ((k : ℕ) × (k < object_count image) × (w ≡ object_at image k + 1))
  leads_to_object w h = elim (or_cases (eqb w 0) (list_any (λ a. eqb w (a + 1)) image.live) h) [
    | inl null ↦ inl (eqb-true w 0 null)
    | inr found ↦
        let at = Any-from_list_any (λ a. eqb w (a + 1)) image.live found in
        let l : at.0 < length image.live = at.2 in
        let is : object_at image at.0 ≡ at.1 = get_or_default image.live at.0 0 at.1 l ∙ at.3 in
        inr (at.0, l, eqb-true w (at.1 + 1) at.4 ∙ ap (λ a. a + 1) (sym is))
  ]

  -- where such a word goes, as the compaction and as the redirection say it
  reference-same : (dead w : ℕ) → is_null_or_live image (coded_reference c w) ≡ true → redirected_word image w ≡ redirected_reference other c dead w
  unfolding redirected_reference
  reference-same dead w lead =
      let r : ℕ = coded_reference c w in
      let alive : ℕ = coded_redirected c w (slid other (r - 1) + 1) in
      let to : redirected_word image w ≡ coded_redirected c w (redirected image r) = ap (λ l. redirected_in l w (redirected image (reference_in l w))) coded in
      elim (leads_to_object r lead) [
        | inl null ↦ to ∙ stays_null c w (redirected image r) null ∙ sym (cond-true (eqb r 0) w (cond (is_live_word other (r - 1)) alive dead) (eq-eqb r 0 null))
        | inr found ↦
            let a : ℕ = object_at image found.0 in
            let is : r ≡ a + 1 = found.2 in
            let at : r - 1 ≡ a = omega (arith, is) in
            let some : eqb r 0 ≡ false = ne_eqb r 0 (λ z. let no : ⊥ = omega (arith, is, z) in no) in
            let header : 0 < size_at image a = (sound.sound found.0 0 found.1).header in
            let live : is_live_word other (r - 1) ≡ true =
            ap (is_live_word other) at ∙ live_word-same image other plan.objects a ∙ law.is_live image sound found.0 a found.1 (omega arith) (omega (arith, header)) in
            let place : new_address image a ≡ slid image a =
            sym (add-zero (new_address image a)) ∙ law.new_address-slid image sound found.0 0 found.1 header ∙ ap (slid image) (add-zero a) in
            let goes : redirected image r ≡ slid other (r - 1) + 1 =
            cond-false (eqb r 0) 0 (new_address image (r - 1) + 1) some
            ∙ ap (λ n. n + 1) (ap (new_address image) at ∙ place ∙ sym (ap (slid other) at ∙ slid-same image other plan a)) in
            to
            ∙ ap (coded_redirected c w) goes
            ∙ sym (cond-false (eqb r 0) w (cond (is_live_word other (r - 1)) alive dead) some ∙ cond-true (is_live_word other (r - 1)) alive dead live)
      ]

  -- a reference of a live object
  redirected-same : (dead q : ℕ) → list_any (λ a. is_reference_of image a q && true) image.live ≡ true → redirected_word image (word_at image q) ≡ redirected_reference other c dead (word_at image q)
  redirected-same dead q some =
      let at = Any-from_list_any (λ a. is_reference_of image a q && true) image.live some in
      let x : ℕ = at.1 in
      let inside = and_parts (ltb x q) (leb q (x + references_at image x)) (and_parts (is_reference_of image x q) true at.4).0 in
      let low : x < q = ltb-true x q inside.0 in
      let high : q ≤ x + references_at image x = leb-true q (x + references_at image x) inside.1 in
      let f : ℕ = q - x - 1 in
      let is : x + 1 + f ≡ q = omega (arith, low) in
      let field : f < references_at image x = omega (arith, low, high) in
      let lead : is_null_or_live image (reference_at image x f) ≡ true =
      subst (λ b. (g : ℕ) → g < references_at image b → is_null_or_live image (reference_at image b g) ≡ true) at.3 (sound.references at.0 at.1 at.2) f field in
      reference-same dead (word_at image q) (subst (λ r. is_null_or_live image r ≡ true) (ap (λ p. reference_in image.layout (word_at image p)) is ∙ ap (λ m. reference_in m (word_at image q)) coded) lead)

  carried-same : (dead q : ℕ) → carried image (λ _. true) q ≡ redirected_at other c 0 image.words dead q
  carried-same dead q =
      let w : ℕ = word_at image q in
      let is : Bool = list_any (λ a. is_reference_of image a q && true) image.live in
      let planned : Bool = is_planned_reference other c 0 image.words (0 + q) in
      elim (cases_Bool is) [
        | inl some ↦ cond-true is (redirected_word image w) w some ∙ redirected-same dead q some ∙ sym (cond-true planned (redirected_reference other c dead w) w (planned-same q ∙ some))
        | inr none ↦ cond-false is (redirected_word image w) w none ∙ sym (cond-false planned (redirected_reference other c dead w) w (planned-same q ∙ none))
      ]

  pub compacted-redirected : (dead p q : ℕ) → origin other p ≡ Some q → compacted_word image p ≡ redirected_at other c 0 image.words dead q
  compacted-redirected dead p q goes =
      let from : origin image p ≡ Some q = sym (origin-same image other plan p) ∙ goes in
      let below = law.origin-below image sound p q from in
      cond-true (ltb p (new_top image)) (written image (λ _. true) (origin image p) p) 0 (lt-ltb p (new_top image) below)
      ∙ ap (λ o. written image (λ _. true) o p) from
      ∙ carried-same dead q

  pub compacted-in_words : (dead p q : ℕ) → origin other p ≡ Some q → compacted_word image p ≡ get_or (redirected_words other c 0 image.words dead) q 0
  compacted-in_words dead p q goes =
      let from : origin image p ≡ Some q = sym (origin-same image other plan p) ∙ goes in
      let low = law.live_below image sound q (law.origin-Some image sound p q from).0 in
      compacted-redirected dead p q goes
      ∙ sym (get_or-map-range_with_len (redirected_at other c 0 image.words dead) 0 (length image.words) q q 0 (omega (arith, low)) (omega arith))
