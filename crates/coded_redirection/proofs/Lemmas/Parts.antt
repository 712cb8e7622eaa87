-- Redirecting a part of a heap's words.
use Rattle.std.proofs.Common.{◌≡◌, ℕ, ◌+◌, ◌-◌, ◌≤◌, ◌<◌, inl, inr, Bool, true, cond, ◌&&◌, List, length, get_or, ◌∙◌, ap, arith, ltb, leb}
use Rattle.std.proofs.lemmas.Bool.{cases_lt, and_from, and_parts, lt-ltb, le-leb, ltb-true, leb-true}
use Rattle.std.specs.Prelude.{All}
use Rattle.object_heap.specs.Layout.{Coding, coded_references}
use Rattle.object_heap.specs.HeapImage.{HeapImage, end_of, is_word_of}
use Rattle.coded_redirection.specs.References.{redirected_reference, is_reference_in, is_planned_reference, redirected_at}
use Rattle.coded_redirection.proofs.Lemmas.Lists.{any-same, agree}

-- words of the heap from an address on, before which each object that begins there ends
module _ (image : HeapImage) (c : Coding) (first : ℕ) (part words : List ℕ) (shows : (i : ℕ) → i < length part → get_or part i 0 ≡ get_or words (first + i) 0)
    (apart : All (λ a. a < first → end_of image a ≤ first) image.live) where
  module _ (k d i : ℕ) (l : k < length image.live) (inside : i < length part) where
    abbrev a : ℕ
    a = get_or image.live k d

    abbrev q : ℕ
    q = first + i

    abbrev ending : ℕ → List ℕ → ℕ → Bool
    ending start ws p = leb p (a + coded_references c (get_or ws (a - start) 0))

    header : first ≤ a → a < q → coded_references c (get_or part (a - first) 0) ≡ coded_references c (get_or words (a - 0) 0)
    header low high =
        ap (coded_references c) (shows (a - first) (omega (arith, low, high, inside)) ∙ ap (λ p. get_or words p 0) (omega (arith, low)))

    to_whole : is_reference_in image c first part a q ≡ true → is_reference_in image c 0 words a (0 + q) ≡ true
    unfolding is_reference_in
    to_whole h =
        let one = and_parts (leb first a) (ltb a q && (is_word_of image a q && ending first part q)) h in
        let two = and_parts (ltb a q) (is_word_of image a q && ending first part q) one.1 in
        let three = and_parts (is_word_of image a q) (ending first part q) two.1 in
        let word = and_parts (leb a q) (ltb q (end_of image a)) three.0 in
        let low = leb-true first a one.0 in
        let high = ltb-true a q two.0 in
        let under = ltb-true q (end_of image a) word.1 in
        let last = leb-true q (a + coded_references c (get_or part (a - first) 0)) three.1 in
        let same = header low high in
        and_from (leb 0 a) (ltb a (0 + q) && (is_word_of image a (0 + q) && ending 0 words (0 + q))) (le-leb 0 a (omega arith))
        (and_from (ltb a (0 + q)) (is_word_of image a (0 + q) && ending 0 words (0 + q)) (lt-ltb a (0 + q) (omega (arith, high)))
        (and_from (is_word_of image a (0 + q)) (ending 0 words (0 + q))
        (and_from (leb a (0 + q)) (ltb (0 + q) (end_of image a)) (le-leb a (0 + q) (omega (arith, high))) (lt-ltb (0 + q) (end_of image a) (omega (arith, under))))
        (le-leb (0 + q) (a + coded_references c (get_or words (a - 0) 0)) (omega (arith, last, same)))))

    to_part : is_reference_in image c 0 words a (0 + q) ≡ true → is_reference_in image c first part a q ≡ true
    unfolding is_reference_in
    to_part h =
        let one = and_parts (leb 0 a) (ltb a (0 + q) && (is_word_of image a (0 + q) && ending 0 words (0 + q))) h in
        let two = and_parts (ltb a (0 + q)) (is_word_of image a (0 + q) && ending 0 words (0 + q)) one.1 in
        let three = and_parts (is_word_of image a (0 + q)) (ending 0 words (0 + q)) two.1 in
        let word = and_parts (leb a (0 + q)) (ltb (0 + q) (end_of image a)) three.0 in
        let high = ltb-true a (0 + q) two.0 in
        let under = ltb-true (0 + q) (end_of image a) word.1 in
        let last = leb-true (0 + q) (a + coded_references c (get_or words (a - 0) 0)) three.1 in
        let low : first ≤ a = elim (cases_lt a first) [
          | inl before ↦ let ends = apart k d l before in let no : ⊥ = omega (arith, ends, under) in absurd no
          | inr from ↦ from
        ] in
        let same = header low (omega (arith, high)) in
        and_from (leb first a) (ltb a q && (is_word_of image a q && ending first part q)) (le-leb first a low)
        (and_from (ltb a q) (is_word_of image a q && ending first part q) (lt-ltb a q (omega (arith, high)))
        (and_from (is_word_of image a q) (ending first part q)
        (and_from (leb a q) (ltb q (end_of image a)) (le-leb a q (omega (arith, high))) (lt-ltb q (end_of image a) (omega (arith, under))))
        (le-leb q (a + coded_references c (get_or part (a - first) 0)) (omega (arith, last, same)))))

  planned-in_part : (i : ℕ) → i < length part → is_planned_reference image c first part (first + i) ≡ is_planned_reference image c 0 words (0 + (first + i))
  planned-in_part i inside =
      any-same (λ a. is_reference_in image c first part a (first + i)) (λ a. is_reference_in image c 0 words a (0 + (first + i))) image.live (λ k d l.
      agree (is_reference_in image c first part (get_or image.live k d) (first + i)) (is_reference_in image c 0 words (get_or image.live k d) (0 + (first + i)))
      (to_whole k d i l inside) (to_part k d i l inside))

  pub redirected-in_part : (dead i : ℕ) → i < length part → redirected_at image c first part dead i ≡ redirected_at image c 0 words dead (first + i)
  redirected-in_part dead i inside =
      ap (λ b. cond b (redirected_reference image c dead (get_or part i 0)) (get_or part i 0)) (planned-in_part i inside)
      ∙ ap (λ w. cond (is_planned_reference image c 0 words (0 + (first + i))) (redirected_reference image c dead w) w) (shows i inside)
