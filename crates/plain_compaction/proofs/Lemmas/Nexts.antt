-- The next free address stays within the heap.
use Rattle.std.proofs.Common.{ℕ, zero, suc, ◌+◌, ◌≤◌, ◌<◌, inl, inr, max, Bool, List, [], ◌∷◌, length, get_or, take, sym, subst, arith, ltb, add-one}
use Rattle.std.proofs.lemmas.Bool.{cases_lt, cond-true, cond-false, cond_both, le-ltb, lt-ltb}
use Rattle.std.specs.Prelude.{filter, fold}
use Rattle.std.specs.List.{AllAdjacentBelow}
use Rattle.object_heap.specs.HeapImage.{HeapImage, HasLiveList, heap_words, end_of, size_at}
use Rattle.summary.specs.NewAddresses.{next_after, prefix_end}
use Rattle.summary.specs.PlanLaws.{PlanLaws}

-- each span begins where the one before it has ended, or above
abbrev Apart : (ℕ → ℕ) → ℕ → List ℕ → Type 0
Apart size low [] = Unit {0}
Apart size low (a ∷ others) = (low ≤ a) × Apart size (a + size a) others

Apart-from_adjacent : (size : ℕ → ℕ) (low : ℕ) (places : List ℕ) → (0 < length places → low ≤ get_or places 0 0) → AllAdjacentBelow (λ a b. a + size a ≤ b) places (length places) → Apart size low places
Apart-from_adjacent size low [] first h = tt
Apart-from_adjacent size low (a ∷ others) first h =
    (first (omega arith), Apart-from_adjacent size (a + size a) others (next others h) (λ k d l. tail k d l))
  where
    next : (others : List ℕ) → AllAdjacentBelow (λ a b. a + size a ≤ b) (a ∷ others) (length (a ∷ others)) → 0 < length others → a + size a ≤ get_or others 0 0
    next [] h l = omega arith
    next (b ∷ more) h l = h 0 0 (omega arith)

    tail : (k d : ℕ) → k + 1 < length others → get_or others k d + size (get_or others k d) ≤ get_or others (k + 1) d
    tail k d l = rw (add-one k) (subst (λ n. get_or others k d + size (get_or others k d) ≤ get_or (a ∷ others) n d) (add-one (suc k)) (h (suc k) d (omega arith)))

module _ (image : HeapImage) where
  abbrev P : ℕ
  P = prefix_end image

  -- after an object that begins above
  after : (low next a : ℕ) → next ≤ max P low → low ≤ a → next_after image next a ≤ max P (end_of image a)
  after low next a h l = elim (cases_lt a P) [
    | inl below ↦ subst (λ n. n ≤ max P (end_of image a)) (sym (cond-true (ltb a P) (max next (end_of image a)) (next + size_at image a) (lt-ltb a P below))) (omega arith)
    | inr above ↦ subst (λ n. n ≤ max P (end_of image a)) (sym (cond-false (ltb a P) (max next (end_of image a)) (next + size_at image a) (le-ltb a P above))) (omega arith)
  ]

  -- after some of the first objects
  after_all : (test : ℕ → Bool) (n low next top : ℕ) (xs : List ℕ) → Apart (size_at image) low xs → next ≤ max P low → low ≤ top → ((k : ℕ) → k < length xs → end_of image (get_or xs k 0) ≤ top)
      → fold (next_after image) next (filter test (take n xs)) ≤ max P top
  after_all test zero low next top xs apart h l ends = omega arith
  after_all test (suc n) low next top [] apart h l ends = omega arith
  after_all test (suc n) low next top (a ∷ xs) apart h l ends =
      let above : low ≤ a = apart.0 in
      let end : end_of image a ≤ top = ends 0 (omega arith) in
      let rest = λ (k : ℕ) (m : k < length xs). ends (suc k) (omega arith) in
      cond_both (test a) (a ∷ filter test (take n xs)) (filter test (take n xs)) (λ ys. fold (next_after image) next ys ≤ max P top)
      (λ _. after_all test n (end_of image a) (next_after image next a) top xs apart.1 (after low next a h above) end rest)
      (λ _. after_all test n (end_of image a) next top xs apart.1 (omega arith) end rest)

  pub next-inside : PlanLaws → HasLiveList image → (test : ℕ → Bool) (n : ℕ) → fold (next_after image) (prefix_end image) (filter test (take n image.live)) ≤ heap_words image
  next-inside law sound test n =
      let low = law.prefix_end-le image sound in
      let apart = Apart-from_adjacent (size_at image) 0 image.live (λ _. omega arith) sound.apart in
      let all = after_all test n 0 P (heap_words image) image.live apart (omega arith) (omega arith) (λ k l. (sound.sound k 0 l).inside) in
      omega arith
