-- Destinations by counts of live words.
use Rattle.std.proofs.Common.{◌≡◌, ℕ, zero, suc, ◌+◌, ◌-◌, ◌≤◌, ◌<◌, inl, inr, Bool, true, false, cond, ◌&&◌, List, [], ◌∷◌, refl, ◌∙◌, ap, arith, ltb, leb, zero-add}
use Rattle.std.proofs.lemmas.Bool.{cases_Bool, cond-true, cond-false, and_left, and_right, and_from, lt-leb, le-leb, lt-ltb, le-ltb}
use Rattle.std.proofs.lemmas.List.Sums.{sum_by-append}
use Rattle.std.proofs.lemmas.List.Folds.{fold-map}
use Rattle.std.specs.Prelude.{filter, count_by}
use Rattle.std.specs.List.{range_with_len}
use Rattle.summary.proofs.Lemmas.Spans.{count_by-cons}
use Rattle.object_heap.specs.HeapImage.{HeapImage, HasLiveList, heap_words, is_live_word, live_words, start_of}
use Rattle.summary.specs.NewAddresses.{prefix_end}
use Rattle.summary.specs.WordMoves.{word_moves, slid}
use Rattle.summary.specs.RegionData.{destination}
use Rattle.summary.proofs.Lemmas.Addresses.{range_with_len-add}
use Rattle.summary.proofs.Lemmas.Moves.{word_moves-live}

count_by-filter : (p t : ℕ → Bool) (xs : List ℕ) → count_by t (filter p xs) ≡ count_by (λ x. p x && t x) xs
count_by-filter p t [] = refl
count_by-filter p t (x ∷ xs) =
    let whole = count_by-cons (λ y. p y && t y) x xs in
    let more = count_by-filter p t xs in
    elim (cases_Bool (p x)) [
      | inl passes ↦
          let kept : count_by t (filter p (x ∷ xs)) ≡ count_by t (x ∷ filter p xs) = ap (count_by t) (cond-true (p x) (x ∷ filter p xs) (filter p xs) passes) in
          let one = count_by-cons t x (filter p xs) in
          let same : cond {A = ℕ} (p x && t x) 1 0 ≡ cond (t x) 1 0 = ap (λ b. cond {A = ℕ} (b && t x) 1 0) passes in
          omega arith
      | inr fails ↦
          let left : count_by t (filter p (x ∷ xs)) ≡ count_by t (filter p xs) = ap (count_by t) (cond-false (p x) (x ∷ filter p xs) (filter p xs) fails) in
          let same : cond {A = ℕ} (p x && t x) 1 0 ≡ 0 = ap (λ b. cond {A = ℕ} (b && t x) 1 0) fails in
          omega arith
    ]

pub count_by-none : (p : ℕ → Bool) (b n : ℕ) → ((q : ℕ) → b ≤ q → q < b + n → p q ≡ false) → count_by p (range_with_len b n) ≡ 0
count_by-none p b zero h = refl
count_by-none p b (suc n) h =
    let one = count_by-cons p b (range_with_len (b + 1) n) in
    let first : cond {A = ℕ} (p b) 1 0 ≡ 0 = cond-false (p b) 1 0 (h b (omega arith) (omega arith)) in
    let more = count_by-none p (b + 1) n (λ q l k. h q (omega arith) (omega arith)) in
    omega arith

pub count_by-same : (p r : ℕ → Bool) (b n : ℕ) → ((q : ℕ) → b ≤ q → q < b + n → p q ≡ r q) → count_by p (range_with_len b n) ≡ count_by r (range_with_len b n)
count_by-same p r b zero h = refl
count_by-same p r b (suc n) h =
    let one = count_by-cons p b (range_with_len (b + 1) n) in
    let two = count_by-cons r b (range_with_len (b + 1) n) in
    let first : cond {A = ℕ} (p b) 1 0 ≡ cond (r b) 1 0 = ap (λ c. cond {A = ℕ} c 1 0) (h b (omega arith) (omega arith)) in
    let more = count_by-same p r (b + 1) n (λ q l k. h q (omega arith) (omega arith)) in
    omega arith

pub count_by-parts : (p : ℕ → Bool) (b m n : ℕ) → count_by p (range_with_len b (m + n)) ≡ count_by p (range_with_len b m) + count_by p (range_with_len (b + m) n)
count_by-parts p b m n = ap (count_by p) (range_with_len-add b m n) ∙ sum_by-append (λ x. cond (p x) 1 0) (range_with_len b m) (range_with_len (b + m) n)

-- of a range, the part from low up to high
pub count_by-within : (p : ℕ → Bool) (low high n : ℕ) → low ≤ high → high ≤ n → count_by (λ q. p q && (leb low q && ltb q high)) (range_with_len 0 n) ≡ count_by p (range_with_len low (high - low))
count_by-within p low high n l h =
    let t : ℕ → Bool = λ q. p q && (leb low q && ltb q high) in
    let m : ℕ = high - low in
    let rest : ℕ = n - high in
    let e : n ≡ low + (m + rest) = omega arith in
    let at : 0 + low ≡ low = zero-add low in
    let end : low + m ≡ high = omega arith in
    let one = count_by-parts t 0 low (m + rest) in
    let two = count_by-parts t low m rest in
    let first = count_by-none t 0 low (λ q z k. and_right (p q) (leb low q && ltb q high) (and_left (leb low q) (ltb q high) (lt-leb low q (omega arith)))) in
    let middle = count_by-same t p low m (λ q z k. ap (λ b. p q && b) (and_from (leb low q) (ltb q high) (le-leb low q z) (lt-ltb q high (omega arith))) ∙ and_true (p q)) in
    let last = count_by-none t (low + m) rest (λ q z k. and_right (p q) (leb low q && ltb q high) (and_right (leb low q) (ltb q high) (le-ltb q high (omega arith)))) in
    let moved : count_by t (range_with_len (0 + low) (m + rest)) ≡ count_by t (range_with_len low (m + rest)) = ap (λ c. count_by t (range_with_len c (m + rest))) at in
    ap (λ c. count_by t (range_with_len 0 c)) e ∙ (let all : count_by t (range_with_len 0 (low + (m + rest))) ≡ count_by p (range_with_len low m) = omega arith in all)
  where
    and_true : (b : Bool) → (b && true) ≡ b
    and_true true = refl
    and_true false = refl

-- the destination of a region after the dense prefix is the prefix end plus the number of live words in between
pub destination-live_words : (image : HeapImage) → HasLiveList image → (r : ℕ) → prefix_end image ≤ start_of image r → start_of image r ≤ heap_words image
    → destination image r ≡ prefix_end image + live_words image (prefix_end image) (start_of image r)
destination-live_words image sound r l h =
    let B : ℕ = prefix_end image in
    let s : ℕ = start_of image r in
    let t : ℕ × ℕ → Bool = λ m. leb B m.0 && ltb m.0 s in
    cond-false (ltb s B) s (B + count_by t (word_moves image)) (le-ltb s B l)
    ∙ ap (λ ms. B + count_by t ms) (word_moves-live image sound)
    ∙ ap (λ c. B + c) (fold-map (λ a x. a + cond (t x) 1 0) (λ (q : ℕ). (q, slid image q)) 0 (filter (is_live_word image) (range_with_len 0 (heap_words image)))
    ∙ count_by-filter (is_live_word image) (λ q. leb B q && ltb q s) (range_with_len 0 (heap_words image))
    ∙ count_by-within (is_live_word image) B s (heap_words image) l h)
