-- What a filter keeps of a range is in order.
use Rattle.std.proofs.Common.{◌≡◌, ℕ, zero, suc, ◌+◌, ◌-◌, ◌≤◌, ◌<◌, Bool, true, false, cond, ◌&&◌, List, ◌∷◌, length, get_or, refl, ◌∙◌, ap, arith, leb, ltb, None}
use Rattle.std.proofs.lemmas.Bool.{lt-leb, or_from, and_right}
use Rattle.std.specs.Prelude.{filter}
use Rattle.std.specs.List.{range_with_len}
use Rattle.object_heap.specs.HeapImage.{HeapImage, heap_words, reachable}
use Rattle.object_heap.specs.ObjectFaults.{is_misplaced, misplaced_index}
use Rattle.heap_image.proofs.Lemmas.Finds.{find_none_in_range}
use Rattle.heap_image.proofs.Lemmas.Reaches.{reachable_is}

filter_from : (t : ℕ → Bool) (from n i : ℕ) → i < length (filter t (range_with_len from n)) → from ≤ get_or (filter t (range_with_len from n)) i 0
filter_from t from zero i l = let no : ⊥ = omega arith in absurd no
filter_from t from (suc n) i l = step (t from) (filter t (range_with_len (from + 1) n)) i (λ k m. filter_from t (from + 1) n k m) l
  where
    step : (b : Bool) (xs : List ℕ) (i : ℕ) → ((k : ℕ) → k < length xs → from + 1 ≤ get_or xs k 0) → i < length (cond b (from ∷ xs) xs) → from ≤ get_or (cond b (from ∷ xs) xs) i 0
    step true xs zero h l = omega arith
    step true xs (suc i) h l = let m = h i (omega arith) in omega arith
    step false xs i h l = let m = h i l in omega arith

pub filter_below : (t : ℕ → Bool) (from n i : ℕ) → i < length (filter t (range_with_len from n)) → get_or (filter t (range_with_len from n)) i 0 < from + n
filter_below t from zero i l = let no : ⊥ = omega arith in absurd no
filter_below t from (suc n) i l = step (t from) (filter t (range_with_len (from + 1) n)) i (λ k m. filter_below t (from + 1) n k m) l
  where
    step : (b : Bool) (xs : List ℕ) (i : ℕ) → ((k : ℕ) → k < length xs → get_or xs k 0 < from + 1 + n) → i < length (cond b (from ∷ xs) xs) → get_or (cond b (from ∷ xs) xs) i 0 < from + suc n
    step true xs zero h l = omega arith
    step true xs (suc i) h l = let m = h i (omega arith) in omega arith
    step false xs i h l = let m = h i l in omega arith

filter_ascends : (t : ℕ → Bool) (from n i : ℕ) → suc i < length (filter t (range_with_len from n)) → get_or (filter t (range_with_len from n)) i 0 < get_or (filter t (range_with_len from n)) (suc i) 0
filter_ascends t from zero i l = let no : ⊥ = omega arith in absurd no
filter_ascends t from (suc n) i l = step (t from) (filter t (range_with_len (from + 1) n)) i (λ k m. filter_from t (from + 1) n k m) (λ k m. filter_ascends t (from + 1) n k m) l
  where
    step : (b : Bool) (xs : List ℕ) (i : ℕ) → ((k : ℕ) → k < length xs → from + 1 ≤ get_or xs k 0) → ((k : ℕ) → suc k < length xs → get_or xs k 0 < get_or xs (suc k) 0)
        → suc i < length (cond b (from ∷ xs) xs) → get_or (cond b (from ∷ xs) xs) i 0 < get_or (cond b (from ∷ xs) xs) (suc i) 0
    step true xs zero h up l = let m = h 0 (omega arith) in omega arith
    step true xs (suc i) h up l = up i (omega arith)
    step false xs i h up l = up i l

in_order : (t : ℕ → Bool) (n : ℕ) → misplaced_index n (filter t (range_with_len 0 n)) ≡ None
in_order t n = find_none_in_range (is_misplaced n (filter t (range_with_len 0 n))) 0 (length (filter t (range_with_len 0 n))) (λ i l. placed i (omega arith))
  where
    behind : (i : ℕ) → i < length (filter t (range_with_len 0 n)) → (ltb 0 i && leb (get_or (filter t (range_with_len 0 n)) i 0) (get_or (filter t (range_with_len 0 n)) (i - 1) 0)) ≡ false
    behind zero l = refl
    behind (suc i) l =
        let xs : List ℕ = filter t (range_with_len 0 n) in
        let e : suc i - 1 ≡ i = omega arith in
        and_right (ltb 0 (suc i)) (leb (get_or xs (suc i) 0) (get_or xs (suc i - 1) 0)) (ap (λ k. leb (get_or xs (suc i) 0) (get_or xs k 0)) e ∙ lt-leb (get_or xs (suc i) 0) (get_or xs i 0) (filter_ascends t 0 n i l))

    placed : (i : ℕ) → i < length (filter t (range_with_len 0 n)) → is_misplaced n (filter t (range_with_len 0 n)) i ≡ false
    placed i l =
        let xs : List ℕ = filter t (range_with_len 0 n) in
        let below = filter_below t 0 n i l in
        or_from (leb n (get_or xs i 0)) (ltb 0 i && leb (get_or xs i 0) (get_or xs (i - 1) 0)) (lt-leb n (get_or xs i 0) (omega arith)) (behind i l)

-- so is what is reached
pub reachable-in_order : (image : HeapImage) (roots : List ℕ) → misplaced_index (heap_words image) (reachable image roots) ≡ None
reachable-in_order image roots = let is = reachable_is image roots in ap (misplaced_index (heap_words image)) is.1 ∙ in_order is.0 (heap_words image)
