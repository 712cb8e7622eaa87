-- Words that are cleared from an address up.
use Rattle.std.proofs.Common.{◌≡◌, ℕ, suc, ◌+◌, ◌-◌, ◌≤◌, ◌<◌, inl, inr, List, [], ◌∷◌, ◌++◌, length, get_or, take, drop, set, replicate, cond, ltb, refl, sym, ◌∙◌, ap, arith, length-append, length-take}
use Rattle.std.specs.Prelude.{map, All}
use Rattle.std.specs.List.{concat, range_with_len}
use Rattle.std.proofs.lemmas.Bool.{cases_lt, cond-true, cond-false, lt-ltb, le-ltb}
use Rattle.std.proofs.Math.Seq.{take-suc, map-set_same}
use Rattle.std.proofs.Math.ListN.{get_or-map}
use Rattle.std.proofs.lemmas.List.Folds.{concat-append}
use Rattle.std.proofs.lemmas.List.{drop-drop, drop-set-lt, take_more_set, append-nil, get_or-drop, length-map, ext_get_or, get_or-take, get_or-append_right, get_or_append_left, get_or-replicate, length-replicate}
use Rattle.std.proofs.lemmas.List.FromFn.{get_or-map-range_with_len, length-map-range_with_len}
use Rattle.fill.specs.MovedHeap.{cleared}

pub length-cleared : (top : ℕ) (xs : List ℕ) → length (cleared top xs) ≡ length xs
length-cleared top xs = let zeros : length (replicate {A = ℕ} (length xs - top) 0) ≡ length xs - top = length-replicate (length xs - top) 0 in omega (arith, length-append (take top xs) (replicate (length xs - top) 0), length-take top xs)

-- the k-th word
pub cleared_at : (top : ℕ) (xs : List ℕ) (k : ℕ) → k < length xs → get_or (cleared top xs) k 0 ≡ cond (ltb k top) (get_or xs k 0) 0
cleared_at top xs k l = elim (cases_lt k top) [
  | inl below ↦
      let long = length-take top xs in
      get_or_append_left (take top xs) (replicate (length xs - top) 0) 0 k (omega arith) ∙ get_or-take top xs k 0 below ∙ sym (cond-true (ltb k top) (get_or xs k 0) 0 (lt-ltb k top below))
  | inr above ↦
      let long = length-take top xs in
      get_or-append_right (take top xs) (replicate (length xs - top) 0) top k 0 (omega arith) above
      ∙ get_or-replicate (length xs - top) (k - top) 0 0 (omega arith) ∙ sym (cond-false (ltb k top) (get_or xs k 0) 0 (le-ltb k top above))
]

pub cleared-append : (top : ℕ) (xs ys : List ℕ) → cleared top (xs ++ ys) ≡ cleared top xs ++ cleared (top - length xs) ys
cleared-append top xs ys =
    let one = length-cleared top (xs ++ ys) in
    let two = length-cleared top xs in
    let three = length-cleared (top - length xs) ys in
    let four = length-append xs ys in
    let five = length-append (cleared top xs) (cleared (top - length xs) ys) in
    ext_get_or 0 (cleared top (xs ++ ys)) (cleared top xs ++ cleared (top - length xs) ys) (omega arith) (λ k l. each k (omega arith))
  where
    each : (k : ℕ) → k < length xs + length ys → get_or (cleared top (xs ++ ys)) k 0 ≡ get_or (cleared top xs ++ cleared (top - length xs) ys) k 0
    each k l =
        let four = length-append xs ys in
        let two = length-cleared top xs in
        cleared_at top (xs ++ ys) k (omega arith) ∙ elim (cases_lt k (length xs)) [
          | inl first ↦
              ap (λ w. cond (ltb k top) w 0) (get_or_append_left xs ys 0 k first)
              ∙ sym (get_or_append_left (cleared top xs) (cleared (top - length xs) ys) 0 k (omega arith) ∙ cleared_at top xs k first)
          | inr second ↦
              ap (λ w. cond (ltb k top) w 0) (get_or-append_right xs ys (length xs) k 0 refl second)
              ∙ same k second
              ∙ sym (get_or-append_right (cleared top xs) (cleared (top - length xs) ys) (length xs) k 0 two second ∙ cleared_at (top - length xs) ys (k - length xs) (omega arith))
        ]
      where
        same : (k : ℕ) → length xs ≤ k → cond (ltb k top) (get_or ys (k - length xs) 0) 0 ≡ cond (ltb (k - length xs) (top - length xs)) (get_or ys (k - length xs) 0) 0
        same k m = elim (cases_lt k top) [
          | inl below ↦ cond-true (ltb k top) (get_or ys (k - length xs) 0) 0 (lt-ltb k top below) ∙ sym (cond-true (ltb (k - length xs) (top - length xs)) (get_or ys (k - length xs) 0) 0 (lt-ltb (k - length xs) (top - length xs) (omega arith)))
          | inr above ↦ cond-false (ltb k top) (get_or ys (k - length xs) 0) 0 (le-ltb k top above) ∙ sym (cond-false (ltb (k - length xs) (top - length xs)) (get_or ys (k - length xs) 0) 0 (le-ltb (k - length xs) (top - length xs) (omega arith)))
        ]

pub cleared-map : (top n : ℕ) (f : ℕ → ℕ) → cleared top (map f (range_with_len 0 n)) ≡ map (λ p. cond (ltb p top) (f p) 0) (range_with_len 0 n)
cleared-map top n f =
    let one = length-cleared top (map f (range_with_len 0 n)) in
    let two = length-map-range_with_len f 0 n in
    let three = length-map-range_with_len (λ p. cond (ltb p top) (f p) 0) 0 n in
    ext_get_or 0 (cleared top (map f (range_with_len 0 n))) (map (λ p. cond (ltb p top) (f p) 0) (range_with_len 0 n)) (omega arith) (λ k l.
    cleared_at top (map f (range_with_len 0 n)) k (omega arith)
    ∙ ap (λ w. cond (ltb k top) w 0) (get_or-map-range_with_len f 0 n k k 0 (omega arith) (omega arith))
    ∙ sym (get_or-map-range_with_len (λ p. cond (ltb p top) (f p) 0) 0 n k k 0 (omega arith) (omega arith)))

pub concat_more : (xs : List (List ℕ)) (i : ℕ) → i < length xs → concat (take (i + 1) xs) ≡ concat (take i xs) ++ get_or xs i []
concat_more xs i l =
    let e : i + 1 ≡ suc i = omega arith in
    ap (λ n. concat (take n xs)) e ∙ ap concat (take-suc xs i [] l) ∙ concat-append (take i xs) (get_or xs i [] ∷ []) ∙ ap (λ ys. concat (take i xs) ++ ys) (append-nil (get_or xs i []))

pub concat_more_set : (xs : List (List ℕ)) (i : ℕ) (b : List ℕ) → i < length xs → concat (take (i + 1) (set xs i b)) ≡ concat (take i xs) ++ b
concat_more_set xs i b l = ap concat (take_more_set xs i b l) ∙ concat-append (take i xs) (b ∷ []) ∙ ap (λ ys. concat (take i xs) ++ ys) (append-nil b)

pub rest_same : (xs ys : List (List ℕ)) (i : ℕ) → drop i xs ≡ drop i ys → get_or xs i [] ≡ get_or ys i []
rest_same xs ys i h =
    let e : i + 0 ≡ i = omega arith in
    ap (λ n. get_or xs n []) (sym e) ∙ sym (get_or-drop i xs 0 []) ∙ ap (λ (zs : List (List ℕ)). get_or zs 0 []) h ∙ get_or-drop i ys 0 [] ∙ ap (λ n. get_or ys n []) e

pub drop_more_set : (xs ys : List (List ℕ)) (i : ℕ) (b : List ℕ) → drop i xs ≡ drop i ys → drop (i + 1) (set xs i b) ≡ drop (i + 1) ys
drop_more_set xs ys i b h =
    drop-set-lt (i + 1) xs i b (omega arith) ∙ step xs ∙ ap (drop 1) h ∙ sym (step ys)
  where
    step : (zs : List (List ℕ)) → drop (i + 1) zs ≡ drop 1 (drop i zs)
    step zs = sym (drop-drop 1 i zs)

pub lengths_set : (xs : List (List ℕ)) (i : ℕ) (b : List ℕ) → length b ≡ length (get_or xs i []) → map length (set xs i b) ≡ map length xs
lengths_set xs i b e = map-set_same length xs i b [] e

pub lengths_same : (r : ℕ) (xs ys : List (List ℕ)) → map length xs ≡ map length ys → All (λ b. length b ≡ r) ys → All (λ b. length b ≡ r) xs
lengths_same r xs ys e h = λ k d l.
    (let long : length xs ≡ length ys = sym (length-map xs length) ∙ ap length e ∙ length-map ys length in
    sym (get_or-map length xs k d) ∙ ap (λ (ns : List ℕ). get_or ns k (length d)) e ∙ get_or-map length ys k d ∙ h k d (omega arith))
