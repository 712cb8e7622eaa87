-- Lists of addresses that a filter keeps of a range.
use Rattle.std.proofs.Common.{◌≡◌, ◌⊎◌, ℕ, zero, suc, ◌+◌, ◌≤◌, ◌<◌, inl, inr, Bool, true, false, cond, ◌||◌, List, ◌∷◌, length, get_or, refl, sym, ◌∙◌, ap, subst, arith, eqb}
use Rattle.std.proofs.lemmas.Bool.{false≢true, cases_Bool, cases_eq, cond-true, cond-false, cond_both, eq-eqb, eqb-true, or_left, or_right, or_cases}
use Rattle.std.proofs.lemmas.List.Folds.{Any-from_list_any, list_any_at}
use Rattle.std.proofs.lemmas.List.FromFn.{length-range_with_len}
use Rattle.std.proofs.lemmas.List.Sums.{length-filter, count_by-le-length}
use Rattle.std.specs.Prelude.{filter}
use Rattle.std.specs.List.{list_any, range_with_len}
use Rattle.object_heap.specs.Reachable.{is_listed}

pub listed_filter-back : (t : ℕ → Bool) (from n b : ℕ) → is_listed (filter t (range_with_len from n)) b ≡ true → (from ≤ b) × (b < from + n) × (t b ≡ true)
listed_filter-back t from zero b h = absurd (false≢true h)
listed_filter-back t from (suc n) b h =
    let rest : List ℕ = filter t (range_with_len (from + 1) n) in
    elim (cases_Bool (t from)) [
      | inl in' ↦
          let h' : (eqb b from || is_listed rest b) ≡ true = subst (λ xs. is_listed xs b ≡ true) (cond-true (t from) (from ∷ rest) rest in') h in
          elim (or_cases (eqb b from) (is_listed rest b) h') [
            | inl same ↦ let e : b ≡ from = eqb-true b from same in (omega arith, omega arith, subst (λ c. t c ≡ true) (sym e) in')
            | inr later ↦ let more = listed_filter-back t (from + 1) n b later in (omega arith, omega arith, more.2)
          ]
      | inr out ↦
          let h' : is_listed rest b ≡ true = subst (λ xs. is_listed xs b ≡ true) (cond-false (t from) (from ∷ rest) rest out) h in
          let more = listed_filter-back t (from + 1) n b h' in
          (omega arith, omega arith, more.2)
    ]

pub listed_filter : (t : ℕ → Bool) (from n b : ℕ) → from ≤ b → b < from + n → t b ≡ true → is_listed (filter t (range_with_len from n)) b ≡ true
listed_filter t from zero b l h passes = let no : ⊥ = omega arith in absurd no
listed_filter t from (suc n) b l h passes =
    let rest : List ℕ = filter t (range_with_len (from + 1) n) in
    elim (cases_eq b from) [
      | inl same ↦
          let yes : t from ≡ true = subst (λ c. t c ≡ true) same passes in
          subst (λ xs. is_listed xs b ≡ true) (sym (cond-true (t from) (from ∷ rest) rest yes)) (or_left (eqb b from) (is_listed rest b) (eq-eqb b from same))
      | inr other ↦
          let more : is_listed rest b ≡ true = listed_filter t (from + 1) n b (omega arith) (omega arith) passes in
          cond_both (t from) (from ∷ rest) rest (λ xs. is_listed xs b ≡ true) (λ _. or_right (eqb b from) (is_listed rest b) more) (λ _. more)
    ]

-- tests that agree on a range keep the same of it
pub filter_same : (p q : ℕ → Bool) (from n : ℕ) → ((a : ℕ) → from ≤ a → a < from + n → p a ≡ q a) → filter p (range_with_len from n) ≡ filter q (range_with_len from n)
filter_same p q from zero h = refl
filter_same p q from (suc n) h =
    let r : List ℕ = range_with_len (from + 1) n in
    let rest : filter p r ≡ filter q r = filter_same p q (from + 1) n (λ a l m. h a (omega arith) (omega arith)) in
    ap (λ b. cond b (from ∷ filter p r) (filter p r)) (h from (omega arith) (omega arith)) ∙ ap (λ xs. cond (q from) (from ∷ xs) xs) rest

-- a test that lets more pass keeps the same, or more
pub filter_grows : (p q : ℕ → Bool) (from n : ℕ) → ((a : ℕ) → from ≤ a → a < from + n → p a ≡ true → q a ≡ true)
    → (filter p (range_with_len from n) ≡ filter q (range_with_len from n)) ⊎ (length (filter p (range_with_len from n)) < length (filter q (range_with_len from n)))
filter_grows p q from zero h = inl refl
filter_grows p q from (suc n) h =
    let r : List ℕ = range_with_len (from + 1) n in
    let both = filter_grows p q (from + 1) n (λ a l m. h a (omega arith) (omega arith)) in
    by_first (p from) (q from) (filter p r) (filter q r) (h from (omega arith) (omega arith)) both
  where
    by_first : (b c : Bool) (xs ys : List ℕ) → (b ≡ true → c ≡ true) → (xs ≡ ys) ⊎ (length xs < length ys)
        → (cond b (from ∷ xs) xs ≡ cond c (from ∷ ys) ys) ⊎ (length (cond b (from ∷ xs) xs) < length (cond c (from ∷ ys) ys))
    by_first true true xs ys h (inl same) = inl (ap (λ zs. from ∷ zs) same)
    by_first true true xs ys h (inr less) = inr (omega arith)
    by_first true false xs ys h both = absurd (false≢true (h refl))
    by_first false true xs ys h (inl same) = inr (omega (arith, ap length same))
    by_first false true xs ys h (inr less) = inr (omega arith)
    by_first false false xs ys h (inl same) = inl same
    by_first false false xs ys h (inr less) = inr less

pub filter_short : (p : ℕ → Bool) (n : ℕ) → length (filter p (range_with_len 0 n)) ≤ n
filter_short p n = omega (arith, length-filter p (range_with_len 0 n), count_by-le-length p (range_with_len 0 n), length-range_with_len 0 n)

-- a listed address that passes shows that one does
pub any_listed : (p : ℕ → Bool) (xs : List ℕ) (a : ℕ) → is_listed xs a ≡ true → p a ≡ true → list_any p xs ≡ true
any_listed p xs a listed passes =
    let at = Any-from_list_any (λ b. eqb a b) xs listed in
    let e : a ≡ get_or xs at.0 at.1 = eqb-true a at.1 at.4 ∙ sym at.3 in
    list_any_at p xs at.0 at.1 at.2 (subst (λ c. p c ≡ true) e passes)

-- one that passes is listed
pub listed_one : (p : ℕ → Bool) (xs : List ℕ) → list_any p xs ≡ true → (a : ℕ) × (is_listed xs a ≡ true) × (p a ≡ true)
listed_one p xs h =
    let at = Any-from_list_any p xs h in
    (at.1, list_any_at (λ b. eqb at.1 b) xs at.0 at.1 at.2 (eq-eqb at.1 (get_or xs at.0 at.1) (sym at.3)), at.4)
