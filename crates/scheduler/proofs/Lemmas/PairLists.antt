-- All pairs (d, s) of numbers that pass a test, by d and then by s.
use Rattle.std.proofs.Common.{◌≡◌, ℕ, zero, suc, ◌+◌, ◌<◌, ◌≤◌, Bool, true, false, cond, List, [], ◌∷◌, ◌++◌, get_or, refl, sym, ap, ◌∙◌, inl, inr, subst, arith, zero-add}
use Rattle.std.specs.Prelude.{◌==◌, IsTrue, All, AllPairs, count_by, filter, map, flat_map}
use Rattle.std.specs.List.{list_any, range_with_len}
use Rattle.std.proofs.lemmas.Bool.{cases_Bool, cases_eq, or_left, or_right, and_from, eq-eqb, ne_eqb, cond-false, false_from_ne_true}
use Rattle.std.proofs.lemmas.List.Elements.{All-nil, All-cons, All-append}
use Rattle.std.proofs.lemmas.List.Kept.{AllPairs-cons}
use Rattle.std.proofs.lemmas.List.Folds.{list_any-append}
use Rattle.std.proofs.lemmas.List.Sums.{sum_by-append}
use Rattle.scheduler.proofs.Lemmas.Counting.{count_by-cons}
use Rattle.scheduler.proofs.Lemmas.Pairs.{placed, before_from}
use Rattle.scheduler.specs.MoveTable.{is_pair, has_source, is_before}

pub AllPairs-append : {X : Type 0} (R : X → X → Type 0) (xs ys : List X) → AllPairs R xs → AllPairs R ys → All (λ x. All (R x) ys) xs → AllPairs R (xs ++ ys)
AllPairs-append R [] ys front back across = back
AllPairs-append R (x ∷ xs) ys front back across =
    AllPairs-cons R x (xs ++ ys) (All-append (R x) xs ys (λ k d lt. front 0 (suc k) d (omega arith) (omega arith)) (across 0 x (omega arith)))
    (AllPairs-append R xs ys (λ i j d lt inside. front (suc i) (suc j) d (omega arith) (omega arith)) back (λ k d lt. across (suc k) d (omega arith)))

-- the pairs of d with the numbers of a range that pass the test
abbrev pub row : (ℕ → Bool) → ℕ → ℕ → ℕ → List (ℕ × ℕ)
row test d b m = map (λ s. (d, s)) (filter test (range_with_len b m))

-- what holds for each such pair
pub All-row : (P : ℕ × ℕ → Type 0) (test : ℕ → Bool) (d b m : ℕ) → ((s : ℕ) → b ≤ s → s < b + m → test s ≡ true → P (d, s)) → All P (row test d b m)
All-row P test d b zero h = All-nil P
All-row P test d b (suc m) h =
    let rest : All P (row test d (b + 1) m) = All-row P test d (b + 1) m (λ s l k e. h s (omega arith) (omega arith) e) in
    elim (cases_Bool (test b)) [
      | inl passes ↦ rw passes (All-cons P (d, b) (row test d (b + 1) m) (h b (omega arith) (omega arith) passes) rest)
      | inr fails ↦ rw fails rest
    ]

pub row_ascends : (test : ℕ → Bool) (d b m : ℕ) → AllPairs (λ p q. IsTrue (is_before p q)) (row test d b m)
row_ascends test d b zero = λ i j e lt inside. absurd (omega arith)
row_ascends test d b (suc m) =
    let rest = row_ascends test d (b + 1) m in
    elim (cases_Bool (test b)) [
      | inl passes ↦ rw passes (AllPairs-cons (λ p q. IsTrue (is_before p q)) (d, b) (row test d (b + 1) m) (All-row (λ q. IsTrue (is_before (d, b) q)) test d (b + 1) m (λ s l k e. before_from (d, b) (d, s) (inr (refl, omega arith)))) rest)
      | inr fails ↦ rw fails rest
    ]

pub row_has : (test : ℕ → Bool) (d b m s : ℕ) → b ≤ s → s < b + m → test s ≡ true → list_any (is_pair d s) (row test d b m) ≡ true
row_has test d b zero s l k e = absurd (omega arith)
row_has test d b (suc m) s l k e =
    let later : b + 1 ≤ s → list_any (is_pair d s) (row test d (b + 1) m) ≡ true = λ (l' : b + 1 ≤ s). row_has test d (b + 1) m s l' (omega arith) e in
    elim (cases_Bool (test b)) [
      | inl passes ↦ rw passes (elim (cases_eq s b) [
        | inl same ↦ or_left (is_pair d s (d, b)) (list_any (is_pair d s) (row test d (b + 1) m)) (and_from (d == d) (s == b) (eq-eqb d d refl) (eq-eqb s b same))
        | inr other ↦ or_right (is_pair d s (d, b)) (list_any (is_pair d s) (row test d (b + 1) m)) (later (omega arith))
      ])
      | inr fails ↦ rw fails (elim (cases_eq s b) [
        | inl same ↦ absurd (let no : true ≡ false = sym e ∙ (ap test same ∙ fails) in cc)
        | inr other ↦ later (omega arith)
      ])
    ]

-- a number below the range is no pair's source
row_none : (test : ℕ → Bool) (d b m s : ℕ) → s < b → count_by (has_source s) (row test d b m) ≡ 0
row_none test d b zero s l = refl
row_none test d b (suc m) s l =
    let rest = row_none test d (b + 1) m s (omega arith) in
    elim (cases_Bool (test b)) [
      | inl passes ↦ rw passes (count_by-cons (has_source s) (d, b) (row test d (b + 1) m) ∙ (rw (ne_eqb s b (λ e. let no : ⊥ = omega arith in no), rest) refl))
      | inr fails ↦ rw fails rest
    ]

-- how many pairs of a row have this source
pub row_counts : (test : ℕ → Bool) (d b m s : ℕ) → (test s ≡ true → s < b + m) → b ≤ s → count_by (has_source s) (row test d b m) ≡ cond {A = ℕ} (test s) 1 0
row_counts test d b zero s short l = sym (cond-false (test s) 1 0 (false_from_ne_true (test s) (λ e. let k : s < b + 0 = short e in let no : ⊥ = omega arith in no)))
row_counts test d b (suc m) s short l = elim (cases_eq s b) [
  | inl same ↦
      let none : count_by (has_source s) (row test d (b + 1) m) ≡ 0 = row_none test d (b + 1) m s (omega arith) in
      elim (cases_Bool (test b)) [
        | inl passes ↦ rw (passes, ap test same ∙ passes) (count_by-cons (has_source s) (d, b) (row test d (b + 1) m) ∙ (rw (eq-eqb s b same, none) refl))
        | inr fails ↦ rw (fails, ap test same ∙ fails) none
      ]
  | inr other ↦
      let rest : count_by (has_source s) (row test d (b + 1) m) ≡ cond {A = ℕ} (test s) 1 0 = row_counts test d (b + 1) m s (λ e. let k : s < b + suc m = short e in omega arith) (omega arith) in
      elim (cases_Bool (test b)) [
        | inl passes ↦ rw passes (count_by-cons (has_source s) (d, b) (row test d (b + 1) m) ∙ (rw (ne_eqb s b other) (zero-add (count_by (has_source s) (row test d (b + 1) m)) ∙ rest)))
        | inr fails ↦ rw fails rest
      ]
]

module _ (test : ℕ → ℕ → Bool) (n : ℕ) where
  -- the rows of a range of numbers
  abbrev pub rows : ℕ → ℕ → List (ℕ × ℕ)
  rows b m = flat_map (λ d. row (test d) d 0 n) (range_with_len b m)

  pub All-rows : (P : ℕ × ℕ → Type 0) (b m : ℕ) → ((d s : ℕ) → b ≤ d → d < b + m → s < n → test d s ≡ true → P (d, s)) → All P (rows b m)
  All-rows P b zero h = All-nil P
  All-rows P b (suc m) h =
      All-append P (row (test b) b 0 n) (rows (b + 1) m)
      (All-row P (test b) b 0 n (λ s l k e. h b s (omega arith) (omega arith) (omega arith) e))
      (All-rows P (b + 1) m (λ d s l k inside e. h d s (omega arith) (omega arith) inside e))

  pub rows_ascend : (b m : ℕ) → AllPairs (λ p q. IsTrue (is_before p q)) (rows b m)
  rows_ascend b zero = λ i j e lt inside. absurd (omega arith)
  rows_ascend b (suc m) =
      AllPairs-append (λ p q. IsTrue (is_before p q)) (row (test b) b 0 n) (rows (b + 1) m) (row_ascends (test b) b 0 n) (rows_ascend (b + 1) m)
      (All-row (λ p. All (λ q. IsTrue (is_before p q)) (rows (b + 1) m)) (test b) b 0 n (λ s l k e. All-rows (λ q. IsTrue (is_before (b, s) q)) (b + 1) m (λ d t l' k' i e'. before_from (b, s) (d, t) (inl (omega arith)))))

  pub rows_have : (b m d s : ℕ) → b ≤ d → d < b + m → s < n → test d s ≡ true → list_any (is_pair d s) (rows b m) ≡ true
  rows_have b zero d s l k inside e = absurd (omega arith)
  rows_have b (suc m) d s l k inside e =
      list_any-append (is_pair d s) (row (test b) b 0 n) (rows (b + 1) m)
      ∙ elim (cases_eq d b) [
        | inl same ↦ or_left (list_any (is_pair d s) (row (test b) b 0 n)) (list_any (is_pair d s) (rows (b + 1) m)) (subst (λ (c : ℕ). list_any (is_pair d s) (row (test c) c 0 n) ≡ true) same (row_has (test d) d 0 n s (omega arith) (omega arith) e))
        | inr other ↦ or_right (list_any (is_pair d s) (row (test b) b 0 n)) (list_any (is_pair d s) (rows (b + 1) m)) (rows_have (b + 1) m d s (omega arith) (omega arith) inside e)
      ]

  -- and no others
  pub rows_only : (b m d s : ℕ) → list_any (is_pair d s) (rows b m) ≡ true → test d s ≡ true
  rows_only b m d s e =
      let p = placed (rows b m) d s e in
      let all : All (λ q. test q.0 q.1 ≡ true) (rows b m) = All-rows (λ q. test q.0 q.1 ≡ true) b m (λ d' s' l k i h. h) in
      let at : test (get_or (rows b m) p.at (0, 0)).0 (get_or (rows b m) p.at (0, 0)).1 ≡ true = all p.at (0, 0) p.inside in
      sym (ap (λ c. test c (get_or (rows b m) p.at (0, 0)).1) (p.first (0, 0)) ∙ ap (test d) (p.second (0, 0))) ∙ at

  -- a number is the second of as many pairs as it has first ones
  pub rows_count : (b m s : ℕ) → ((d : ℕ) → test d s ≡ true → s < n) → count_by (has_source s) (rows b m) ≡ count_by (λ d. test d s) (range_with_len b m)
  rows_count b zero s short = refl
  rows_count b (suc m) s short =
      sum_by-append (λ p. cond (has_source s p) 1 0) (row (test b) b 0 n) (rows (b + 1) m)
      ∙ ap (λ c. c + count_by (has_source s) (rows (b + 1) m)) (row_counts (test b) b 0 n s (λ e. let k : s < n = short b e in omega arith) (omega arith))
      ∙ ap (λ c. cond {A = ℕ} (test b s) 1 0 + c) (rows_count (b + 1) m s short)
      ∙ sym (count_by-cons (λ d. test d s) b (range_with_len (b + 1) m))
