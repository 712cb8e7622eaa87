-- Addresses that a set lists.
use Rattle.std.proofs.Common.{◌≡◌, ℕ, zero, suc, ◌+◌, ◌-◌, ◌≤◌, ◌<◌, inl, inr, Bool, true, false, cond, ◌||◌, List, [], ◌∷◌, ◌++◌, length, get_or, refl, sym, ◌∙◌, ap, subst, arith, eqb, add-one}
use Rattle.std.proofs.lemmas.Bool.{false≢true, cases_Bool, cases_eq, cases_lt, cond-true, cond-false, cond_both, eq-eqb, eqb-true, or_left, or_right, or_cases}
use Rattle.std.proofs.lemmas.List.{append-nil}
use Rattle.std.proofs.lemmas.List.Folds.{Any-from_list_any, list_any_at}
use Rattle.std.proofs.lemmas.List.Elements.{All-from_get_or, All-contains, filter-append}
use Rattle.std.specs.Prelude.{All, Contains, filter}
use Rattle.std.specs.List.{range_with_len}
use Rattle.object_heap.specs.Bits.{has}
use Rattle.object_heap.specs.Reachable.{is_listed}
use Rattle.coded_marking.specs.Marking.{set_below}

pub both_ways : (x y : Bool) → (x ≡ true → y ≡ true) → (y ≡ true → x ≡ true) → x ≡ y
both_ways true y h k = sym (h refl)
both_ways false true h k = k refl
both_ways false false h k = refl

listed_filter-back : (t : ℕ → Bool) (from n b : ℕ) → is_listed (filter t (range_with_len from n)) b ≡ true → (from ≤ b) × (b < from + n) × (t b ≡ true)
listed_filter-back t from zero b h = absurd (false≢true h)
listed_filter-back t from (suc n) b h =
    let rest : List ℕ = filter t (range_with_len (from + 1) n) in
    elim (cases_Bool (t from)) [
      | inl in' ↦
          let h' : (eqb b from || is_listed rest b) ≡ true = subst (λ xs. is_listed xs b ≡ true) (cond-true (t from) (from ∷ rest) rest in') h in
          elim (or_cases (eqb b from) (is_listed rest b) h') [
            | inl same ↦ let e : b ≡ from = eqb-true b from same in (omega arith, omega arith, subst (λ c. t c ≡ true) (sym e) in')
            | inr later ↦ let more = listed_filter-back t (from + 1) n b later in (omega arith, omega arith, more.2)
          ]
      | inr out ↦
          let h' : is_listed rest b ≡ true = subst (λ xs. is_listed xs b ≡ true) (cond-false (t from) (from ∷ rest) rest out) h in
          let more = listed_filter-back t (from + 1) n b h' in
          (omega arith, omega arith, more.2)
    ]

listed_filter : (t : ℕ → Bool) (from n b : ℕ) → from ≤ b → b < from + n → t b ≡ true → is_listed (filter t (range_with_len from n)) b ≡ true
listed_filter t from zero b l h passes = let no : ⊥ = omega arith in absurd no
listed_filter t from (suc n) b l h passes =
    let rest : List ℕ = filter t (range_with_len (from + 1) n) in
    elim (cases_eq b from) [
      | inl same ↦
          let yes : t from ≡ true = subst (λ c. t c ≡ true) same passes in
          subst (λ xs. is_listed xs b ≡ true) (sym (cond-true (t from) (from ∷ rest) rest yes)) (or_left (eqb b from) (is_listed rest b) (eq-eqb b from same))
      | inr other ↦
          let more : is_listed rest b ≡ true = listed_filter t (from + 1) n b (omega arith) (omega arith) passes in
          cond_both (t from) (from ∷ rest) rest (λ xs. is_listed xs b ≡ true) (λ _. or_right (eqb b from) (is_listed rest b) more) (λ _. more)
    ]

-- tests that agree on a range keep the same of it
pub filter_same : (p q : ℕ → Bool) (from n : ℕ) → ((a : ℕ) → from ≤ a → a < from + n → p a ≡ q a) → filter p (range_with_len from n) ≡ filter q (range_with_len from n)
filter_same p q from zero h = refl
filter_same p q from (suc n) h =
    let r : List ℕ = range_with_len (from + 1) n in
    let rest : filter p r ≡ filter q r = filter_same p q (from + 1) n (λ a l m. h a (omega arith) (omega arith)) in
    ap (λ b. cond b (from ∷ filter p r) (filter p r)) (h from (omega arith) (omega arith)) ∙ ap (λ xs. cond (q from) (from ∷ xs) xs) rest

-- a test that nothing passes keeps nothing
pub filter_none : (p : ℕ → Bool) (from n : ℕ) → ((a : ℕ) → from ≤ a → a < from + n → p a ≡ false) → filter p (range_with_len from n) ≡ []
filter_none p from zero h = refl
filter_none p from (suc n) h =
    let r : List ℕ = range_with_len (from + 1) n in
    cond-false (p from) (from ∷ filter p r) (filter p r) (h from (omega arith) (omega arith)) ∙ filter_none p (from + 1) n (λ a l m. h a (omega arith) (omega arith))

-- an address is listed if it is in the set
pub set_listed : (words : ℕ) (bits : List ℕ) → ((a : ℕ) → words ≤ a → has bits a ≡ false) → (a : ℕ) → is_listed (set_below words bits) a ≡ has bits a
set_listed words bits outside a = both_ways (is_listed (set_below words bits) a) (has bits a)
    (λ h. (listed_filter-back (has bits) 0 words a h).2)
    (λ h. elim (cases_lt a words) [
      | inl low ↦ listed_filter (has bits) 0 words a (omega arith) (omega arith) h
      | inr high ↦ absurd (false≢true (sym (outside a high) ∙ h))
    ])

pub listed_contains : (xs : List ℕ) (a : ℕ) → is_listed xs a ≡ true → Contains xs a
listed_contains xs a h =
    let at = Any-from_list_any (λ b. eqb a b) xs h in
    subst (λ y. Contains xs y) (sym (eqb-true a at.1 at.4)) (at.0, at.2, at.3)

pub listed_at : (xs : List ℕ) (i : ℕ) → i < length xs → is_listed xs (get_or xs i 0) ≡ true
listed_at xs i l = list_any_at (λ b. eqb (get_or xs i 0) b) xs i 0 l (eq-eqb (get_or xs i 0) (get_or xs i 0) refl)

-- what holds of all listed addresses
pub all_listed : (P : ℕ → Type 0) (xs : List ℕ) → ((a : ℕ) → is_listed xs a ≡ true → P a) → All P xs
all_listed P xs h = All-from_get_or P xs 0 (λ i l. h (get_or xs i 0) (listed_at xs i l))

pub listed_all : (P : ℕ → Type 0) (xs : List ℕ) → All P xs → (a : ℕ) → is_listed xs a ≡ true → P a
listed_all P xs all a h = All-contains P xs a all (listed_contains xs a h)

-- those below a number are below it
pub set_inside : (words : ℕ) (bits : List ℕ) → All (λ a. a < words) (set_below words bits)
set_inside words bits = all_listed (λ a. a < words) (set_below words bits) (λ a h. let at = listed_filter-back (has bits) 0 words a h in omega arith)

-- ---- one address after another

range_suc : (a n : ℕ) → range_with_len a (suc n) ≡ range_with_len a n ++ (a + n) ∷ []
range_suc a zero = let e : a ≡ a + 0 = omega arith in ap (λ x. x ∷ []) e
range_suc a (suc n) =
    let e : a + 1 + n ≡ a + suc n = omega arith in
    ap (λ xs. a ∷ xs) (range_suc (a + 1) n ∙ ap (λ x. range_with_len (a + 1) n ++ x ∷ []) e)

set_step : (bits : List ℕ) (n : ℕ) → set_below (suc n) bits ≡ set_below n bits ++ cond (has bits n) (n ∷ []) []
set_step bits n =
    let e : 0 + n ≡ n = omega arith in
    ap (filter (has bits)) (range_suc 0 n ∙ ap (λ x. range_with_len 0 n ++ x ∷ []) e) ∙ filter-append (has bits) (range_with_len 0 n) (n ∷ [])

-- where no address is in the set
pub set_skip : (bits : List ℕ) (from count : ℕ) → ((k : ℕ) → from ≤ k → k < from + count → has bits k ≡ false) → set_below (from + count) bits ≡ set_below from bits
set_skip bits from zero none = let e : from + 0 ≡ from = omega arith in ap (λ n. set_below n bits) e
set_skip bits from (suc count) none =
    let e : from + suc count ≡ suc (from + count) = omega arith in
    ap (λ n. set_below n bits) e
    ∙ set_step bits (from + count)
    ∙ ap (λ xs. set_below (from + count) bits ++ xs) (cond-false (has bits (from + count)) ((from + count) ∷ []) [] (none (from + count) (omega arith) (omega arith)))
    ∙ append-nil (set_below (from + count) bits)
    ∙ set_skip bits from count (λ k l m. none k l (omega arith))

pub set_next : (bits : List ℕ) (from a : ℕ) → from ≤ a → has bits a ≡ true → ((k : ℕ) → from ≤ k → k < a → has bits k ≡ false) → set_below (a + 1) bits ≡ set_below from bits ++ a ∷ []
set_next bits from a low passes none =
    let count : ℕ = a - from in
    let e : from + count ≡ a = omega arith in
    ap (λ n. set_below n bits) (add-one a)
    ∙ set_step bits a
    ∙ ap (λ xs. set_below a bits ++ xs) (cond-true (has bits a) (a ∷ []) [] passes)
    ∙ ap (λ xs. xs ++ a ∷ []) (ap (λ n. set_below n bits) (sym e) ∙ set_skip bits from count (λ k l m. none k l (omega (arith, m, e))))

pub set_rest : (bits : List ℕ) (from words : ℕ) → from ≤ words → ((k : ℕ) → from ≤ k → k < words → has bits k ≡ false) → set_below from bits ≡ set_below words bits
set_rest bits from words low none =
    let count : ℕ = words - from in
    let e : from + count ≡ words = omega arith in
    sym (ap (λ n. set_below n bits) (sym e) ∙ set_skip bits from count (λ k l m. none k l (omega (arith, m, e))))
