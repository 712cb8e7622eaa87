-- Where pairs lie in a table of moves.
use Rattle.std.proofs.Common.{◌≡◌, ◌⊎◌, ℕ, ◌+◌, ◌<◌, ◌≤◌, true, false, length, get_or, refl, sym, ap, ◌∙◌, inl, inr, arith}
use Rattle.std.specs.Prelude.{◌==◌, ◌&&◌, nat_lt}
use Rattle.std.proofs.lemmas.Bool.{or_cases, or_left, or_right, and_from, and_parts, both_ways, cases_eq, cases_lt, cases_order, eq-eqb, eqb-true, lt-ltb, ltb-true, false_from_ne_true}
use Rattle.std.proofs.lemmas.List.{get_or_default}
use Rattle.std.proofs.lemmas.List.Folds.{Any-from_list_any, list_any_at}
use Rattle.scheduler.specs.MoveTable.{MoveTable, IsMoveTable, IsFirstPlace, region_count, reads, is_pair, is_before}

-- the order of pairs, as a fact
abbrev pub IsBefore : ℕ × ℕ → ℕ × ℕ → Type 0
IsBefore p q = (p.0 < q.0) ⊎ ((p.0 ≡ q.0) × (p.1 < q.1))

pub before_tells : (p q : ℕ × ℕ) → is_before p q ≡ true → IsBefore p q
before_tells p q e = go (or_cases (nat_lt p.0 q.0) (p.0 == q.0 && nat_lt p.1 q.1) e)
  where
    go : (nat_lt p.0 q.0 ≡ true) ⊎ ((p.0 == q.0 && nat_lt p.1 q.1) ≡ true) → IsBefore p q
    go (inl h) = inl (ltb-true p.0 q.0 h)
    go (inr h) = let b = and_parts (p.0 == q.0) (nat_lt p.1 q.1) h in inr (eqb-true p.0 q.0 b.0, ltb-true p.1 q.1 b.1)

pub before_from : (p q : ℕ × ℕ) → IsBefore p q → is_before p q ≡ true
before_from p q (inl h) = or_left (nat_lt p.0 q.0) (p.0 == q.0 && nat_lt p.1 q.1) (lt-ltb p.0 q.0 h)
before_from p q (inr h) = or_right (nat_lt p.0 q.0) (p.0 == q.0 && nat_lt p.1 q.1) (and_from (p.0 == q.0) (nat_lt p.1 q.1) (eq-eqb p.0 q.0 h.0) (lt-ltb p.1 q.1 h.1))

not_before_from : (p q : ℕ × ℕ) → (IsBefore p q → ⊥) → is_before p q ≡ false
not_before_from p q n = false_from_ne_true (is_before p q) (λ e. n (before_tells p q e))

not_before : (p q : ℕ × ℕ) → is_before p q ≡ false → IsBefore p q → ⊥
not_before p q e h = both_ways (is_before p q) e (before_from p q h)

-- the pair at this index
abbrev pub pair : MoveTable → ℕ → ℕ × ℕ
pair m i = get_or m.pairs i (0, 0)

module _ (m : MoveTable) (table : IsMoveTable m) where
  order : (i j : ℕ) → i < j → j < length m.pairs → IsBefore (pair m i) (pair m j)
  order i j lt inside = before_tells (pair m i) (pair m j) (table.ascending i j (0, 0) lt inside)

  pub slides : (i : ℕ) → i < length m.pairs → (pair m i).0 < (pair m i).1
  slides i lt = (table.slide i (0, 0) lt).0

  pub source_inside : (i : ℕ) → i < length m.pairs → (pair m i).1 < region_count m
  source_inside i lt = (table.slide i (0, 0) lt).1

  -- destinations ascend
  pub destinations : (i j : ℕ) → i < j → j < length m.pairs → (pair m i).0 ≤ (pair m j).0
  destinations i j lt inside = go (order i j lt inside)
    where
      go : IsBefore (pair m i) (pair m j) → (pair m i).0 ≤ (pair m j).0
      go (inl h) = omega arith
      go (inr h) = omega (arith, h.0)

  -- a pair that the table has lies at some index
  found : (d s : ℕ) → reads m d s ≡ true → (k : ℕ) × (k < length m.pairs) × ((pair m k).0 ≡ d) × ((pair m k).1 ≡ s)
  found d s e =
      let f = Any-from_list_any (is_pair d s) m.pairs e in
      let q = and_parts (d == f.1.0) (s == f.1.1) f.4 in (
        f.0,
        f.2,
        ap (λ (p : ℕ × ℕ). p.0) (get_or_default m.pairs f.0 (0, 0) f.1 f.2 ∙ f.3) ∙ sym (eqb-true d f.1.0 q.0),
        ap (λ (p : ℕ × ℕ). p.1) (get_or_default m.pairs f.0 (0, 0) f.1 f.2 ∙ f.3) ∙ sym (eqb-true s f.1.1 q.1),
      )

  pub reads_at : (i d s : ℕ) → i < length m.pairs → (pair m i).0 ≡ d → (pair m i).1 ≡ s → reads m d s ≡ true
  reads_at i d s lt a b = list_any_at (is_pair d s) m.pairs i (0, 0) lt (and_from (d == (pair m i).0) (s == (pair m i).1) (eq-eqb d (pair m i).0 (sym a)) (eq-eqb s (pair m i).1 (sym b)))

  -- a pair from the first place on isn't before it
  later : (d from p i : ℕ) → IsFirstPlace m.pairs d from p → p ≤ i → i < length m.pairs → IsBefore (pair m i) (d, from) → ⊥
  later d from p i first le lt = not_before (pair m i) (d, from) (first.after i (0, 0) le lt)

  earlier : (d from p i : ℕ) → IsFirstPlace m.pairs d from p → i < p → IsBefore (pair m i) (d, from)
  earlier d from p i first lt = before_tells (pair m i) (d, from) (first.before i (0, 0) lt)

  -- the next source's pair lies at the first place
  pub next_place : (d from s p : ℕ) → IsFirstPlace m.pairs d from p → from ≤ s → reads m d s ≡ true → ((t : ℕ) → from ≤ t → t < s → reads m d t ≡ false) → (p < length m.pairs) × ((pair m p).0 ≡ d) × ((pair m p).1 ≡ s)
  next_place d from s p first low has none = go (cases_order p k)
    where
      k : ℕ
      k = (found d s has).0

      inside : k < length m.pairs
      inside = (found d s has).1

      one : (pair m k).0 ≡ d
      one = (found d s has).2

      two : (pair m k).1 ≡ s
      two = (found d s has).3

      between : p < k → IsBefore (pair m p) (pair m k) → ⊥
      between lt (inl h) = later d from p p first (omega arith) (omega (arith, inside)) (inl (omega (arith, one)))
      between lt (inr h) = both_ways (reads m d (pair m p).1) (none (pair m p).1 low' (omega (arith, h.1, two))) (reads_at p d (pair m p).1 (omega (arith, inside)) (omega (arith, h.0, one)) refl)
        where
          low' : from ≤ (pair m p).1
          low' = at_least (cases_lt (pair m p).1 from)
            where
              at_least : ((pair m p).1 < from) ⊎ (from ≤ (pair m p).1) → from ≤ (pair m p).1
              at_least (inr le) = le
              at_least (inl less) = absurd (later d from p p first (omega arith) (omega (arith, inside)) (inr (omega (arith, h.0, one), less)))

      beyond : k < p → IsBefore (pair m k) (d, from) → ⊥
      beyond lt (inl h) = omega (arith, one)
      beyond lt (inr h) = omega (arith, h.1, two)

      go : (p ≡ k) ⊎ ((p < k) ⊎ (k < p)) → (p < length m.pairs) × ((pair m p).0 ≡ d) × ((pair m p).1 ≡ s)
      go (inl same) = (omega (arith, inside), ap (λ (i : ℕ). (pair m i).0) same ∙ one, ap (λ (i : ℕ). (pair m i).1) same ∙ two)
      go (inr (inl lt)) = absurd (between lt (order p k lt inside))
      go (inr (inr lt)) = absurd (beyond lt (earlier d from p k first lt))

  -- the place after it
  pub place_after : (d from s p : ℕ) → IsFirstPlace m.pairs d from p → from ≤ s → p < length m.pairs → (pair m p).0 ≡ d → (pair m p).1 ≡ s → IsFirstPlace m.pairs d (s + 1) (p + 1)
  place_after d from s p first low inside one two = record { inside = omega arith; before = before; after = after }
    where
      at : (i : ℕ) (e : ℕ × ℕ) → i < length m.pairs → get_or m.pairs i e ≡ pair m i
      at i e lt = get_or_default m.pairs i e (0, 0) lt

      before : (i : ℕ) (e : ℕ × ℕ) → i < p + 1 → is_before (get_or m.pairs i e) (d, s + 1) ≡ true
      before i e lt = ap (λ (q : ℕ × ℕ). is_before q (d, s + 1)) (at i e (omega arith)) ∙ before_from (pair m i) (d, s + 1) (go (cases_eq i p))
        where
          wider : IsBefore (pair m i) (d, from) → IsBefore (pair m i) (d, s + 1)
          wider (inl h) = inl h
          wider (inr h) = inr (h.0, omega (arith, h.1))

          go : (i ≡ p) ⊎ (i ≡ p → ⊥) → IsBefore (pair m i) (d, s + 1)
          go (inl same) = inr (ap (λ (j : ℕ). (pair m j).0) same ∙ one, (let e : (pair m i).1 ≡ s = ap (λ (j : ℕ). (pair m j).1) same ∙ two in omega arith))
          go (inr other) = wider (earlier d from p i first (omega arith))

      after : (i : ℕ) (e : ℕ × ℕ) → p + 1 ≤ i → i < length m.pairs → is_before (get_or m.pairs i e) (d, s + 1) ≡ false
      after i e le lt = ap (λ (q : ℕ × ℕ). is_before q (d, s + 1)) (at i e lt) ∙ not_before_from (pair m i) (d, s + 1) (go (order p i (omega arith) lt))
        where
          go : IsBefore (pair m p) (pair m i) → IsBefore (pair m i) (d, s + 1) → ⊥
          go (inl h) (inl b) = omega arith
          go (inl h) (inr b) = omega (arith, b.0)
          go (inr h) (inl b) = omega (arith, h.0)
          go (inr h) (inr b) = omega (arith, h.1, b.1)

  -- where no source of d is left, the pairs of the next destination begin
  pub next_destination : (d from p : ℕ) → IsFirstPlace m.pairs d from p → ((t : ℕ) → from ≤ t → reads m d t ≡ false) → IsFirstPlace m.pairs (d + 1) 0 p
  next_destination d from p first none = record { inside = first.inside; before = before; after = after }
    where
      before : (i : ℕ) (e : ℕ × ℕ) → i < p → is_before (get_or m.pairs i e) (d + 1, 0) ≡ true
      before i e lt = before_from (get_or m.pairs i e) (d + 1, 0) (go (before_tells (get_or m.pairs i e) (d, from) (first.before i e lt)))
        where
          go : IsBefore (get_or m.pairs i e) (d, from) → IsBefore (get_or m.pairs i e) (d + 1, 0)
          go (inl h) = inl (omega arith)
          go (inr h) = inl (omega (arith, h.0))

      after : (i : ℕ) (e : ℕ × ℕ) → p ≤ i → i < length m.pairs → is_before (get_or m.pairs i e) (d + 1, 0) ≡ false
      after i e le lt = ap (λ (q : ℕ × ℕ). is_before q (d + 1, 0)) (get_or_default m.pairs i e (0, 0) lt) ∙ not_before_from (pair m i) (d + 1, 0) go
        where
          own : (pair m i).0 ≡ d → ⊥
          own is = at_least (cases_lt (pair m i).1 from)
            where
              at_least : ((pair m i).1 < from) ⊎ (from ≤ (pair m i).1) → ⊥
              at_least (inl less) = later d from p i first le lt (inr (is, less))
              at_least (inr more) = both_ways (reads m d (pair m i).1) (none (pair m i).1 more) (reads_at i d (pair m i).1 lt is refl)

          go : IsBefore (pair m i) (d + 1, 0) → ⊥
          go (inl h) = less (cases_eq (pair m i).0 d)
            where
              less : ((pair m i).0 ≡ d) ⊎ ((pair m i).0 ≡ d → ⊥) → ⊥
              less (inl is) = own is
              less (inr other) = later d from p i first le lt (inl (omega arith))
          go (inr h) = omega (arith, h.1)

  -- before the first place of a region, all destinations are lower
  pub lower : (r p i : ℕ) → IsFirstPlace m.pairs r 0 p → i < p → (pair m i).0 < r
  lower r p i first lt = go (earlier r 0 p i first lt)
    where
      go : IsBefore (pair m i) (r, 0) → (pair m i).0 < r
      go (inl h) = h
      go (inr h) = absurd (omega (arith, h.1))

  -- from there on, none is
  pub not_lower : (r p i : ℕ) → IsFirstPlace m.pairs r 0 p → p ≤ i → i < length m.pairs → r ≤ (pair m i).0
  not_lower r p i first le lt = go (cases_lt (pair m i).0 r)
    where
      go : ((pair m i).0 < r) ⊎ (r ≤ (pair m i).0) → r ≤ (pair m i).0
      go (inl less) = absurd (later r 0 p i first le lt (inl less))
      go (inr more) = more
