-- Tables of moves: their order, their sources, and the invariant of plain tables.
use Rattle.std.proofs.Common.{◌≡◌, ℕ, zero, suc, ◌+◌, ◌-◌, ◌<◌, ◌≤◌, Bool, true, false, cond, List, [], ◌∷◌, ◌++◌, length, get_or, take, replicate, Some, refl, sym, ap, ◌∙◌, inl, inr, ◌⊎◌, subst, arith}
use Rattle.std.specs.Prelude.{◌==◌, ◌&&◌, nat_lt, slice_index, slice_index_or, slice_set, count_by, filter}
use Rattle.std.specs.List.{list_any}
use Rattle.std.proofs.lemmas.Bool.{or_parts, or_cases, or_left, or_right, and_from, cases_Bool, cases_eq, cases_lt, cases_order, both_ways, and_parts, eq-eqb, ne_eqb, eqb-true, lt-ltb, ltb-true, false≢true, false_from_ne_true}
use Rattle.std.proofs.lemmas.List.{get_or_default, get_or_past, get_or-set_same, get_or-set_other, get_or-replicate, length-set, length-replicate}
use Rattle.std.proofs.lemmas.List.Folds.{Any-from_list_any, list_any_at}
use Rattle.std.proofs.lemmas.List.Sums.{count_by_more_yes, count_by_more_no}
use Rattle.scheduler.proofs.Lemmas.Counting.{count_by-cons}
use Rattle.scheduler.specs.MoveTable.{MoveTable, region_count, to_fill, is_pair, reads, has_source, is_before, Slides, IsMoveTable, IsAscending, IsFirstPlace, IsNextSource, pairs_before}

-- the order of pairs, as a fact
abbrev pub IsBefore : ℕ × ℕ → ℕ × ℕ → Type 0
IsBefore p q = (p.0 < q.0) ⊎ ((p.0 ≡ q.0) × (p.1 < q.1))

pub before_tells : (p q : ℕ × ℕ) → is_before p q ≡ true → IsBefore p q
before_tells p q e = go (or_cases (nat_lt p.0 q.0) (p.0 == q.0 && nat_lt p.1 q.1) e)
  where
    go : (nat_lt p.0 q.0 ≡ true) ⊎ ((p.0 == q.0 && nat_lt p.1 q.1) ≡ true) → IsBefore p q
    go (inl h) = inl (ltb-true p.0 q.0 h)
    go (inr h) = let b = and_parts (p.0 == q.0) (nat_lt p.1 q.1) h in inr (eqb-true p.0 q.0 b.0, ltb-true p.1 q.1 b.1)

pub before_from : (p q : ℕ × ℕ) → IsBefore p q → is_before p q ≡ true
before_from p q (inl h) = or_left (nat_lt p.0 q.0) (p.0 == q.0 && nat_lt p.1 q.1) (lt-ltb p.0 q.0 h)
before_from p q (inr h) = or_right (nat_lt p.0 q.0) (p.0 == q.0 && nat_lt p.1 q.1) (and_from (p.0 == q.0) (nat_lt p.1 q.1) (eq-eqb p.0 q.0 h.0) (lt-ltb p.1 q.1 h.1))

pub not_before_from : (p q : ℕ × ℕ) → (IsBefore p q → ⊥) → is_before p q ≡ false
not_before_from p q n = false_from_ne_true (is_before p q) (λ e. n (before_tells p q e))

-- a pair that isn't before another is that one, or comes after it
pub not_before_tells : (p q : ℕ × ℕ) → is_before p q ≡ false → (q.0 < p.0) ⊎ ((p.0 ≡ q.0) × (q.1 ≤ p.1))
not_before_tells p q e = go (cases_order p.0 q.0) (cases_lt p.1 q.1)
  where
    wrong : IsBefore p q → ⊥
    wrong h = both_ways (is_before p q) e (before_from p q h)

    go : (p.0 ≡ q.0) ⊎ ((p.0 < q.0) ⊎ (q.0 < p.0)) → (p.1 < q.1) ⊎ (q.1 ≤ p.1) → (q.0 < p.0) ⊎ ((p.0 ≡ q.0) × (q.1 ≤ p.1))
    go (inl same) (inl lt) = absurd (wrong (inr (same, lt)))
    go (inl same) (inr le) = inr (same, le)
    go (inr (inl lt)) c = absurd (wrong (inl lt))
    go (inr (inr lt)) c = inl lt

pub before_trans : (p q r : ℕ × ℕ) → IsBefore p q → IsBefore q r → IsBefore p r
before_trans p q r (inl a) (inl b) = inl (omega arith)
before_trans p q r (inl a) (inr b) = inl (omega arith)
before_trans p q r (inr a) (inl b) = inl (omega arith)
before_trans p q r (inr a) (inr b) = inr (omega arith, omega arith)

pub not_before_itself : (p q : ℕ × ℕ) → p.0 ≡ q.0 → p.1 ≡ q.1 → IsBefore p q → ⊥
not_before_itself p q a b (inl c) = omega arith
not_before_itself p q a b (inr c) = omega arith

pub ascending_tail : (p : ℕ × ℕ) (ps : List (ℕ × ℕ)) → IsAscending (p ∷ ps) → IsAscending ps
ascending_tail p ps all i j d lt inside = all (suc i) (suc j) d (omega arith) (omega arith)

-- the first pair comes before each later one
pub ascending_head : (p : ℕ × ℕ) (ps : List (ℕ × ℕ)) (k : ℕ) (d : ℕ × ℕ) → IsAscending (p ∷ ps) → k < length ps → IsBefore p (get_or ps k d)
ascending_head p ps k d all lt = before_tells p (get_or ps k d) (all 0 (suc k) d (omega arith) (omega arith))

-- a pair is at one index only
pub one_place : (ps : List (ℕ × ℕ)) (i j : ℕ) (c d : ℕ × ℕ) → IsAscending ps → i < length ps → j < length ps → (get_or ps i c).0 ≡ (get_or ps j d).0 → (get_or ps i c).1 ≡ (get_or ps j d).1 → i ≡ j
one_place ps i j c d all li lj e f = go (cases_order i j)
  where
    at_d : get_or ps i d ≡ get_or ps i c
    at_d = get_or_default ps i d c li

    e' : (get_or ps i d).0 ≡ (get_or ps j d).0
    e' = ap (λ (p : ℕ × ℕ). p.0) at_d ∙ e

    f' : (get_or ps i d).1 ≡ (get_or ps j d).1
    f' = ap (λ (p : ℕ × ℕ). p.1) at_d ∙ f

    go : (i ≡ j) ⊎ ((i < j) ⊎ (j < i)) → i ≡ j
    go (inl same) = same
    go (inr (inl lt)) = absurd (not_before_itself (get_or ps i d) (get_or ps j d) e' f' (before_tells (get_or ps i d) (get_or ps j d) (all i j d lt lj)))
    go (inr (inr lt)) = absurd (not_before_itself (get_or ps j d) (get_or ps i d) (sym e') (sym f') (before_tells (get_or ps j d) (get_or ps i d) (all j i d lt li)))

-- the place of a pair that the table has
pub record IsPlaced (ps : List (ℕ × ℕ)) (d s : ℕ) : Type 0 where
  pub at : ℕ
  pub inside : at < length ps
  pub first : (e : ℕ × ℕ) → (get_or ps at e).0 ≡ d
  pub second : (e : ℕ × ℕ) → (get_or ps at e).1 ≡ s

pub placed : (ps : List (ℕ × ℕ)) (d s : ℕ) → list_any (is_pair d s) ps ≡ true → IsPlaced ps d s
placed ps d s e =
    let found = Any-from_list_any (is_pair d s) ps e in
    let q = and_parts (d == found.1.0) (s == found.1.1) found.4 in
    let a : d ≡ found.1.0 = eqb-true d found.1.0 q.0 in
    let b : s ≡ found.1.1 = eqb-true s found.1.1 q.1 in
    record {
      at = found.0;
      inside = found.2;
      first = λ e'. ap (λ (p : ℕ × ℕ). p.0) (get_or_default ps found.0 e' found.1 found.2 ∙ found.3) ∙ sym a;
      second = λ e'. ap (λ (p : ℕ × ℕ). p.1) (get_or_default ps found.0 e' found.1 found.2 ∙ found.3) ∙ sym b;
    }

-- a pair at a place is one that the table has
pub reads_at : (ps : List (ℕ × ℕ)) (at d s : ℕ) (e : ℕ × ℕ) → at < length ps → (get_or ps at e).0 ≡ d → (get_or ps at e).1 ≡ s → list_any (is_pair d s) ps ≡ true
reads_at ps at d s e lt a b = list_any_at (is_pair d s) ps at e lt (and_from (d == (get_or ps at e).0) (s == (get_or ps at e).1) (eq-eqb d (get_or ps at e).0 (sym a)) (eq-eqb s (get_or ps at e).1 (sym b)))

pub flag_inside : (fill : List Bool) (r : ℕ) → slice_index_or fill r false ≡ true → r < length fill
flag_inside fill r e = go (cases_lt r (length fill))
  where
    go : (r < length fill) ⊎ (length fill ≤ r) → r < length fill
    go (inl lt) = lt
    go (inr le) = absurd (false≢true (sym (get_or_past fill r false le) ∙ e))

-- what the laws of a table say about its pairs
pub record IsSlide (m : MoveTable) (d s : ℕ) : Type 0 where
  pub down : d < s
  pub from_inside : s < region_count m
  pub to_inside : d < region_count m
  pub fills : to_fill m d ≡ true

pub slide_of : (m : MoveTable) (d s : ℕ) → IsMoveTable m → reads m d s ≡ true → IsSlide m d s
slide_of m d s table e =
    let p = placed m.pairs d s e in
    let h : Slides m.fill (get_or m.pairs p.at (0, 0)) = table.slide p.at (0, 0) p.inside in
    let a : (get_or m.pairs p.at (0, 0)).0 ≡ d = p.first (0, 0) in
    let b : (get_or m.pairs p.at (0, 0)).1 ≡ s = p.second (0, 0) in
    let down : (get_or m.pairs p.at (0, 0)).0 < (get_or m.pairs p.at (0, 0)).1 = h.0 in
    let inside : (get_or m.pairs p.at (0, 0)).1 < length m.fill = h.1 in
    record {
      down = omega arith;
      from_inside = omega arith;
      to_inside = omega arith;
      fills = ap (λ (r : ℕ). slice_index_or m.fill r false) (sym a) ∙ h.2;
    }

-- the pairs before a place in the order come first in the list
pub IsBefore_partitions : (ps : List (ℕ × ℕ)) (q : ℕ × ℕ) → IsAscending ps → (i j : ℕ) (d : ℕ × ℕ) → i ≤ j → j < length ps → is_before (get_or ps j d) q ≡ true → is_before (get_or ps i d) q ≡ true
IsBefore_partitions ps q all i j d le lt e = go (cases_eq i j)
  where
    go : (i ≡ j) ⊎ (i ≡ j → ⊥) → is_before (get_or ps i d) q ≡ true
    go (inl same) = ap (λ (k : ℕ). is_before (get_or ps k d) q) same ∙ e
    go (inr other) = before_from (get_or ps i d) q (before_trans (get_or ps i d) (get_or ps j d) q (before_tells (get_or ps i d) (get_or ps j d) (all i j d (omega arith) lt)) (before_tells (get_or ps j d) q e))

-- a source from there on is at that index or after it
pub source_after : (ps : List (ℕ × ℕ)) (d from at t : ℕ) → IsFirstPlace ps d from at → from ≤ t → (p : IsPlaced ps d t) → at ≤ p.at
source_after ps d from at t first le p = go (cases_lt p.at at)
  where
    go : (p.at < at) ⊎ (at ≤ p.at) → at ≤ p.at
    go (inr h) = h
    go (inl h) = wrong (before_tells (get_or ps p.at (0, 0)) (d, from) (first.before p.at (0, 0) h))
      where
        wrong : IsBefore (get_or ps p.at (0, 0)) (d, from) → at ≤ p.at
        wrong (inl c) = let a = p.first (0, 0) in absurd (omega arith)
        wrong (inr c) = let b = p.second (0, 0) in absurd (omega arith)

pub next_past : (ps : List (ℕ × ℕ)) (d from at : ℕ) → IsFirstPlace ps d from at → length ps ≤ at → (t : ℕ) → from ≤ t → list_any (is_pair d t) ps ≡ false
next_past ps d from at first past t le =
    false_from_ne_true (list_any (is_pair d t) ps) (λ e.
    let p = placed ps d t e in
    let a = source_after ps d from at t first le p in
    let b = p.inside in
    omega arith)

-- a pair of another destination is there, so there is no source from there on
pub next_other : (ps : List (ℕ × ℕ)) (d from at : ℕ) (q : ℕ × ℕ) → IsAscending ps → IsFirstPlace ps d from at → at < length ps → get_or ps at q ≡ q → (q.0 ≡ d → ⊥) → (t : ℕ) → from ≤ t → list_any (is_pair d t) ps ≡ false
next_other ps d from at q all first lt is other t le = false_from_ne_true (list_any (is_pair d t) ps) (λ e. go (placed ps d t e))
  where
    beyond : (q.0 < d → ⊥) × (d < q.0)
    beyond = go (not_before_tells q (d, from) (ap (λ (x : ℕ × ℕ). is_before x (d, from)) (sym is) ∙ first.after at q (omega arith) lt))
      where
        go : (d < q.0) ⊎ ((q.0 ≡ d) × (from ≤ q.1)) → (q.0 < d → ⊥) × (d < q.0)
        go (inl h) = (λ k. omega arith, h)
        go (inr h) = absurd (other h.0)

    go : IsPlaced ps d t → ⊥
    go p = go' (source_after ps d from at t first le p) (cases_eq at p.at)
      where
        go' : at ≤ p.at → (at ≡ p.at) ⊎ (at ≡ p.at → ⊥) → ⊥
        go' le' (inl same) = other (ap (λ (x : ℕ × ℕ). x.0) (sym is) ∙ (ap (λ (k : ℕ). (get_or ps k q).0) same ∙ p.first q))
        go' le' (inr n) = wrong (before_tells (get_or ps at q) (get_or ps p.at q) (all at p.at q (omega arith) p.inside))
          where
            wrong : IsBefore (get_or ps at q) (get_or ps p.at q) → ⊥
            wrong (inl c) = let a = p.first q in let b : (get_or ps at q).0 ≡ q.0 = ap (λ (x : ℕ × ℕ). x.0) is in let g = beyond.1 in omega arith
            wrong (inr c) = let a = p.first q in let b : (get_or ps at q).0 ≡ q.0 = ap (λ (x : ℕ × ℕ). x.0) is in let g = beyond.1 in omega arith

-- the pair there is that of the next source
pub next_here : (m : MoveTable) (d from at s : ℕ) (q : ℕ × ℕ) → IsAscending m.pairs → IsFirstPlace m.pairs d from at → at < length m.pairs → get_or m.pairs at q ≡ q → q.0 ≡ d → q.1 ≡ s → IsNextSource m d from (Some s)
next_here m d from at s q all first lt is a b = (from_le (not_before_tells q (d, from) (ap (λ (x : ℕ × ℕ). is_before x (d, from)) (sym is) ∙ first.after at q (omega arith) lt)), reads_at m.pairs at d s q lt (ap (λ (x : ℕ × ℕ). x.0) is ∙ a) (ap (λ (x : ℕ × ℕ). x.1) is ∙ b), λ t from_t t_s. false_from_ne_true (reads m d t) (λ e. go t from_t t_s (placed m.pairs d t e)))
  where
    from_le : (d < q.0) ⊎ ((q.0 ≡ d) × (from ≤ q.1)) → from ≤ s
    from_le (inl h) = absurd (omega arith)
    from_le (inr h) = omega arith

    go : (t : ℕ) → from ≤ t → t < s → IsPlaced m.pairs d t → ⊥
    go t from_t t_s p = go' (source_after m.pairs d from at t first from_t p) (cases_eq at p.at)
      where
        go' : at ≤ p.at → (at ≡ p.at) ⊎ (at ≡ p.at → ⊥) → ⊥
        go' le' (inl same) = let e : q.1 ≡ t = ap (λ (x : ℕ × ℕ). x.1) (sym is) ∙ (ap (λ (k : ℕ). (get_or m.pairs k q).1) same ∙ p.second q) in omega arith
        go' le' (inr n) = wrong (before_tells (get_or m.pairs at q) (get_or m.pairs p.at q) (all at p.at q (omega arith) p.inside))
          where
            wrong : IsBefore (get_or m.pairs at q) (get_or m.pairs p.at q) → ⊥
            wrong (inl c) = let x = p.first q in let y : (get_or m.pairs at q).0 ≡ q.0 = ap (λ (x : ℕ × ℕ). x.0) is in omega arith
            wrong (inr c) = let x = p.second q in let y : (get_or m.pairs at q).1 ≡ q.1 = ap (λ (x : ℕ × ℕ). x.1) is in omega arith

-- what holds at each place below n, and at n
pub more_places : {X : Type 0} (P : X → Type 0) (xs : List X) (n : ℕ) → ((k : ℕ) (d : X) → k < n → P (get_or xs k d)) → ((d : X) → P (get_or xs n d)) → (k : ℕ) (d : X) → k < n + 1 → P (get_or xs k d)
more_places P xs n before here k d lt = go (cases_eq k n)
  where
    go : (k ≡ n) ⊎ (k ≡ n → ⊥) → P (get_or xs k d)
    go (inl e) = rw e (here d)
    go (inr other) = before k d (omega arith)

-- one pair more in order
pub more_ascending : (ps : List (ℕ × ℕ)) (i : ℕ) (e f : ℕ × ℕ) → 1 ≤ i → i < length ps → ((j k : ℕ) (d : ℕ × ℕ) → j < k → k < i → is_before (get_or ps j d) (get_or ps k d) ≡ true)
    → is_before (get_or ps (i - 1) e) (get_or ps i f) ≡ true → (j k : ℕ) (d : ℕ × ℕ) → j < k → k < i + 1 → is_before (get_or ps j d) (get_or ps k d) ≡ true
more_ascending ps i e f pos inside before last j k d lt upto = go (cases_eq k i) (cases_eq j (i - 1))
  where
    last' : is_before (get_or ps (i - 1) d) (get_or ps i d) ≡ true
    last' = rw (get_or_default ps (i - 1) d e (omega arith), get_or_default ps i d f inside) last

    go : (k ≡ i) ⊎ (k ≡ i → ⊥) → (j ≡ i - 1) ⊎ (j ≡ i - 1 → ⊥) → is_before (get_or ps j d) (get_or ps k d) ≡ true
    go (inr other) c = before j k d lt (omega arith)
    go (inl same) (inl at) = rw (same, at) last'
    go (inl same) (inr other) =
        rw same
        (before_from (get_or ps j d) (get_or ps i d)
        (before_trans (get_or ps j d) (get_or ps (i - 1) d) (get_or ps i d) (before_tells (get_or ps j d) (get_or ps (i - 1) d) (before j (i - 1) d (omega arith) (omega arith))) (before_tells (get_or ps (i - 1) d) (get_or ps i d) last')))

-- one pair more, whose source has at most one reader so far
pub more_readers : (ps : List (ℕ × ℕ)) (i : ℕ) (d : ℕ × ℕ) → i < length ps → ((s : ℕ) → count_by (has_source s) (take i ps) ≤ 2) → count_by (has_source (get_or ps i d).1) (take i ps) ≤ 1
    → (s : ℕ) → count_by (has_source s) (take (i + 1) ps) ≤ 2
more_readers ps i d lt before here s = go (cases_eq s (get_or ps i d).1)
  where
    go : (s ≡ (get_or ps i d).1) ⊎ (s ≡ (get_or ps i d).1 → ⊥) → count_by (has_source s) (take (i + 1) ps) ≤ 2
    go (inl e) =
        let h : count_by (has_source s) (take i ps) ≤ 1 = subst (λ (t : ℕ). count_by (has_source t) (take i ps) ≤ 1) (sym e) here in
        let step = count_by_more_yes (has_source s) ps i d lt (eq-eqb s (get_or ps i d).1 e) in
        omega arith
    go (inr n) =
        let h = before s in
        let step = count_by_more_no (has_source s) ps i d lt (ne_eqb s (get_or ps i d).1 n) in
        omega arith

-- of each region below n, how many pairs have it as this end
pub record AreCounted (n : ℕ) (end_of : ℕ × ℕ → ℕ) (ps : List (ℕ × ℕ)) (counts : List ℕ) : Type 0 where
  pub room : length counts ≡ n
  pub each : (r : ℕ) → r < n → slice_index counts r ≡ count_by (λ pair. r == end_of pair) ps

pub none_counted : (n : ℕ) (end_of : ℕ × ℕ → ℕ) → AreCounted n end_of [] (replicate n 0)
none_counted n end_of = record { room = length-replicate n 0; each = λ r lt. get_or-replicate n r 0 0 lt }

-- one pair more is counted
pub one_more_counted : (n : ℕ) (end_of : ℕ × ℕ → ℕ) (ps : List (ℕ × ℕ)) (i : ℕ) (d : ℕ × ℕ) (counts : List ℕ) → i < length ps → end_of (get_or ps i d) < n → AreCounted n end_of (take i ps) counts
    → AreCounted n end_of (take (i + 1) ps) (slice_set counts (end_of (get_or ps i d)) (slice_index counts (end_of (get_or ps i d)) + 1))
one_more_counted n end_of ps i d counts lt inside before =
    record {
      room = length-set counts (end_of (get_or ps i d)) (slice_index counts (end_of (get_or ps i d)) + 1) ∙ before.room;
      each = λ r lt'. go r lt' (cases_eq r (end_of (get_or ps i d)));
    }
  where
    go : (r : ℕ) → r < n → (r ≡ end_of (get_or ps i d)) ⊎ (r ≡ end_of (get_or ps i d) → ⊥)
        → slice_index (slice_set counts (end_of (get_or ps i d)) (slice_index counts (end_of (get_or ps i d)) + 1)) r ≡ count_by (λ pair. r == end_of pair) (take (i + 1) ps)
    go r lt' (inl e) =
        ap (λ (k : ℕ). slice_index (slice_set counts (end_of (get_or ps i d)) (slice_index counts (end_of (get_or ps i d)) + 1)) k) e
        ∙ (get_or-set_same counts (end_of (get_or ps i d)) (slice_index counts (end_of (get_or ps i d)) + 1) 0 (rw before.room inside)
        ∙ (ap (λ (k : ℕ). slice_index counts k + 1) (sym e) ∙ (ap (λ (c : ℕ). c + 1) (before.each r lt') ∙ sym (count_by_more_yes (λ pair. r == end_of pair) ps i d lt (eq-eqb r (end_of (get_or ps i d)) e)))))
    go r lt' (inr other) =
        get_or-set_other counts (end_of (get_or ps i d)) r (slice_index counts (end_of (get_or ps i d)) + 1) 0 other
        ∙ (before.each r lt' ∙ sym (count_by_more_no (λ pair. r == end_of pair) ps i d lt (ne_eqb r (end_of (get_or ps i d)) other)))

-- no test passes, so nothing is kept
filter_none : (p : ℕ × ℕ → Bool) (ps : List (ℕ × ℕ)) → ((k : ℕ) (d : ℕ × ℕ) → k < length ps → p (get_or ps k d) ≡ false) → filter p ps ≡ []
filter_none p [] none = refl
filter_none p (x ∷ ps) none =
    let head : p x ≡ false = none 0 x (omega arith) in
    rw head (filter_none p ps (λ k d lt. none (suc k) d (omega arith)))

filter_same : (p q : ℕ × ℕ → Bool) (ps : List (ℕ × ℕ)) → ((k : ℕ) (d : ℕ × ℕ) → k < length ps → p (get_or ps k d) ≡ q (get_or ps k d)) → filter p ps ≡ filter q ps
filter_same p q [] same = refl
filter_same p q (x ∷ ps) same =
    let head : p x ≡ q x = same 0 x (omega arith) in
    rw (head, filter_same p q ps (λ k d lt. same (suc k) d (omega arith))) refl

filter_all : (p : ℕ × ℕ → Bool) (ps : List (ℕ × ℕ)) → ((k : ℕ) (d : ℕ × ℕ) → k < length ps → p (get_or ps k d) ≡ true) → filter p ps ≡ ps
filter_all p [] all = refl
filter_all p (x ∷ ps) all =
    let head : p x ≡ true = all 0 x (omega arith) in
    rw head (ap (λ (l : List (ℕ × ℕ)). x ∷ l) (filter_all p ps (λ k d lt. all (suc k) d (omega arith))))

pub pairs_before-opening : (m : MoveTable) → pairs_before m 0 0 ≡ []
pairs_before-opening m = filter_none (λ p. is_before p (0, 0)) m.pairs (λ k d lt. not_before_from (get_or m.pairs k d) (0, 0) wrong)
  where
    wrong : {p : ℕ × ℕ} → IsBefore p (0, 0) → ⊥
    wrong (inl h) = omega arith
    wrong (inr h) = omega arith

-- all pairs are before the index after the last region
pub pairs_before-whole : (m : MoveTable) → IsMoveTable m → pairs_before m (region_count m) 0 ≡ m.pairs
pairs_before-whole m table = filter_all (λ p. is_before p (region_count m, 0)) m.pairs (λ k d lt. let h = table.slide k d lt in before_from (get_or m.pairs k d) (region_count m, 0) (inl (let a = h.0 in let b = h.1 in omega arith)))

-- with all pairs of a destination
pub pairs_before-region : (m : MoveTable) (d from : ℕ) → ((t : ℕ) → from ≤ t → reads m d t ≡ false) → pairs_before m d from ≡ pairs_before m (d + 1) 0
pairs_before-region m d from none = filter_same (λ p. is_before p (d, from)) (λ p. is_before p (d + 1, 0)) m.pairs (λ k e lt. go k e lt (cases_order (get_or m.pairs k e).0 d) (cases_lt (get_or m.pairs k e).1 from))
  where
    go : (k : ℕ) (e : ℕ × ℕ) → k < length m.pairs → ((get_or m.pairs k e).0 ≡ d) ⊎ (((get_or m.pairs k e).0 < d) ⊎ (d < (get_or m.pairs k e).0)) → ((get_or m.pairs k e).1 < from) ⊎ (from ≤ (get_or m.pairs k e).1)
        → is_before (get_or m.pairs k e) (d, from) ≡ is_before (get_or m.pairs k e) (d + 1, 0)
    go k e lt (inl same) (inl less) = before_from (get_or m.pairs k e) (d, from) (inr (same, less)) ∙ sym (before_from (get_or m.pairs k e) (d + 1, 0) (inl (omega arith)))
    go k e lt (inl same) (inr le) = absurd (both_ways (reads m d (get_or m.pairs k e).1) (none (get_or m.pairs k e).1 le) (reads_at m.pairs k d (get_or m.pairs k e).1 e lt same refl))
    go k e lt (inr (inl less)) c = before_from (get_or m.pairs k e) (d, from) (inl less) ∙ sym (before_from (get_or m.pairs k e) (d + 1, 0) (inl (omega arith)))
    go k e lt (inr (inr more)) c = not_before_from (get_or m.pairs k e) (d, from) (wrong (get_or m.pairs k e) more) ∙ sym (not_before_from (get_or m.pairs k e) (d + 1, 0) (wrong' (get_or m.pairs k e) more))
      where
        wrong : (p : ℕ × ℕ) → d < p.0 → IsBefore p (d, from) → ⊥
        wrong p more (inl h) = omega arith
        wrong p more (inr h) = omega arith

        wrong' : (p : ℕ × ℕ) → d < p.0 → IsBefore p (d + 1, 0) → ⊥
        wrong' p more (inl h) = omega arith
        wrong' p more (inr h) = omega arith

-- one source more of a destination
filter_next : (ps : List (ℕ × ℕ)) (d from s : ℕ) → IsAscending ps → from ≤ s → list_any (is_pair d s) ps ≡ true → ((t : ℕ) → from ≤ t → t < s → list_any (is_pair d t) ps ≡ false)
    → filter (λ p. is_before p (d, s + 1)) ps ≡ filter (λ p. is_before p (d, from)) ps ++ (d, s) ∷ []
filter_next [] d from s all le has none = absurd (false≢true has)
filter_next (p ∷ ps) d from s all le has none =
    go (cases_Bool (is_before p (d, from)))
    (λ still. filter_next ps d from s (ascending_tail p ps all) le still (λ t a b. (or_parts (is_pair d t p) (list_any (is_pair d t) ps) (none t a b)).1))
  where
    go : (is_before p (d, from) ≡ true) ⊎ (is_before p (d, from) ≡ false)
        → (list_any (is_pair d s) ps ≡ true → filter (λ q. is_before q (d, s + 1)) ps ≡ filter (λ q. is_before q (d, from)) ps ++ (d, s) ∷ [])
        → filter (λ q. is_before q (d, s + 1)) (p ∷ ps) ≡ filter (λ q. is_before q (d, from)) (p ∷ ps) ++ (d, s) ∷ []
    go (inl e) tail =
        let wide : is_before p (d, s + 1) ≡ true = before_from p (d, s + 1) (wider (before_tells p (d, from) e)) in
        rw (e, wide) (ap (λ (l : List (ℕ × ℕ)). p ∷ l) (tail (rest (or_cases (is_pair d s p) (list_any (is_pair d s) ps) has))))
      where
        wider : IsBefore p (d, from) → IsBefore p (d, s + 1)
        wider (inl h) = inl h
        wider (inr h) = inr (h.0, omega arith)

        rest : (is_pair d s p ≡ true) ⊎ (list_any (is_pair d s) ps ≡ true) → list_any (is_pair d s) ps ≡ true
        rest (inr h) = h
        rest (inl h) = absurd (wrong (before_tells p (d, from) e))
          where
            wrong : IsBefore p (d, from) → ⊥
            wrong (inl c) = let q = and_parts (d == p.0) (s == p.1) h in let a = eqb-true d p.0 q.0 in omega arith
            wrong (inr c) = let q = and_parts (d == p.0) (s == p.1) h in let b = eqb-true s p.1 q.1 in omega arith
    go (inr e) tail = here (or_cases (is_pair d s p) (list_any (is_pair d s) ps) has)
      where
        later : (k : ℕ) (c : ℕ × ℕ) → k < length ps → is_before (get_or ps k c) (d, from) ≡ false
        later k c lt = not_before_from (get_or ps k c) (d, from) (λ h. both_ways (is_before p (d, from)) e (before_from p (d, from) (before_trans p (get_or ps k c) (d, from) (ascending_head p ps k c all lt) h)))

        is_it : p.0 ≡ d → p.1 ≡ s → filter (λ q. is_before q (d, s + 1)) (p ∷ ps) ≡ filter (λ q. is_before q (d, from)) (p ∷ ps) ++ (d, s) ∷ []
        is_it a b =
            let wide : is_before p (d, s + 1) ≡ true = before_from p (d, s + 1) (inr (a, omega arith)) in
            let behind : filter (λ q. is_before q (d, s + 1)) ps ≡ [] = filter_none (λ q. is_before q (d, s + 1)) ps (λ k c lt. not_before_from (get_or ps k c) (d, s + 1) (wrong k c lt (ascending_head p ps k c all lt))) in
            let before : filter (λ q. is_before q (d, from)) ps ≡ [] = filter_none (λ q. is_before q (d, from)) ps later in
            rw (e, wide, behind, before) (λ i. (a i, b i) ∷ [])
          where
            wrong : (k : ℕ) (c : ℕ × ℕ) → k < length ps → IsBefore p (get_or ps k c) → IsBefore (get_or ps k c) (d, s + 1) → ⊥
            wrong k c lt (inl x) (inl y) = omega arith
            wrong k c lt (inl x) (inr y) = omega arith
            wrong k c lt (inr x) (inl y) = omega arith
            wrong k c lt (inr x) (inr y) = omega arith

        here : (is_pair d s p ≡ true) ⊎ (list_any (is_pair d s) ps ≡ true) → filter (λ q. is_before q (d, s + 1)) (p ∷ ps) ≡ filter (λ q. is_before q (d, from)) (p ∷ ps) ++ (d, s) ∷ []
        here (inl h) = let q = and_parts (d == p.0) (s == p.1) h in is_it (sym (eqb-true d p.0 q.0)) (sym (eqb-true s p.1 q.1))
        here (inr h) = absurd (wrong (placed ps d s h))
          where
            wrong : IsPlaced ps d s → ⊥
            wrong found = wrong' (ascending_head p ps found.at (0, 0) all found.inside) (not_before_tells p (d, from) e)
              where
                wrong' : IsBefore p (get_or ps found.at (0, 0)) → (d < p.0) ⊎ ((p.0 ≡ d) × (from ≤ p.1)) → ⊥
                wrong' (inl x) (inl y) = let a = found.first (0, 0) in omega arith
                wrong' (inl x) (inr y) = let a = found.first (0, 0) in omega arith
                wrong' (inr x) (inl y) = let a = found.first (0, 0) in omega arith
                wrong' (inr x) (inr y) =
                    let a = found.second (0, 0) in
                    both_ways (list_any (is_pair d p.1) (p ∷ ps)) (none p.1 y.1 (omega arith)) (reads_at (p ∷ ps) 0 d p.1 p (omega arith) y.0 refl)

pub pairs_before-source : (m : MoveTable) (d from s : ℕ) → IsMoveTable m → from ≤ s → reads m d s ≡ true → ((t : ℕ) → from ≤ t → t < s → reads m d t ≡ false) → pairs_before m d (s + 1) ≡ pairs_before m d from ++ (d, s) ∷ []
pairs_before-source m d from s table le has none = filter_next m.pairs d from s table.ascending le has none

-- a front of a list counts no more
pub count_by-take : {X : Type 0} (p : X → Bool) (xs : List X) (n : ℕ) → count_by p (take n xs) ≤ count_by p xs
count_by-take p xs zero = omega arith
count_by-take p [] (suc n) = omega arith
count_by-take p (x ∷ xs) (suc n) =
    let l : count_by p (x ∷ take n xs) ≡ cond {A = ℕ} (p x) 1 0 + count_by p (take n xs) = count_by-cons p x (take n xs) in
    let r : count_by p (x ∷ xs) ≡ cond {A = ℕ} (p x) 1 0 + count_by p xs = count_by-cons p x xs in
    let tail = count_by-take p xs n in
    omega arith
