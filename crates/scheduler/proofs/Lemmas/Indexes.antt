-- The index of a table of moves: first places, and the places of a source.
use Rattle.std.proofs.Common.{◌≡◌, ℕ, ◌+◌, ◌<◌, ◌≤◌, true, false, Option, Some, None, refl, List, length, get_or, take, sym, ap, ◌∙◌, subst, inl, inr, ◌⊎◌, arith}
use Rattle.std.specs.Prelude.{slice_index_or, slice_set, IfNone}
use Rattle.std.specs.Option.{option_or}
use Rattle.std.specs.List.{list_any}
use Rattle.std.proofs.lemmas.Bool.{cases_eq, cases_lt, eq-eqb, ne_eqb, false_from_ne_true}
use Rattle.std.proofs.lemmas.List.{get_or_default, get_or_past, get_or-set_same, get_or-set_other, length-set, take_all}
use Rattle.std.proofs.lemmas.List.Sums.{count_by_more_yes, count_by_more_no}
use Rattle.scheduler.specs.MoveTable.{MoveTable, IsMoveTable, IsAscending, IsFirstPlace, is_before, is_pair, has_source, region_count}
use Rattle.scheduler.specs.MoveIndex.{number_of, Lists, joined, AreReaders, IsPlaceOf, IsIndexed}
use Rattle.scheduler.specs.declared.moves.readers.Readers.{Readers}
use Rattle.scheduler.specs.declared.moves.readers.Readers.TheVariants.{Nobody, One, Two}
use Rattle.scheduler.proofs.Lemmas.Counting.{count_by_none}
use Rattle.scheduler.proofs.Lemmas.Pairs.{count_by-take, IsBefore, before_tells, before_from, not_before_from, not_before_tells, IsPlaced, placed}

-- after a pair comes the first one that isn't before the next source
pub first_behind : (ps : List (ℕ × ℕ)) (d s at : ℕ) → IsAscending ps → IsPlaceOf ps d s at → IsFirstPlace ps d (s + 1) (at + 1)
first_behind ps d s at all place = record { inside = let i = place.inside in omega arith; before = before; after = after }
  where
    one : (e : ℕ × ℕ) → (get_or ps at e).0 ≡ d
    one e = ap (λ (p : ℕ × ℕ). p.0) (get_or_default ps at e (d, s) place.inside ∙ place.is)

    two : (e : ℕ × ℕ) → (get_or ps at e).1 ≡ s
    two e = ap (λ (p : ℕ × ℕ). p.1) (get_or_default ps at e (d, s) place.inside ∙ place.is)

    before : (k : ℕ) (e : ℕ × ℕ) → k < at + 1 → is_before (get_or ps k e) (d, s + 1) ≡ true
    before k e lt = before_from (get_or ps k e) (d, s + 1) (go (cases_eq k at))
      where
        wider : IsBefore (get_or ps k e) (get_or ps at e) → IsBefore (get_or ps k e) (d, s + 1)
        wider (inl h) = inl (let a = one e in omega arith)
        wider (inr h) = inr (let a = one e in let b = two e in (omega (arith, h.0), omega (arith, h.1)))

        go : (k ≡ at) ⊎ (k ≡ at → ⊥) → IsBefore (get_or ps k e) (d, s + 1)
        go (inl same) = inr (rw same (one e), rw same (let b = two e in omega arith))
        go (inr other) = wider (before_tells (get_or ps k e) (get_or ps at e) (all k at e (omega arith) place.inside))

    after : (k : ℕ) (e : ℕ × ℕ) → at + 1 ≤ k → k < length ps → is_before (get_or ps k e) (d, s + 1) ≡ false
    after k e le lt = not_before_from (get_or ps k e) (d, s + 1) (go (before_tells (get_or ps at e) (get_or ps k e) (all at k e (omega arith) lt)))
      where
        go : IsBefore (get_or ps at e) (get_or ps k e) → IsBefore (get_or ps k e) (d, s + 1) → ⊥
        go (inl h) (inl b) = let a = one e in omega arith
        go (inl h) (inr b) = let a = one e in omega (arith, b.0)
        go (inr h) (inl b) = let a = one e in omega (arith, h.0)
        go (inr h) (inr b) = let c = two e in omega (arith, h.1, b.1)

-- where a destination's pairs end, those of the next one begin
pub first_of_next : (ps : List (ℕ × ℕ)) (d from to : ℕ) → IsAscending ps → IsFirstPlace ps d 0 from → from ≤ to → to ≤ length ps → ((k : ℕ) (e : ℕ × ℕ) → from ≤ k → k < to → (get_or ps k e).0 ≡ d)
    → (to < length ps → (e : ℕ × ℕ) → (get_or ps to e).0 ≡ d → ⊥) → IsFirstPlace ps (d + 1) 0 to
first_of_next ps d from to all first le inside own other = record { inside = inside; before = before; after = after }
  where
    before : (k : ℕ) (e : ℕ × ℕ) → k < to → is_before (get_or ps k e) (d + 1, 0) ≡ true
    before k e lt = before_from (get_or ps k e) (d + 1, 0) (go (cases_lt k from))
      where
        lower : IsBefore (get_or ps k e) (d, 0) → IsBefore (get_or ps k e) (d + 1, 0)
        lower (inl h) = inl (omega arith)
        lower (inr h) = inl (omega (arith, h.0))

        go : (k < from) ⊎ (from ≤ k) → IsBefore (get_or ps k e) (d + 1, 0)
        go (inl h) = lower (before_tells (get_or ps k e) (d, 0) (first.before k e h))
        go (inr h) = inl (let a = own k e h lt in omega arith)

    above : (k : ℕ) (e : ℕ × ℕ) → to ≤ k → k < length ps → d < (get_or ps k e).0
    above k e le' lt = go (not_before_tells (get_or ps to e) (d, 0) (first.after to e le (omega arith))) (cases_eq to k)
      where
        later : d < (get_or ps to e).0 → IsBefore (get_or ps to e) (get_or ps k e) → d < (get_or ps k e).0
        later h (inl b) = omega arith
        later h (inr b) = omega (arith, b.0)

        go : (d < (get_or ps to e).0) ⊎ (((get_or ps to e).0 ≡ d) × (0 ≤ (get_or ps to e).1)) → (to ≡ k) ⊎ (to ≡ k → ⊥) → d < (get_or ps k e).0
        go (inr h) c = absurd (other (omega arith) e h.0)
        go (inl h) (inl same) = rw (← same) h
        go (inl h) (inr different) = later h (before_tells (get_or ps to e) (get_or ps k e) (all to k e (omega arith) lt))

    after : (k : ℕ) (e : ℕ × ℕ) → to ≤ k → k < length ps → is_before (get_or ps k e) (d + 1, 0) ≡ false
    after k e le' lt = not_before_from (get_or ps k e) (d + 1, 0) go
      where
        go : IsBefore (get_or ps k e) (d + 1, 0) → ⊥
        go (inl b) = let a = above k e le' lt in omega arith
        go (inr b) = omega (arith, b.1)

-- of each region, the places of the first n pairs of which it is the source
pub record ArePlacesUpTo (m : MoveTable) (n : ℕ) (readers : List Readers) : Type 0 where
  pub room : length readers ≡ region_count m
  pub each : (s : ℕ) → s < region_count m → AreReaders m.pairs n s (slice_index_or readers s Nobody)

pub no_readers : (ps : List (ℕ × ℕ)) (s : ℕ) → AreReaders ps 0 s Nobody
no_readers ps s =
    record {
      number = refl;
      inside = λ k listed. absurd listed;
      source = λ k d listed. absurd listed;
      all = λ k d lt is. absurd (omega arith);
    }

-- a place more is listed
joined_lists : (readers : Readers) (n k : ℕ) → number_of readers ≤ 1 → Lists (joined readers n) k → Lists readers k ⊎ (k ≡ n)
joined_lists Nobody n k few listed = inr listed
joined_lists (One i) n k few listed = listed
joined_lists (Two i j) n k few listed = absurd (omega arith)

lists_before : (readers : Readers) (n k : ℕ) → number_of readers ≤ 1 → Lists readers k → Lists (joined readers n) k
lists_before Nobody n k few listed = absurd listed
lists_before (One i) n k few listed = inl listed
lists_before (Two i j) n k few listed = absurd (omega arith)

lists_last : (readers : Readers) (n : ℕ) → number_of readers ≤ 1 → Lists (joined readers n) n
lists_last Nobody n few = refl
lists_last (One i) n few = inr refl
lists_last (Two i j) n few = absurd (omega arith)

joined_number : (readers : Readers) (n : ℕ) → number_of readers ≤ 1 → number_of (joined readers n) ≡ number_of readers + 1
joined_number Nobody n few = refl
joined_number (One i) n few = refl
joined_number (Two i j) n few = absurd (omega arith)

-- one pair more, of which this region is the source
pub one_reader_more : (ps : List (ℕ × ℕ)) (n s : ℕ) (readers : Readers) → n < length ps → ((d : ℕ × ℕ) → (get_or ps n d).1 ≡ s) → number_of readers ≤ 1 → AreReaders ps n s readers
    → AreReaders ps (n + 1) s (joined readers n)
one_reader_more ps n s readers lt is few before =
    record {
      number = joined_number readers n few ∙ (ap (λ (c : ℕ). c + 1) before.number ∙ sym (count_by_more_yes (has_source s) ps n (0, 0) lt (eq-eqb s (get_or ps n (0, 0)).1 (sym (is (0, 0))))));
      inside = λ k listed. inside k (joined_lists readers n k few listed);
      source = λ k d listed. source k d (joined_lists readers n k few listed);
      all = λ k d k_n source_is. all k d k_n source_is (cases_eq k n);
    }
  where
    inside : (k : ℕ) → Lists readers k ⊎ (k ≡ n) → k < n + 1
    inside k (inl listed) = let h = before.inside k listed in omega arith
    inside k (inr same) = omega arith

    source : (k : ℕ) (d : ℕ × ℕ) → Lists readers k ⊎ (k ≡ n) → (get_or ps k d).1 ≡ s
    source k d (inl listed) = before.source k d listed
    source k d (inr same) = rw same (is d)

    all : (k : ℕ) (d : ℕ × ℕ) → k < n + 1 → (get_or ps k d).1 ≡ s → (k ≡ n) ⊎ (k ≡ n → ⊥) → Lists (joined readers n) k
    all k d k_n source_is (inl same) = subst (λ (j : ℕ). Lists (joined readers n) j) (sym same) (lists_last readers n few)
    all k d k_n source_is (inr other) = lists_before readers n k few (before.all k d (omega arith) source_is)

-- one pair more, of another source
pub no_reader_more : (ps : List (ℕ × ℕ)) (n s : ℕ) (readers : Readers) → n < length ps → ((d : ℕ × ℕ) → s ≡ (get_or ps n d).1 → ⊥) → AreReaders ps n s readers → AreReaders ps (n + 1) s readers
no_reader_more ps n s readers lt other before =
    record {
      number = before.number ∙ sym (count_by_more_no (has_source s) ps n (0, 0) lt (ne_eqb s (get_or ps n (0, 0)).1 (other (0, 0))));
      inside = λ k listed. let h = before.inside k listed in omega arith;
      source = before.source;
      all = λ k d k_n source_is. all k d k_n source_is (cases_eq k n);
    }
  where
    all : (k : ℕ) (d : ℕ × ℕ) → k < n + 1 → (get_or ps k d).1 ≡ s → (k ≡ n) ⊎ (k ≡ n → ⊥) → Lists readers k
    all k d k_n source_is (inl same) = absurd (other d (sym (rw same at source_is)))
    all k d k_n source_is (inr different) = before.all k d (omega arith) source_is

-- where no listed place has the destination, there is no such pair
pub no_place : (ps : List (ℕ × ℕ)) (d s : ℕ) (readers : Readers) → AreReaders ps (length ps) s readers → ((k : ℕ) → Lists readers k → (get_or ps k (0, 0)).0 ≡ d → ⊥) → list_any (is_pair d s) ps ≡ false
no_place ps d s readers are none =
    false_from_ne_true (list_any (is_pair d s) ps) (λ e.
    let p : IsPlaced ps d s = placed ps d s e in
    none p.at (are.all p.at (0, 0) p.inside (p.second (0, 0))) (p.first (0, 0)))

-- a region that there isn't is no pair's source
pub no_readers_outside : (m : MoveTable) (s : ℕ) → IsMoveTable m → region_count m ≤ s → AreReaders m.pairs (length m.pairs) s Nobody
no_readers_outside m s table outside =
    record {
      number = sym (count_by_none (has_source s) (take (length m.pairs) m.pairs) (λ k d lt. none k d (rw (take_all (length m.pairs) m.pairs (omega arith)) at lt)));
      inside = λ k listed. absurd listed;
      source = λ k d listed. absurd listed;
      all = λ k d lt is. absurd (let h = (table.slide k d lt).1 in omega arith);
    }
  where
    none : (k : ℕ) (d : ℕ × ℕ) → k < length m.pairs → has_source s (get_or (take (length m.pairs) m.pairs) k d) ≡ false
    none k d lt = rw (take_all (length m.pairs) m.pairs (omega arith)) (ne_eqb s (get_or m.pairs k d).1 (λ is. let h = (table.slide k d lt).1 in omega arith))

-- each entry of an index has the readers of its region, and one out of range has none
pub entry_are : (m : MoveTable) (s : ℕ) (first : List ℕ) (readers : List Readers) → IsIndexed m first readers → AreReaders m.pairs (length m.pairs) s (slice_index_or readers s Nobody)
entry_are m s first readers kept = go (cases_lt s (region_count m))
  where
    go : (s < region_count m) ⊎ (region_count m ≤ s) → AreReaders m.pairs (length m.pairs) s (slice_index_or readers s Nobody)
    go (inl lt) = kept.reader_places.each s lt
    go (inr le) = rw (get_or_past readers s Nobody (rw kept.reader_places.room le)) (no_readers_outside m s kept.table le)

-- a pair more of all
pub reader_places_more : (m : MoveTable) (n s : ℕ) (readers : List Readers) → IsMoveTable m → n < length m.pairs → ((d : ℕ × ℕ) → (get_or m.pairs n d).1 ≡ s) → ArePlacesUpTo m n readers
    → ArePlacesUpTo m (n + 1) (slice_set readers s (joined (slice_index_or readers s Nobody) n))
reader_places_more m n s readers table lt is before = record { room = length-set readers s (joined (slice_index_or readers s Nobody) n) ∙ before.room; each = λ t inside. go t inside (cases_eq t s) }
  where
    few : number_of (slice_index_or readers s Nobody) ≤ 1
    few =
        let here = before.each s (let h = (table.slide n (0, 0) lt).1 in let e = is (0, 0) in omega arith) in
        let number = here.number in
        let step = count_by_more_yes (has_source s) m.pairs n (0, 0) lt (eq-eqb s (get_or m.pairs n (0, 0)).1 (sym (is (0, 0)))) in
        let part = count_by-take (has_source s) m.pairs (n + 1) in
        let two = table.two s in
        omega arith

    go : (t : ℕ) → t < region_count m → (t ≡ s) ⊎ (t ≡ s → ⊥) → AreReaders m.pairs (n + 1) t (slice_index_or (slice_set readers s (joined (slice_index_or readers s Nobody) n)) t Nobody)
    go t inside (inl same) =
        let s_inside : s < region_count m = omega arith in
        rw (same, get_or-set_same readers s (joined (slice_index_or readers s Nobody) n) Nobody (rw before.room s_inside)) (one_reader_more m.pairs n s (slice_index_or readers s Nobody) lt is few (before.each s s_inside))
    go t inside (inr other) = rw (get_or-set_other readers s t (joined (slice_index_or readers s Nobody) n) Nobody other) (no_reader_more m.pairs n t (slice_index_or readers t Nobody) lt (λ d e. other (e ∙ is d)) (before.each t inside))

-- what holds if there is no result
pub if_none : {X P Q : Type 0} (o : Option X) → (P → Q) → IfNone o P → IfNone o Q
if_none None f h = f h
if_none (Some x) f h = tt

pub if_none_or : {X P Q R : Type 0} (a b : Option X) → (P → Q → R) → IfNone a P → IfNone b Q → IfNone (option_or a b) R
if_none_or None None f p q = f p q
if_none_or None (Some y) f p q = tt
if_none_or (Some x) b f p q = tt
