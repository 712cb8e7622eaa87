-- How the readers of each region are found.
use Rattle.std.proofs.Common.{◌≡◌, ◌≢◌, ◌⊎◌, ℕ, zero, suc, ◌+◌, ◌<◌, ◌≤◌, Bool, true, false, cond, List, [], ◌∷◌, length, take, sym, ap, ◌∙◌, subst, inl, inr, arith, eq-eqb, ne_eqb, length-set, get_or-set_same, get_or-set_other, nat_lt}
use Rattle.std.specs.Prelude.{◌==◌, slice_index_or, slice_set, count_by, if◌then◌else◌}
use Rattle.std.proofs.lemmas.Bool.{cases_eq, cases_lt, lt-ltb, ltb-true, false_from_ne_true}
use Rattle.std.proofs.lemmas.List.{take_all}
use Rattle.std.proofs.lemmas.List.Sums.{count_by_more_yes, count_by_more_no, sum_by-cons}
use Rattle.scheduler.specs.MoveTable.{MoveTable, IsMoveTable, region_count, has_source}
use Rattle.claim_board.specs.Places.{AreReaders, AreReadersIn, AreAllReadersIn, with_reader, source_at, counted}
use Rattle.claim_board.proofs.Lemmas.Places.{pair}

count_some : (p : ℕ × ℕ → Bool) (ps : List (ℕ × ℕ)) (n : ℕ) → count_by p (take n ps) ≤ count_by p ps
count_some p ps zero = omega arith
count_some p [] (suc n) = omega arith
count_some p (x ∷ ps) (suc n) =
    let l : count_by p (x ∷ take n ps) ≡ cond {A = ℕ} (p x) 1 0 + count_by p (take n ps) = sum_by-cons (λ y. cond (p y) 1 0) x (take n ps) in
    let r : count_by p (x ∷ ps) ≡ cond {A = ℕ} (p x) 1 0 + count_by p ps = sum_by-cons (λ y. cond (p y) 1 0) x ps in
    let h = count_some p ps n in
    omega arith

module _ (m : MoveTable) (table : IsMoveTable m) where
  counts : (p : ℕ) → p < length m.pairs → counted m p ≡ 1
  counts p lt = ap (λ (b : Bool). cond {A = ℕ} b 1 0) (lt-ltb p (length m.pairs) lt)

  counts_none : (p : ℕ) → length m.pairs ≤ p → counted m p ≡ 0
  counts_none p le = ap (λ (b : Bool). cond {A = ℕ} b 1 0) (false_from_ne_true (nat_lt p (length m.pairs)) (λ e. let lt = ltb-true p (length m.pairs) e in omega arith))

  pub no_readers : (s : ℕ) → AreReadersIn m 0 s (length m.pairs, length m.pairs)
  no_readers s = record {
    first_inside = omega arith;
    second_inside = omega arith;
    below = ((λ lt. absurd (omega arith)), (λ lt. absurd (omega arith)));
    ascending = λ lt. absurd (omega arith);
    first = λ lt. absurd (omega arith);
    second = λ lt. absurd (omega arith);
    others = λ p lt. absurd (omega arith);
    number = let z = counts_none (length m.pairs) (omega arith) in omega arith;
  }

  -- a pair of another source
  other_reader : (n s : ℕ) (two : ℕ × ℕ) → n < length m.pairs → source_at m n ≢ s → AreReadersIn m n s two → AreReadersIn m (n + 1) s two
  other_reader n s two lt apart are = record {
    first_inside = are.first_inside;
    second_inside = are.second_inside;
    below = ((λ l. let z = are.below.0 l in omega arith), (λ l. let z = are.below.1 l in omega arith));
    ascending = are.ascending;
    first = are.first;
    second = are.second;
    others = λ p l a b. go p l a b (cases_eq p n);
    number = count_by_more_no (has_source s) m.pairs n (0, 0) lt (ne_eqb s (pair m n).1 (λ e. apart (sym e))) ∙ are.number;
  }
    where
      go : (p : ℕ) → p < n + 1 → p ≢ two.0 → p ≢ two.1 → (p ≡ n) ⊎ (p ≡ n → ⊥) → source_at m p ≢ s
      go p l a b (inl same) = λ e. apart (ap (source_at m) (sym same) ∙ e)
      go p l a b (inr other) = are.others p (omega arith) a b

  -- one more of the same source
  same_reader : (n s : ℕ) (two : ℕ × ℕ) → n < length m.pairs → source_at m n ≡ s → AreReadersIn m n s two → AreReadersIn m (n + 1) s (with_reader (length m.pairs) two n)
  same_reader n s two lt is are = go (cases_eq two.0 (length m.pairs))
    where
      more : count_by (has_source s) (take (n + 1) m.pairs) ≡ count_by (has_source s) (take n m.pairs) + 1
      more = count_by_more_yes (has_source s) m.pairs n (0, 0) lt (eq-eqb s (pair m n).1 (sym is))

      no_second : length m.pairs ≤ two.1
      no_second = test (cases_lt two.1 (length m.pairs))
        where
          test : (two.1 < length m.pairs) ⊎ (length m.pairs ≤ two.1) → length m.pairs ≤ two.1
          test (inr le) = le
          test (inl l) =
              let a = counts two.1 l in
              let b = counts two.0 (let z = are.ascending l in omega arith) in
              let c = are.number in
              let d = count_some (has_source s) m.pairs (n + 1) in
              let e = table.two s in
              let f = more in
              absurd (omega arith)

      apart_from : (x y : ℕ × ℕ) (b : Bool) → (two.0 == length m.pairs) ≡ b → with_reader (length m.pairs) two n ≡ (if b then (n, two.1) else (two.0, n))
      apart_from x y b e = ap (λ (c : Bool). if c then (n, two.1) else (two.0, n)) e

      go : (two.0 ≡ length m.pairs) ⊎ (two.0 ≡ length m.pairs → ⊥) → AreReadersIn m (n + 1) s (with_reader (length m.pairs) two n)
      go (inl none) = subst (AreReadersIn m (n + 1) s) (sym (apart_from two two true (eq-eqb two.0 (length m.pairs) none))) (record {
        first_inside = omega arith;
        second_inside = are.second_inside;
        below = ((λ l. omega arith), (λ l. let z = no_second in absurd (omega arith)));
        ascending = λ l. let z = no_second in absurd (omega arith);
        first = λ l. is;
        second = are.second;
        others = λ p l a b. are.others p (omega arith) (λ e. omega arith) b;
        number = more ∙ (let a = are.number in let b = counts n lt in let c = counts_none two.0 (omega arith) in omega arith);
      })
      go (inr some) = subst (AreReadersIn m (n + 1) s) (sym (apart_from two two false (ne_eqb two.0 (length m.pairs) some))) (record {
        first_inside = are.first_inside;
        second_inside = omega arith;
        below = ((λ l. let z = are.below.0 l in omega arith), (λ l. omega arith));
        ascending = λ l. are.below.0 (let z = are.first_inside in omega arith);
        first = are.first;
        second = λ l. is;
        others = λ p l a b. are.others p (omega arith) a (λ e. let z = no_second in omega arith);
        number = more ∙ (let a = are.number in let b = counts n lt in let c = counts_none two.1 no_second in omega arith);
      })

  pub one_reader_more : (n s : ℕ) (readers : List (ℕ × ℕ)) (two : ℕ × ℕ) → n < length m.pairs → source_at m n ≡ s → two ≡ with_reader (length m.pairs) (slice_index_or readers s (0, 0)) n → AreAllReadersIn m n readers → AreAllReadersIn m (n + 1) (slice_set readers s two)
  one_reader_more n s readers two lt is new are = record { room = length-set readers s two ∙ are.room; each = λ t l. go t l (cases_eq t s) }
    where
      go : (t : ℕ) → t < region_count m → (t ≡ s) ⊎ (t ≡ s → ⊥) → AreReadersIn m (n + 1) t (slice_index_or (slice_set readers s two) t (0, 0))
      go t l (inl same) =
          let l' : s < region_count m = omega arith in
          subst (AreReadersIn m (n + 1) t) (sym (ap (λ q. slice_index_or (slice_set readers s two) q (0, 0)) same ∙ (get_or-set_same readers s two (0, 0) (let z = are.room in omega arith) ∙ new)))
          (subst (λ q. AreReadersIn m (n + 1) q (with_reader (length m.pairs) (slice_index_or readers s (0, 0)) n)) (sym same) (same_reader n s (slice_index_or readers s (0, 0)) lt is (are.each s l')))
      go t l (inr other) = subst (AreReadersIn m (n + 1) t) (sym (get_or-set_other readers s t two (0, 0) other)) (other_reader n t (slice_index_or readers t (0, 0)) lt (λ e. other (sym e ∙ is)) (are.each t l))

  pub all_readers_in : (s : ℕ) (two : ℕ × ℕ) → AreReadersIn m (length m.pairs) s two → AreReaders m s two
  all_readers_in s two are = record {
    first_inside = are.first_inside;
    second_inside = are.second_inside;
    ascending = are.ascending;
    first = are.first;
    second = are.second;
    others = are.others;
    number = ap (count_by (has_source s)) (sym (take_all (length m.pairs) m.pairs (omega arith))) ∙ are.number;
  }
