-- The reachable addresses are the least that are closed.
use Rattle.std.proofs.Common.{◌≡◌, ◌⊎◌, ℕ, zero, suc, ◌≤◌, ◌<◌, inl, inr, Bool, true, false, ◌||◌, List, length, refl, sym, ◌∙◌, ap, subst, arith, eqb}
use Rattle.std.proofs.lemmas.Bool.{eq-eqb, eqb-true, or_left, or_right, or_cases}
use Rattle.std.specs.Prelude.{filter}
use Rattle.std.specs.List.{list_any, range_with_len}
use Rattle.object_heap.specs.HeapImage.{HeapImage, heap_words, leads_to, refers_to, with_referred, reached_in, reachable}
use Rattle.object_heap.specs.Reachable.{is_listed, IsClosed}
use Rattle.object_heap.proofs.Lemmas.Listed.{listed_filter, listed_filter-back, filter_same, filter_grows, filter_short, any_listed, listed_one}

module _ (image : HeapImage) (roots : List ℕ) where
  abbrev N : ℕ
  N = heap_words image

  -- the test by which the addresses are kept that are reached in n steps
  abbrev kept : ℕ → ℕ → Bool
  kept zero b = list_any (λ w. leads_to w b) roots
  kept (suc n) b = list_any (λ a. eqb b a || refers_to image a b) (reached_in image roots n)

  reached_is : (n : ℕ) → reached_in image roots n ≡ filter (kept n) (range_with_len 0 N)
  reached_is zero = refl
  reached_is (suc n) = refl

  reached-back : (n b : ℕ) → is_listed (reached_in image roots n) b ≡ true → (b < N) × (kept n b ≡ true)
  reached-back n b h =
      let at = listed_filter-back (kept n) 0 N b (subst (λ xs. is_listed xs b ≡ true) (reached_is n) h) in
      (omega arith, at.2)

  reached-from : (n b : ℕ) → b < N → kept n b ≡ true → is_listed (reached_in image roots n) b ≡ true
  reached-from n b l h = subst (λ xs. is_listed xs b ≡ true) (sym (reached_is n)) (listed_filter (kept n) 0 N b (omega arith) (omega arith) h)

  -- what is reached stays
  stays : (n b : ℕ) → is_listed (reached_in image roots n) b ≡ true → is_listed (reached_in image roots (suc n)) b ≡ true
  stays n b h =
      let inside = (reached-back n b h).0 in
      reached-from (suc n) b inside (any_listed (λ a. eqb b a || refers_to image a b) (reached_in image roots n) b h (or_left (eqb b b) (refers_to image b b) (eq-eqb b b refl)))

  kept_stays : (n b : ℕ) → b < N → kept n b ≡ true → kept (suc n) b ≡ true
  kept_stays n b l h = (reached-back (suc n) b (stays n b (reached-from n b l h))).1

  grows : (n : ℕ) → (reached_in image roots n ≡ reached_in image roots (suc n)) ⊎ (length (reached_in image roots n) < length (reached_in image roots (suc n)))
  grows n = subst (λ xs. (xs ≡ reached_in image roots (suc n)) ⊎ (length xs < length (reached_in image roots (suc n)))) (sym (reached_is n)) (filter_grows (kept n) (kept (suc n)) 0 N (λ a l m h. kept_stays n a (omega arith) h))

  -- nothing more is reached, or there are more than n of them
  settled : (n : ℕ) → (reached_in image roots n ≡ reached_in image roots (suc n)) ⊎ (n < length (reached_in image roots (suc n)))
  settled zero = elim (grows zero) [
    | inl same ↦ inl same
    | inr less ↦ inr (omega arith)
  ]
  settled (suc n) = elim (settled n) [
    | inl same ↦ inl (ap (with_referred image) same)
    | inr many ↦ elim (grows (suc n)) [
      | inl same ↦ inl same
      | inr less ↦ inr (omega arith)
    ]
  ]

  -- with as many steps as there are words nothing more is reached
  at_end : reached_in image roots N ≡ reached_in image roots (suc N)
  at_end = elim (settled N) [
    | inl same ↦ same
    | inr many ↦
        let few = filter_short (kept (suc N)) N in
        let no : ⊥ = omega (arith, many, few, ap length (reached_is (suc N))) in
        absurd no
  ]

  first_stay : (n b : ℕ) → is_listed (reached_in image roots zero) b ≡ true → is_listed (reached_in image roots n) b ≡ true
  first_stay zero b h = h
  first_stay (suc n) b h = stays n b (first_stay n b h)

  pub reachable-below : (b : ℕ) → is_listed (reachable image roots) b ≡ true → b < heap_words image
  unfolding reachable
  reachable-below b h = (reached-back N b h).0

  pub reachable-IsClosed : IsClosed image roots (is_listed (reachable image roots))
  unfolding reachable
  reachable-IsClosed = record {
    from_roots = λ b l h. first_stay N b (reached-from zero b l h);
    from_objects = λ a b h refers l.
        subst (λ xs. is_listed xs b ≡ true) (sym at_end) (reached-from (suc N) b l (any_listed (λ c. eqb b c || refers_to image c b) (reached_in image roots N) a h (or_right (eqb b a) (refers_to image a b) refers)));
  }

  reached_pass : (passes : ℕ → Bool) → IsClosed image roots passes → (n b : ℕ) → is_listed (reached_in image roots n) b ≡ true → passes b ≡ true
  reached_pass passes closed zero b h = let at = reached-back zero b h in closed.from_roots b at.0 at.1
  reached_pass passes closed (suc n) b h =
      let at = reached-back (suc n) b h in
      let one = listed_one (λ a. eqb b a || refers_to image a b) (reached_in image roots n) at.1 in
      let a : ℕ = one.0 in
      let before : passes a ≡ true = reached_pass passes closed n a one.1 in
      elim (or_cases (eqb b a) (refers_to image a b) one.2) [
        | inl same ↦ subst (λ c. passes c ≡ true) (sym (eqb-true b a same)) before
        | inr refers ↦ closed.from_objects a b before refers at.0
      ]

  pub reachable-least : (passes : ℕ → Bool) → IsClosed image roots passes → (b : ℕ) → is_listed (reachable image roots) b ≡ true → passes b ≡ true
  unfolding reachable
  reachable-least passes closed b h = reached_pass passes closed N b h

  -- the reachable addresses, by the question whether an address is one
  pub reachable-ascending : reachable image roots ≡ filter (is_listed (reachable image roots)) (range_with_len 0 (heap_words image))
  unfolding reachable
  reachable-ascending =
      reached_is N
      ∙ filter_same (kept N) (is_listed (reached_in image roots N)) 0 N (λ a l m. same a (omega arith))
    where
      same : (a : ℕ) → a < N → kept N a ≡ is_listed (reached_in image roots N) a
      same a l = both (kept N a) (is_listed (reached_in image roots N) a) (reached-from N a l) (λ h. (reached-back N a h).1)
        where
          both : (x y : Bool) → (x ≡ true → y ≡ true) → (y ≡ true → x ≡ true) → x ≡ y
          both true y h k = sym (h refl)
          both false true h k = k refl
          both false false h k = refl

  pub reachable-short : length (reachable image roots) ≤ heap_words image
  unfolding reachable
  reachable-short = let few = filter_short (kept N) N in omega (arith, few, ap length (reached_is N))
