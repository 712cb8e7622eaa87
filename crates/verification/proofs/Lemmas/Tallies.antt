-- The differences of two tables, of which one more index is compared.
use Rattle.std.proofs.Common.{◌≡◌, ℕ, zero, suc, ◌+◌, ◌≤◌, ◌<◌, ◌≢◌, inl, inr, Bool, cond, not, List, [], ◌∷◌, ◌++◌, length, sym, ◌∙◌, ap, subst, arith, eqb, add-zero}
use Rattle.std.specs.Prelude.{filter, map, take, min, Option, None, Some, MatchOption, All}
use Rattle.std.proofs.lemmas.Bool.{cases_lt, cond-true, cond-false, eq-eqb, ne_eqb}
use Rattle.std.proofs.lemmas.List.{append-nil, length-append, length-map, length-take, map-append, take_all, take-append-le}
use Rattle.std.proofs.lemmas.List.Elements.{filter-append, All-filter, All-map, All-take}
use Rattle.std.proofs.lemmas.List.FromFn.{get_or-range_with_len, length-range_with_len}
use Rattle.std.specs.List.{range_with_len}
use Rattle.verification.specs.Difference.{AreAlike, IsGreatestDifference}
use Rattle.verification.specs.Tally.{differences, difference_at, IsTally}
use Rattle.verification.specs.declared.difference_tally.OtherWord.{OtherWord}

range_last : (a n : ℕ) → range_with_len a (n + 1) ≡ range_with_len a n ++ (a + n) ∷ []
range_last a zero = ap (λ m. m ∷ []) (sym (add-zero a))
range_last a (suc n) =
    let long : suc n + 1 ≡ suc (n + 1) = omega arith in
    let last : a + 1 + n ≡ a + suc n = omega arith in
    ap (range_with_len a) long ∙ ap (λ xs. a ∷ xs) (range_last (a + 1) n ∙ ap (λ m. range_with_len (a + 1) n ++ m ∷ []) last)

-- one number more
filter_range_more : (p : ℕ → Bool) (n : ℕ) → filter p (range_with_len 0 (n + 1)) ≡ filter p (range_with_len 0 n) ++ cond (p n) (n ∷ []) []
filter_range_more p n =
    let z : 0 + n ≡ n = omega arith in
    ap (filter p) (range_last 0 n ∙ ap (λ m. range_with_len 0 n ++ m ∷ []) z) ∙ filter-append p (range_with_len 0 n) (n ∷ [])

module _ (wanted found : ℕ → ℕ) (p : ℕ) where
  abbrev differs : ℕ → Bool
  differs q = not (eqb (found q) (wanted q))

  abbrev were : List ℕ
  were = differences wanted found p

  same : found p ≡ wanted p → differences wanted found (p + 1) ≡ were
  same e =
      filter_range_more differs p
      ∙ ap (λ (xs : List ℕ). were ++ xs) (cond-false (differs p) (p ∷ []) [] (ap not (eq-eqb (found p) (wanted p) e)))
      ∙ append-nil were

  other : found p ≢ wanted p → differences wanted found (p + 1) ≡ were ++ p ∷ []
  other n =
      filter_range_more differs p
      ∙ ap (λ (xs : List ℕ). were ++ xs) (cond-true (differs p) (p ∷ []) [] (ap not (ne_eqb (found p) (wanted p) n)))

  abbrev pub IsLast : ℕ → Option ℕ → Type 0
  IsLast limit last = MatchOption last (AreAlike wanted found limit) (IsGreatestDifference wanted found limit)

  -- at p they are equal, as below it
  alike_to : (k : ℕ) → k < p + 1 → found p ≡ wanted p → (k < p → found k ≡ wanted k) → found k ≡ wanted k
  alike_to k l e below = elim (cases_lt k p) [
    | inl lower ↦ below lower
    | inr high ↦
        let here : p ≡ k = omega (arith, l, high) in
        ap found (sym here) ∙ e ∙ ap wanted here
  ]

  last_same : (last : Option ℕ) → found p ≡ wanted p → IsLast p last → IsLast (p + 1) last
  last_same None e alike = λ k l. alike_to k l e (λ m. alike k m)
  last_same (Some i) e last =
      let inside = last.inside in
      record {
        inside = omega (arith, inside);
        differs = last.differs;
        greatest = λ k above l. alike_to k l e (λ m. last.greatest k above m);
      }

  last_other : found p ≢ wanted p → IsLast (p + 1) (Some p)
  last_other n = record {
    inside = omega arith;
    differs = n;
    greatest = λ k above l. let no : ⊥ = omega (arith, above, l) in absurd no;
  }

  pub tally_same : (count : ℕ) (first : List OtherWord) (last : Option ℕ) → found p ≡ wanted p → IsTally wanted found p count first last → IsTally wanted found (p + 1) count first last
  tally_same count first last e tally =
      let few = tally.few in
      record {
        few = omega (arith, few);
        counted = tally.counted ∙ ap length (sym (same e));
        listed = tally.listed ∙ ap (λ (xs : List ℕ). map (difference_at wanted found) (take 10 xs)) (sym (same e));
        ended = last_same last e tally.ended;
      }

  -- the number of those listed
  listed_count : (first : List OtherWord) → first ≡ map (difference_at wanted found) (take 10 were) → length first ≡ min 10 (length were)
  listed_count first e = ap length e ∙ length-map (take 10 were) (difference_at wanted found) ∙ length-take 10 were

  pub tally_full : (count : ℕ) (first : List OtherWord) (last : Option ℕ) → found p ≢ wanted p → 10 ≤ length first → IsTally wanted found p count first last → IsTally wanted found (p + 1) (count + 1) first (Some p)
  tally_full count first last n full tally =
      let few = tally.few in
      let long = listed_count first tally.listed in
      let enough : 10 ≤ length were = omega (arith, full, long) in
      record {
        few = omega (arith, few);
        counted = ap (λ m. m + 1) tally.counted ∙ sym (length-append were (p ∷ [])) ∙ ap length (sym (other n));
        listed = tally.listed ∙ ap (map (difference_at wanted found)) (sym (take-append-le 10 were (p ∷ []) enough)) ∙ ap (λ (xs : List ℕ). map (difference_at wanted found) (take 10 xs)) (sym (other n));
        ended = last_other n;
      }

  pub tally_more : (count : ℕ) (first : List OtherWord) (last : Option ℕ) → found p ≢ wanted p → length first < 10 → IsTally wanted found p count first last
      → IsTally wanted found (p + 1) (count + 1) (first ++ difference_at wanted found p ∷ []) (Some p)
  tally_more count first last n room tally =
      let few = tally.few in
      let long = listed_count first tally.listed in
      let short : length were < 10 = omega (arith, room, long) in
      let fits : length were ≤ 10 = omega (arith, short) in
      let longer = length-append were (p ∷ []) in
      let fits_more : length (were ++ p ∷ []) ≤ 10 = omega (arith, short, longer) in
      record {
        few = omega (arith, few);
        counted = ap (λ m. m + 1) tally.counted ∙ sym longer ∙ ap length (sym (other n));
        listed =
            ap (λ (xs : List OtherWord). xs ++ difference_at wanted found p ∷ []) (tally.listed ∙ ap (map (difference_at wanted found)) (take_all 10 were fits))
            ∙ sym (map-append (difference_at wanted found) were (p ∷ []))
            ∙ ap (map (difference_at wanted found)) (sym (take_all 10 (were ++ p ∷ []) fits_more))
            ∙ ap (λ (xs : List ℕ). map (difference_at wanted found) (take 10 xs)) (sym (other n));
        ended = last_other n;
      }

-- the first differences lie below the limit
pub listed_inside : (wanted found : ℕ → ℕ) (limit n : ℕ) (first : List OtherWord) → limit ≤ n → first ≡ map (difference_at wanted found) (take 10 (differences wanted found limit))
    → All (λ (w : OtherWord). w.address < n) first
listed_inside wanted found limit n first fits listed = subst (All (λ (w : OtherWord). w.address < n)) (sym listed)
    (All-map (λ (w : OtherWord). w.address < n) (difference_at wanted found) (take 10 (differences wanted found limit))
    (All-take (λ p. p < n) 10 (differences wanted found limit) (All-filter (λ p. not (eqb (found p) (wanted p))) (λ p. p < n) (range_with_len 0 limit) below)))
  where
    inside : (i m : ℕ) → i < m → m ≡ limit → 0 + i < n
    inside i m l e = omega (arith, l, e, fits)

    below : All (λ p. p < n) (range_with_len 0 limit)
    below i d l = subst (λ p. p < n) (sym (get_or-range_with_len 0 limit i d (subst (λ m. i < m) (length-range_with_len 0 limit) l))) (inside i (length (range_with_len 0 limit)) l (length-range_with_len 0 limit))
