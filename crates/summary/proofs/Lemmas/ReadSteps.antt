-- What is left to be read, a region at a time.
use Rattle.std.proofs.Common.{◌≡◌, ℕ, ◌+◌, ◌-◌, ◌≤◌, ◌<◌, inl, inr, Bool, true, false, ◌&&◌, List, [], ◌∷◌, length, get_or, take, drop, refl, sym, ◌∙◌, ap, arith, ltb, length-drop, length-take}
use Rattle.std.proofs.lemmas.Bool.{cases_Bool, cases_lt, and_from, and_parts, lt-ltb, ltb-true, cond-true}
use Rattle.std.proofs.lemmas.List.{get_or-drop, take_all}
use Rattle.std.proofs.lemmas.List.Quantifiers.{position-Some}
use Rattle.std.proofs.lemmas.List.Sums.{fails_before_first}
use Rattle.std.specs.Prelude.{Some, None, position}
use Rattle.std.specs.List.{position_or_len}
use Rattle.summary.specs.Reads.{has_words, goes_below, no_data, sources_below, AreInOrder}
use Rattle.summary.specs.declared.region_data.RegionData.{RegionData}
use Rattle.summary.proofs.Lemmas.Filters.{filter-skip, filter-none, filter-first}

position-None : (p : RegionData → Bool) (xs : List RegionData) (k : ℕ) (d : RegionData) → position p xs ≡ None → k < length xs → p (get_or xs k d) ≡ false
position-None p xs k d e l = elim (cases_lt (position_or_len p xs) (length xs)) [
  | inl found ↦ absurd (some (sym e ∙ cond-true (ltb (position_or_len p xs) (length xs)) (Some (position_or_len p xs)) None (lt-ltb (position_or_len p xs) (length xs) found)))
  | inr missed ↦ fails_before_first p xs k d (omega arith)
]
  where
    some : None ≡ Some (position_or_len p xs) → ⊥
    some h = cc

-- a region without words goes below no end
wordless : (end : ℕ) (region : RegionData) → has_words region ≡ false → goes_below end region ≡ false
wordless end region h = ap (λ b. b && ltb region.destination end) h

-- a region that goes to an end or after goes below no end
beyond : (end : ℕ) (region : RegionData) → end ≤ region.destination → goes_below end region ≡ false
beyond end region h = elim (cases_Bool (goes_below end region)) [
  | inl below ↦
      let both = and_parts (has_words region) (ltb region.destination end) below in
      let less = ltb-true region.destination end both.1 in
      let no : ⊥ = omega arith in absurd no
  | inr other ↦ other
]

module _ (regions : List RegionData) (end next : ℕ) where
  abbrev n : ℕ
  n = length regions

  abbrev rest : List RegionData
  rest = take (n - next) (drop next regions)

  abbrev test : ℕ → Bool
  test s = goes_below end (get_or regions s no_data)

  rest-length : length rest ≡ n - next
  rest-length = omega (arith, length-take (n - next) (drop next regions), length-drop next regions)

  rest-at : (k : ℕ) → get_or rest k no_data ≡ get_or regions (next + k) no_data
  rest-at k = ap (λ (xs : List RegionData). get_or xs k no_data) (take_all (n - next) (drop next regions) (omega (arith, length-drop next regions))) ∙ get_or-drop next regions k no_data

  wordless-at : (q : ℕ) → next ≤ q → has_words (get_or rest (q - next) no_data) ≡ false → test q ≡ false
  wordless-at q l h =
      let at : next + (q - next) ≡ q = omega arith in
      ap (λ m. goes_below end (get_or regions m no_data)) (sym at) ∙ wordless end (get_or regions (next + (q - next)) no_data) (ap has_words (sym (rest-at (q - next))) ∙ h)

  pub none_left : position has_words rest ≡ None → sources_below end next regions ≡ []
  none_left e = filter-none test next (n - next) (λ q l h. wordless-at q l (position-None has_words rest (q - next) no_data e (let long = rest-length in omega arith)))

  -- the first region with words, after i without
  pub record IsNext (i : ℕ) : Type 0 where
    pub inside : next + i < n
    pub words : has_words (get_or regions (next + i) no_data) ≡ true
    pub before : (q : ℕ) → next ≤ q → q < next + i → test q ≡ false

  pub next_is : (i : ℕ) → position has_words rest ≡ Some i → IsNext i
  next_is i e =
      let found = position-Some has_words rest i no_data e in
      let long = rest-length in
      let inside = found.0 in
      record {
        inside = omega arith;
        words = ap has_words (sym (rest-at i)) ∙ found.1;
        before = λ q l h. wordless-at q l (found.2 (q - next) (omega arith));
      }

  pub none_below : (i : ℕ) → AreInOrder regions → IsNext i → end ≤ (get_or regions (next + i) no_data).destination → sources_below end next regions ≡ []
  none_below i ordered is past = filter-none test next (n - next) (λ q l h. elim (cases_lt q (next + i)) [
    | inl less ↦ is.before q l less
    | inr more ↦ let up = ordered.ascending (next + i) q more (omega arith) in beyond end (get_or regions q no_data) (omega arith)
  ])

  pub next_below : (i : ℕ) → IsNext i → (get_or regions (next + i) no_data).destination < end → sources_below end next regions ≡ (next + i) ∷ sources_below end (next + i + 1) regions
  next_below i is below =
      let inside = is.inside in
      filter-skip test i next (n - next) (next + i) (n - (next + i)) refl (omega arith) is.before
      ∙ filter-first test (next + i) (n - (next + i)) (n - (next + i + 1)) (omega arith)
      (and_from (has_words (get_or regions (next + i) no_data)) (ltb (get_or regions (next + i) no_data).destination end) is.words (lt-ltb (get_or regions (next + i) no_data).destination end below))
