-- Objects in order, which move to addresses in the same order: what lies between two of them.
use Rattle.std.proofs.Common.{◌≡◌, ℕ, zero, suc, ◌+◌, ◌-◌, ◌≤◌, ◌<◌, inl, inr, refl, sym, ◌∙◌, ap, subst, arith}
use Rattle.std.proofs.lemmas.Bool.{cases_lt}
use Rattle.verification.specs.Compared.{behind}

pub behind-zero : (end : ℕ → ℕ) → behind end 0 ≡ 0
unfolding behind
behind-zero end = refl

pub behind-suc : (end : ℕ → ℕ) (i : ℕ) → behind end (suc i) ≡ end i
unfolding behind
behind-suc end i = refl

pub behind-next : (end : ℕ → ℕ) (i j : ℕ) → j ≡ i + 1 → behind end j ≡ end i
behind-next end i zero e = let no : ⊥ = omega (arith, e) in absurd no
behind-next end i (suc j) e = let same : j ≡ i = omega (arith, e) in behind-suc end j ∙ ap end same

-- Of n objects the i-th begins at `at i`, has `size i` words and goes to `place i`. Those that begin below b stay; the
-- others go to b or above, and leave no gap below the top.
pub record ArePlaced (n b top : ℕ) (at size place : ℕ → ℕ) : Type 0 where
  pub some : (i : ℕ) → i < n → 0 < size i
  pub stays : (i : ℕ) → i < n → at i < b → place i ≡ at i
  pub goes : (i : ℕ) → i < n → b ≤ at i → b ≤ place i
  pub ordered : (i k : ℕ) → i < k → k < n → at i + size i ≤ at k
  pub apart : (i k : ℕ) → i < k → k < n → place i + size i ≤ place k
  pub covered : (p : ℕ) → b ≤ p → p < top → (i : ℕ) × (i < n) × (place i ≤ p) × (p < place i + size i)
  pub below : (i : ℕ) → i < n → place i + size i ≤ top
  pub last : b ≤ behind (λ i. at i + size i) n

module _ (n b top : ℕ) (at size place : ℕ → ℕ) (objects : ArePlaced n b top at size place) where
  abbrev pub end : ℕ → ℕ
  end i = place i + size i

  -- none of the first objects ends above
  pub first_ends : (i k : ℕ) → k < i → i ≤ n → end k ≤ behind end i
  first_ends zero k l m = let no : ⊥ = omega (arith, l) in absurd no
  first_ends (suc i) k l m = elim (cases_lt k i) [
    | inl lower ↦
        let apart = objects.apart k i lower (omega (arith, m)) in
        let is = behind-suc end i in
        let some = objects.some i (omega (arith, m)) in
        omega (arith, apart, is, some)
    | inr same ↦
        let one : i ≡ k = omega (arith, l, same) in
        let is = behind-suc end i in
        let two = ap end one in
        omega (arith, is, two)
  ]

  pub behind_low : (i : ℕ) → i < n → behind end i ≤ place i
  behind_low zero l = let is = behind-zero end in omega (arith, is)
  behind_low (suc i) l =
      let is = behind-suc end i in
      let apart = objects.apart i (suc i) (omega arith) l in
      omega (arith, is, apart)

  abbrev Owner : ℕ → Type 0
  Owner p = (i : ℕ) × (i < n) × (place i ≤ p) × (p < end i)

  -- no word goes to an address between two moved objects
  unowned : (i : ℕ) → i < n → (p : ℕ) → behind end i ≤ p → p < place i → Owner p → ⊥
  unowned i l p low high (k, m, from, to) = elim (cases_lt k i) [
    | inl lower ↦ let ends = first_ends i k lower (omega (arith, l)) in omega (arith, ends, low, to)
    | inr rest ↦ elim (cases_lt i k) [
      | inl higher ↦
          let apart = objects.apart i k higher m in
          omega (arith, apart, from, high)
      | inr other ↦
          let one : i ≡ k = omega (arith, rest, other) in
          let two = ap place one in
          omega (arith, two, from, high)
    ]
  ]

  -- so a gap lies below b
  pub gap_low : (i : ℕ) → i < n → behind end i < place i → place i ≤ b
  gap_low i l some = elim (cases_lt b (place i)) [
    | inl high ↦
        let p : ℕ = place i - 1 in
        let below = objects.below i l in
        let size = objects.some i l in
        let q : b ≤ p = omega (arith, high) in
        let r : p < top = omega (arith, below, size, some) in
        let s : behind end i ≤ p = omega (arith, some) in
        let t : p < place i = omega (arith, some) in
        absurd (unowned i l p s t (objects.covered p q r))
    | inr low ↦ low
  ]

  -- an object that is placed below b stays
  pub low_stays : (i : ℕ) → i < n → place i < b → place i ≡ at i
  low_stays i l low = elim (cases_lt (at i) b) [
    | inl stays ↦ objects.stays i l stays
    | inr goes ↦ let no : ⊥ = (let high = objects.goes i l goes in omega (arith, high, low)) in absurd no
  ]

  -- no old word lies in a gap
  pub gap_empty : (i : ℕ) → i < n → (q : ℕ) → behind end i ≤ q → q < place i → (k : ℕ) → k < n → at k ≤ q → q < at k + size k → ⊥
  gap_empty i l q low high k m from to =
      let some : behind end i < place i = omega (arith, low, high) in
      let small = gap_low i l some in
      elim (cases_lt k i) [
        | inl lower ↦
            let ends = first_ends i k lower (omega (arith, l)) in
            let stays = low_stays k m (let w : place k < b = omega (arith, ends, some, small) in w) in
            omega (arith, ends, stays, low, to)
        | inr rest ↦
            let begins : at i ≤ at k = elim (cases_lt i k) [
              | inl higher ↦ let o = objects.ordered i k higher m in omega (arith, o)
              | inr other ↦ let one : i ≡ k = omega (arith, rest, other) in let two = ap at one in omega (arith, two)
            ] in
            let stays = objects.stays i l (let w : at i < b = omega (arith, begins, from, high, small) in w) in
            omega (arith, stays, begins, from, high)
      ]

  -- the word before a gap is of an object, if there is one
  pub gap_begins : (i : ℕ) → i < n → behind end i < place i → 0 < behind end i → (k : ℕ) × (k < n) × (at k ≤ behind end i - 1) × (behind end i - 1 < at k + size k)
  gap_begins zero l some high = let is = behind-zero end in let no : ⊥ = omega (arith, is, high) in absurd no
  gap_begins (suc i) l some high =
      let m : i < n = omega (arith, l) in
      let is = behind-suc end i in
      let small = gap_low (suc i) l some in
      let size_i = objects.some i m in
      let stays = low_stays i m (let w : place i < b = omega (arith, is, some, small) in w) in
      (i, m, omega (arith, is, stays, size_i), omega (arith, is, stays, size_i))

  -- all addresses up to the top are below the end of the last object
  pub top_low : top ≤ behind end n
  top_low = elim (cases_lt (behind end n) top) [
    | inl high ↦
        let owner = objects.covered (behind end n) last high in
        let ends = first_ends n owner.0 owner.1 (omega arith) in
        let no : ⊥ = omega (arith, ends, owner.3) in
        absurd no
    | inr low ↦ low
  ]
    where
      last_of : (m : ℕ) → m ≡ n → b ≤ behind end m
      last_of zero e =
          let is = subst (λ (m : ℕ). b ≤ behind (λ i. at i + size i) m) (sym e) objects.last in
          let zero_is = behind-zero (λ i. at i + size i) in
          omega (arith, is, zero_is)
      last_of (suc m) e =
          let l : m < n = omega (arith, e) in
          let is = subst (λ (k : ℕ). b ≤ behind (λ i. at i + size i) k) (sym e) objects.last in
          let at_is = behind-suc (λ i. at i + size i) m in
          let end_is = behind-suc end m in
          elim (cases_lt (at m) b) [
            | inl stays ↦ let same = objects.stays m l stays in omega (arith, is, at_is, end_is, same)
            | inr goes ↦ let high = objects.goes m l goes in omega (arith, end_is, high)
          ]

      last : b ≤ behind end n
      last = last_of n refl
