-- What one region more does to a worker's tallies.
use Rattle.std.proofs.Common.{◌≡◌, ℕ, ◌+◌, ◌<◌, ◌≤◌, Bool, cond, List, [], ◌∷◌, length, sym, ap, ◌∙◌, subst, inl, inr, ◌⊎◌, arith}
use Rattle.std.specs.Prelude.{◌==◌, ◌++◌, slice_index_or, count_by}
use Rattle.std.proofs.lemmas.Bool.{eq-eqb, ne_eqb, cases_eq, cases_lt}
use Rattle.std.proofs.lemmas.List.{get_or_append_left, length-append}
use Rattle.std.proofs.Math.Seq.{get_or-append_seam}
use Rattle.scheduler.specs.declared.entry.Entry.{Entry}
use Rattle.scheduler.specs.History.{is_grant}
use Rattle.board_sweep.specs.declared.tally.Tally.{Tally}
use Rattle.board_sweep.specs.Tallies.{Adds, AreTallies, claims_in, completions_in, completes, none}

le_ne : (a b : ℕ) → a ≤ b → (a ≡ b → ⊥) → a < b
le_ne a b le ne = go (cases_lt a b)
  where
    go : (a < b) ⊎ (b ≤ a) → a < b
    go (inl l) = l
    go (inr g) = absurd (ne (omega arith))

below-or-at : (r k : ℕ) → r < k + 1 → (r < k) ⊎ (r ≡ k)
below-or-at r k lt = go (cases_eq r k)
  where
    go : (r ≡ k) ⊎ (r ≡ k → ⊥) → (r < k) ⊎ (r ≡ k)
    go (inl e) = inr e
    go (inr n) = inl (le_ne r k (omega arith) n)

-- a value of one column, for each region so far
one-column : (column : Tally → ℕ) (p : ℕ → Entry → Bool) (k : ℕ) (calls calls' : List Entry) (items : List Tally) (t : Tally)
    → length items ≡ k
    → ((r : ℕ) → r < k → column (slice_index_or items r none) ≡ count_by (p r) calls)
    → ((r : ℕ) → k ≤ r → count_by (p r) calls ≡ 0)
    → ((r : ℕ) → count_by (p r) calls' ≡ count_by (p r) calls + cond {A = ℕ} (r == k) (column t) 0)
    → (r : ℕ) → r < k + 1 → column (slice_index_or (items ++ t ∷ []) r none) ≡ count_by (p r) calls'
one-column column p k calls calls' items t each told ahead adds r lt = go (below-or-at r k lt)
  where
    go : (r < k) ⊎ (r ≡ k) → column (slice_index_or (items ++ t ∷ []) r none) ≡ count_by (p r) calls'
    go (inl l) =
        let other : count_by (p r) calls' ≡ count_by (p r) calls + 0 = adds r ∙ ap (λ (b : Bool). count_by (p r) calls + cond {A = ℕ} b (column t) 0) (ne_eqb r k (λ e. omega arith)) in
        let old : column (slice_index_or items r none) ≡ count_by (p r) calls = told r l in
        let same : column (slice_index_or (items ++ t ∷ []) r none) ≡ column (slice_index_or items r none) = ap column (get_or_append_left items (t ∷ []) none r (omega arith)) in
        omega arith
    go (inr e) =
        let other : count_by (p r) calls' ≡ count_by (p r) calls + column t = adds r ∙ ap (λ (b : Bool). count_by (p r) calls + cond {A = ℕ} b (column t) 0) (eq-eqb r k e) in
        let nothing : count_by (p r) calls ≡ 0 = ahead r (omega arith) in
        let here : column (slice_index_or (items ++ t ∷ []) r none) ≡ column t = ap (λ (i : ℕ). column (slice_index_or (items ++ t ∷ []) i none)) (e ∙ sym each) ∙ ap column (get_or-append_seam items t [] none) in
        omega arith

-- and nothing is done in the regions after
nothing-behind : (p : ℕ → Entry → Bool) (k n : ℕ) (calls calls' : List Entry)
    → ((r : ℕ) → k ≤ r → count_by (p r) calls ≡ 0)
    → ((r : ℕ) → count_by (p r) calls' ≡ count_by (p r) calls + cond {A = ℕ} (r == k) n 0)
    → (r : ℕ) → k + 1 ≤ r → count_by (p r) calls' ≡ 0
nothing-behind p k n calls calls' ahead adds r le =
    let other : count_by (p r) calls' ≡ count_by (p r) calls + 0 = adds r ∙ ap (λ (b : Bool). count_by (p r) calls + cond {A = ℕ} b n 0) (ne_eqb r k (λ e. omega arith)) in
    let nothing : count_by (p r) calls ≡ 0 = ahead r (omega arith) in
    omega arith

-- The regions below k were swept, and now k was.
pub swept-one_more : (k : ℕ) (calls calls' : List Entry) (items items' : List Tally) (t : Tally)
    → AreTallies k calls items
    → ((r : ℕ) → k ≤ r → count_by (is_grant r) calls ≡ 0) × ((r : ℕ) → k ≤ r → count_by (completes r) calls ≡ 0)
    → Adds k t calls calls' → items' ≡ items ++ t ∷ []
    → AreTallies (k + 1) calls' items'
    × ((r : ℕ) → k + 1 ≤ r → count_by (is_grant r) calls' ≡ 0) × ((r : ℕ) → k + 1 ≤ r → count_by (completes r) calls' ≡ 0)
swept-one_more k calls calls' items items' t told ahead adds is = (
  record {
    each = ap length is ∙ (length-append items (t ∷ []) ∙ ap (λ (n : ℕ). n + 1) told.each);
    claims = subst (λ (xs : List Tally). (r : ℕ) → r < k + 1 → claims_in xs r ≡ count_by (is_grant r) calls') (sym is)
        (one-column (λ t. t.claims) is_grant k calls calls' items t told.each told.claims ahead.0 adds.claims);
    completions = subst (λ (xs : List Tally). (r : ℕ) → r < k + 1 → completions_in xs r ≡ count_by (completes r) calls') (sym is)
        (one-column (λ t. t.completions) completes k calls calls' items t told.each told.completions ahead.1 adds.completions);
  },
  nothing-behind is_grant k t.claims calls calls' ahead.0 adds.claims,
  nothing-behind completes k t.completions calls calls' ahead.1 adds.completions,
)
