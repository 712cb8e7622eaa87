-- What the searches of shares say of all items.
use Rattle.std.proofs.Common.{◌≡◌, ℕ, zero, suc, ◌+◌, ◌*◌, ◌<◌, ◌≤◌, List, length, get_or, inl, inr, min, sym, subst, arith}
use Rattle.std.specs.Prelude.{Option, Some, None}
use Rattle.std.specs.Int.{div_ceil}
use Rattle.std.proofs.lemmas.Bool.{cases_lt}
use Rattle.std.proofs.lemmas.Grind.{div_ceil_times}
use Rattle.verification.specs.Difference.{AreAlike, IsLeastDifference}
use Rattle.verification.specs.Searched.{HoldsFrom, FailsFirst, IsFirstIn, AreNone, IsFirstFound}

module _ (A : ℕ → Type 0) where
  pub none : (from to : ℕ) → to ≤ from → HoldsFrom A from to
  none from to h = λ i low high. absurd (let no : ⊥ = omega (arith, low, high, h) in no)

  pub joined : (from mid to : ℕ) → HoldsFrom A from mid → HoldsFrom A mid to → HoldsFrom A from to
  joined from mid to one two = λ i low high. elim (cases_lt i mid) [
    | inl first ↦ one i low first
    | inr second ↦ two i second high
  ]

  pub later : (from mid end to k : ℕ) → from ≤ mid → end ≤ to → HoldsFrom A from mid → FailsFirst A mid end k → FailsFirst A from to k
  later from mid end to k low high one first =
      let behind : mid ≤ k = first.behind in
      let inside : k < end = first.inside in
      record {
        behind = omega (arith, low, behind);
        inside = omega (arith, inside, high);
        fails = first.fails;
        before = joined from mid k one first.before;
      }

  -- one share more
  pub next : (share k n : ℕ) → HoldsFrom A 0 (min (share * k) n) → HoldsFrom A (min (share * k) n) (min (share * k + share) n)
      → HoldsFrom A 0 (min (share * (k + 1)) n)
  next share k n one two =
      let is : min (share * k + share) n ≡ min (share * (k + 1)) n = omega arith in
      subst (HoldsFrom A 0) is (joined 0 (min (share * k) n) (min (share * k + share) n) one two)

  -- of each share of `share` of the first n indices, the first at which A fails
  abbrev pub AreSharesSearched : ℕ → ℕ → List (Option ℕ) → Type 0
  AreSharesSearched share n found = (k : ℕ) → k < length found → IsFirstIn A (min (share * k) n) (min (share * k + share) n) (get_or found k None)

  -- the items of the first k shares, in which none differs
  all_before : (share n : ℕ) (found : List (Option ℕ)) → AreSharesSearched share n found → (k : ℕ) → k ≤ length found → AreNone found k
      → HoldsFrom A 0 (min (share * k) n)
  all_before share n found searched zero l nothing = none 0 (min (share * 0) n) (omega arith)
  all_before share n found searched (suc k) l nothing =
      let before = all_before share n found searched k (omega (arith, l)) (λ j m. nothing j (omega (arith, m))) in
      let here : HoldsFrom A (min (share * k) n) (min (share * k + share) n) =
      subst (IsFirstIn A (min (share * k) n) (min (share * k + share) n)) (nothing k (omega arith)) (searched k (omega (arith, l))) in
      let is : k + 1 ≡ suc k = omega arith in
      subst (λ m. HoldsFrom A 0 (min (share * m) n)) is (next share k n before here)

  -- the first of the indices that were found is the first of all
  of_shares : (share n : ℕ) (found : List (Option ℕ)) → AreSharesSearched share n found → n ≤ share * length found
      → (first : Option ℕ) → IsFirstFound found first → IsFirstIn A 0 n first
  of_shares share n found searched all None nothing =
      let whole : min (share * length found) n ≡ n = omega (arith, all) in
      subst (HoldsFrom A 0) whole (all_before share n found searched (length found) (omega arith) nothing)
  of_shares share n found searched all (Some i) (k, l, is, nothing) =
      later 0 (min (share * k) n) (min (share * k + share) n) n i (omega arith) (omega arith)
      (all_before share n found searched k (omega (arith, l)) nothing)
      (subst (IsFirstIn A (min (share * k) n) (min (share * k + share) n)) is (searched k l))

  -- the same, where the shares were counted from `count` items
  pub of_search : (n count shares share : ℕ) (found : List (Option ℕ)) (first : Option ℕ) → count ≡ n → 0 < shares → share ≡ div_ceil count shares
      → length found ≡ shares → AreSharesSearched share n found → IsFirstFound found first → IsFirstIn A 0 n first
  of_search n count shares share found first count_is some share_is long searched is =
      let times : count ≤ div_ceil count shares * shares = (div_ceil_times count shares some).0 in
      let enough : count ≤ share * length found = subst (λ m. count ≤ share * m) (sym long) (subst (λ s. count ≤ s * shares) (sym share_is) times) in
      of_shares share n found searched (subst (λ m. m ≤ share * length found) count_is enough) first is

-- two tables of numbers
module _ (wanted found : ℕ → ℕ) where
  abbrev pub IsAlike : ℕ → Type 0
  IsAlike k = found k ≡ wanted k

  pub all_alike : (n : ℕ) → HoldsFrom IsAlike 0 n → AreAlike wanted found n
  all_alike n holds = λ k l. holds k (omega arith) l

  pub least : (n i : ℕ) → FailsFirst IsAlike 0 n i → IsLeastDifference wanted found n i
  least n i first = record { inside = first.inside; differs = first.fails; least = λ k l. first.before k (omega arith) l }
