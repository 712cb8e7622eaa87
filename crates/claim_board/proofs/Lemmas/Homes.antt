-- What the words of a closed table tell.
use Rattle.std.proofs.Common.{◌≡◌, ◌⊎◌, ℕ, zero, suc, ◌+◌, ◌<◌, ◌≤◌, Bool, true, false, List, [], ◌∷◌, length, Option, refl, sym, ap, ◌∙◌, inl, inr, arith, nat_lt, true≢false}
use Rattle.std.specs.Prelude.{◌==◌, not, slice_index, slice_index_or}
use Rattle.std.specs.List.Sorted.{IsPartitionPoint, IsPartitionedBy}
use Rattle.std.proofs.lemmas.Bool.{cases_eq, cases_lt, lt-ltb, ltb-true, eq-eqb, false_from_ne_true}
use Rattle.std.proofs.lemmas.List.{get_or_default}
use mathlib.Core.Option.{some, some-ne-none, some-injective}
use lib.ListN.{get_elem?}
use Rattle.scheduler.specs.MoveTable.{MoveTable, IsMoveTable, region_count}
use Rattle.claim_board.specs.declared.regions.places.Places.{Places}
use Rattle.claim_board.specs.declared.regions.holding.Holding.{Holding}
use Rattle.claim_board.specs.Homes.{is_claimed_word, destination_at, IsHome, AreFreed, AreAsWordsSay}
use Rattle.claim_board.specs.Places.{ArePlaces, AreReaders, source_at}
use Rattle.claim_board.specs.Unions.{ChangesOnly, Empties, AreComplete}
use Rattle.claim_board.proofs.Lemmas.Emptying.{one_emptied}
use Rattle.claim_board.proofs.Lemmas.Places.{lower, not_lower}
use Rattle.claim_board.proofs.Lemmas.Uniting.{still_complete}

-- a word that was read
pub word_at : (ws : List ℕ) (i y : ℕ) → get_elem? ws i ≡ some y → slice_index ws i ≡ y
word_at [] i y e = absurd (some-ne-none y (sym e))
word_at (w ∷ ws) zero y e = some-injective w y e
word_at (w ∷ ws) (suc i) y e = word_at ws i y e

-- How the destination of a pair is found: `first` has for each region the first pair whose destination isn't below it.
module _ (m : MoveTable) (table : IsMoveTable m) (places : Places) (are : ArePlaces m places) (p : ℕ) (lt : p < length m.pairs) where
  passes_below : (j : ℕ) → j < region_count m → j ≤ destination_at m p → not (nat_lt p (slice_index places.first.items j)) ≡ true
  passes_below j inside le = ap not (go (cases_lt p (slice_index places.first.items j)))
    where
      go : (p < slice_index places.first.items j) ⊎ (slice_index places.first.items j ≤ p) → nat_lt p (slice_index places.first.items j) ≡ false
      go (inl less) = absurd (let z = lower m table j (slice_index places.first.items j) p (are.first_is j inside) less in omega arith)
      go (inr more) = false_from_ne_true (nat_lt p (slice_index places.first.items j)) (λ e. let z = ltb-true p (slice_index places.first.items j) e in omega arith)

  fails_above : (j : ℕ) → j < region_count m → destination_at m p < j → not (nat_lt p (slice_index places.first.items j)) ≡ false
  fails_above j inside above = ap not (go (cases_lt p (slice_index places.first.items j)))
    where
      go : (p < slice_index places.first.items j) ⊎ (slice_index places.first.items j ≤ p) → nat_lt p (slice_index places.first.items j) ≡ true
      go (inl less) = lt-ltb p (slice_index places.first.items j) less
      go (inr more) = absurd (let z = not_lower m table j (slice_index places.first.items j) p (are.first_is j inside) more lt in omega arith)

  at_default : (j d : ℕ) → j < region_count m → not (nat_lt p (slice_index_or places.first.items j d)) ≡ not (nat_lt p (slice_index places.first.items j))
  at_default j d inside = ap (λ (f : ℕ). not (nat_lt p f)) (get_or_default places.first.items j d 0 (let z = are.first_all in omega arith))

  pub partitions : IsPartitionedBy (λ (f : ℕ). not (nat_lt p f)) places.first.items
  partitions i j d le inside e = go (cases_lt (destination_at m p) j)
    where
      go : (destination_at m p < j) ⊎ (j ≤ destination_at m p) → not (nat_lt p (slice_index_or places.first.items i d)) ≡ true
      go (inl above) = absurd (true≢false (sym e ∙ (at_default j d (let z = are.first_all in omega arith) ∙ fails_above j (let z = are.first_all in omega arith) above)))
      go (inr below) = at_default i d (let z = are.first_all in omega arith) ∙ passes_below i (let z = are.first_all in omega arith) (omega arith)

  pub destination_is : (n : ℕ) → n ≤ length places.first.items → IsPartitionPoint (λ (f : ℕ). not (nat_lt p f) ≡ true) (λ (f : ℕ). not (nat_lt p f) ≡ false) places.first.items n → n ≡ destination_at m p + 1
  destination_is n most point = go (cases_lt n (destination_at m p + 1)) (cases_lt (destination_at m p + 1) n)
    where
      inside : destination_at m p < region_count m
      inside = let h = table.slide p (0, 0) lt in omega (arith, h.0, h.1)

      go : (n < destination_at m p + 1) ⊎ (destination_at m p + 1 ≤ n) → (destination_at m p + 1 < n) ⊎ (n ≤ destination_at m p + 1) → n ≡ destination_at m p + 1
      go (inl less) x = absurd (true≢false (sym (passes_below n (omega (arith, inside)) (omega arith)) ∙ point.1 n 0 (omega arith) (let z = are.first_all in omega (arith, inside))))
      go (inr y) (inl more) = absurd (true≢false (sym (point.0 (destination_at m p + 1) 0 (omega arith) more) ∙ fails_above (destination_at m p + 1) (let z = are.first_all in omega arith) (omega arith)))
      go (inr y) (inr x) = omega arith

-- a region is home if its word and those of its readers say so
pub home : (m : MoveTable) (ws : List ℕ) (r : ℕ) (two : ℕ × ℕ) → AreReaders m r two → is_claimed_word (slice_index ws r) ≡ false
    → (two.0 < length m.pairs → (slice_index ws (destination_at m two.0) == 8) ≡ false) → (two.1 < length m.pairs → (slice_index ws (destination_at m two.1) == 8) ≡ false) → IsHome m ws r
home m ws r two are unclaimed one other = record { unclaimed = unclaimed; readers = λ p lt is e. go p lt is e (cases_eq p two.0) (cases_eq p two.1) }
  where
    go : (p : ℕ) → p < length m.pairs → source_at m p ≡ r → slice_index ws (destination_at m p) ≡ 8 → (p ≡ two.0) ⊎ (p ≡ two.0 → ⊥) → (p ≡ two.1) ⊎ (p ≡ two.1 → ⊥) → ⊥
    go p lt is e (inl same) y = true≢false (sym (eq-eqb (slice_index ws (destination_at m two.0)) 8 (ap (λ (q : ℕ). slice_index ws (destination_at m q)) (sym same) ∙ e)) ∙ one (omega arith))
    go p lt is e (inr apart) (inl same) = true≢false (sym (eq-eqb (slice_index ws (destination_at m two.1)) 8 (ap (λ (q : ℕ). slice_index ws (destination_at m q)) (sym same) ∙ e)) ∙ other (omega arith))
    go p lt is e (inr apart) (inr more) = are.others p lt apart more is

pub not_true : (b : Bool) → not b ≡ true → b ≡ false
not_true true e = absurd (true≢false (sym e))
not_true false e = refl

-- the slots of one region more are emptied
pub one_freed : (m : MoveTable) (n : ℕ) (first now new : List (Option Holding)) (was_left left left' : ℕ → Bool) → AreFreed m n first now was_left left → ChangesOnly m n now new → Empties m n left left' → AreFreed m (n + 1) first new was_left left'
one_freed m n first now new was_left left left' are only empties = record {
  emptied = one_emptied m n was_left left left' are.emptied empties;
  complete = λ r le complete. still_complete m n r now new only (λ e. omega arith) (are.complete r (omega arith) complete);
}

pub none_freed : (m : MoveTable) (first : List (Option Holding)) (was_left : ℕ → Bool) → AreFreed m 0 first first was_left was_left
none_freed m first was_left = record { emptied = record { gone = λ k inside lt. absurd (omega arith); others = λ k le. refl }; complete = λ r le complete. complete }

-- where no region is claimed, all are complete
module _ (m : MoveTable) (ws : List ℕ) (xs : List (Option Holding)) (are : AreAsWordsSay m ws xs) (none_claimed : (r : ℕ) → r < region_count m → is_claimed_word (slice_index ws r) ≡ false) where
  pub all_home : (r : ℕ) → r < region_count m → IsHome m ws r
  all_home r inside = record {
    unclaimed = none_claimed r inside;
    readers = λ p lt is e. true≢false (sym (ap is_claimed_word e) ∙ none_claimed (destination_at m p) (let h = are.table.slide p (0, 0) lt in omega (arith, h.0, h.1)));
  }

  pub all_complete : AreComplete m xs
  all_complete = record { table = are.table; size = are.size; small = are.small; each = λ r inside. are.complete r inside (all_home r inside) }
