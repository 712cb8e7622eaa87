-- How a region is united from its slots.
use Rattle.std.proofs.Common.{◌≡◌, ◌≢◌, ◌⊎◌, ℕ, zero, suc, ◌+◌, ◌<◌, ◌≤◌, Bool, false, cond, List, [], ◌∷◌, ◌++◌, length, Option, Some, None, refl, sym, ap, ◌∙◌, subst, inl, inr, arith, length-set, get_or-set_other, nat_lt}
use Rattle.std.specs.Prelude.{slice_index_or, slice_set, if◌then◌else◌}
use Rattle.std.proofs.lemmas.List.{length-append}
use Rattle.std.proofs.lemmas.Bool.{cases_eq, cases_lt, lt-ltb, ltb-true, false_from_ne_true}
use Rattle.scheduler.specs.MoveTable.{MoveTable, region_count}
use Rattle.claim_board.specs.declared.regions.holding.Holding.{Holding}
use Rattle.claim_board.specs.Slots.{region_slot, all_slots}
use Rattle.claim_board.specs.Holds.{pair_slot}
use Rattle.claim_board.specs.Holdings.{IsSharedOut, IsPartOf, is_moved, parts_of, words_of, in_pair, in_region}
use Rattle.claim_board.specs.Places.{AreReaders, source_at, counted}
use Rattle.claim_board.specs.Sharings.{with_right}
use Rattle.claim_board.specs.Unions.{MayJoin, AreAllParts, IsWhole, IsComplete, ChangesOnly, AreUnited}
use Rattle.claim_board.proofs.Lemmas.Sharing.{long_right, right_else}

pub same_some : {A : Type 0} (x y : A) → Some x ≡ Some y → x ≡ y
same_some x y e = ap (λ o. or_else x o) e
  where
    or_else : {A : Type 0} → A → Option A → A
    or_else d None = d
    or_else d (Some z) = z

at_end : (ws : List (List ℕ)) (w : List ℕ) (k : ℕ) → k ≡ length ws → slice_index_or (ws ++ w ∷ []) k [] ≡ w
at_end [] w zero e = refl
at_end [] w (suc k) e = absurd (omega arith)
at_end (v ∷ ws) w zero e = absurd (omega arith)
at_end (v ∷ ws) w (suc k) e = at_end ws w k (omega arith)

before_end : (ws : List (List ℕ)) (w : List ℕ) (k : ℕ) → k < length ws → slice_index_or (ws ++ w ∷ []) k [] ≡ slice_index_or ws k []
before_end [] w k lt = absurd (omega arith)
before_end (v ∷ ws) w zero lt = refl
before_end (v ∷ ws) w (suc k) lt = before_end ws w k (omega arith)

module _ (m : MoveTable) (r : ℕ) (two : ℕ × ℕ) (are : AreReaders m r two) (old : List (Option Holding)) where
  abbrev opened : List (Option Holding)
  opened = slice_set old (region_slot m r) None

  abbrev one_taken : List (Option Holding)
  one_taken = with_right (length m.pairs) opened two.0 None

  abbrev both_taken : List (Option Holding)
  both_taken = with_right (length m.pairs) one_taken two.1 None

  pub changes_only : (new : List (Option Holding)) → new ≡ both_taken → ChangesOnly m r old new
  changes_only new is = subst (ChangesOnly m r old) (sym is) (record {
    size = long_right m one_taken two.1 None ∙ (long_right m opened two.0 None ∙ length-set old (region_slot m r) None);
    regions = λ q apart. right_else m one_taken two.1 (region_slot m q) None (λ lt e. omega arith) ∙ (right_else m opened two.0 (region_slot m q) None (λ lt e. omega arith)
        ∙ get_or-set_other old (region_slot m r) (region_slot m q) None None (λ e. apart (omega arith)));
    rights = λ p lt apart. right_else m one_taken two.1 (pair_slot m p) None (λ l e. apart (ap (source_at m) (let s : p ≡ two.1 = omega arith in s) ∙ are.second l))
        ∙ (right_else m opened two.0 (pair_slot m p) None (λ l e. apart (ap (source_at m) (let s : p ≡ two.0 = omega arith in s) ∙ are.first l))
        ∙ get_or-set_other old (region_slot m r) (pair_slot m p) None None (λ e. omega arith));
  })

  -- what was in the slots of the readers
  module _ (x one other : Option Holding) (x_is : x ≡ in_region m old r) (one_is : one ≡ (if nat_lt two.0 (length m.pairs) then in_pair m opened two.0 else None)) (other_is : other ≡ (if nat_lt two.1 (length m.pairs) then in_pair m one_taken two.1 else None)) where
    one_there : two.0 < length m.pairs → one ≡ in_pair m old two.0
    one_there lt = one_is ∙ (ap (λ (b : Bool). if b then in_pair m opened two.0 else None) (lt-ltb two.0 (length m.pairs) lt) ∙ get_or-set_other old (region_slot m r) (pair_slot m two.0) None None (λ e. omega arith))

    other_there : two.1 < length m.pairs → other ≡ in_pair m old two.1
    other_there lt =
        other_is ∙ (ap (λ (b : Bool). if b then in_pair m one_taken two.1 else None) (lt-ltb two.1 (length m.pairs) lt)
        ∙ (right_else m opened two.0 (pair_slot m two.1) None (λ l e. (let z = are.ascending lt in omega arith)) ∙ get_or-set_other old (region_slot m r) (pair_slot m two.1) None None (λ e. omega arith)))

    over : (p : ℕ) → length m.pairs ≤ p → nat_lt p (length m.pairs) ≡ false
    over p le = false_from_ne_true (nat_lt p (length m.pairs)) (λ e. let lt = ltb-true p (length m.pairs) e in omega arith)

    module _ (shared : IsSharedOut m r (in_region m old r)) (rights : (p : ℕ) → p < length m.pairs → source_at m p ≡ r → IsPartOf (in_region m old r) (in_pair m old p)) where
      abbrev Joins : Option Holding → ℕ → Type 0
      Joins y p = MayJoin (in_region m old r) y × (parts_of y ≡ counted m p)

      joins : (y : Option Holding) (p : ℕ) → (p < length m.pairs → (y ≡ in_pair m old p) × (source_at m p ≡ r)) → (length m.pairs ≤ p → y ≡ None) → Joins y p
      joins y p there none = go (cases_lt p (length m.pairs))
        where
          go : (p < length m.pairs) ⊎ (length m.pairs ≤ p) → Joins y p
          go (inl lt) =
              let part = rights p lt (there lt).1 in
              subst (λ v. Joins v p) (sym (there lt).0) (inr (part.share, part.same), part.one ∙ sym (ap (λ (b : Bool). cond {A = ℕ} b 1 0) (lt-ltb p (length m.pairs) lt)))
          go (inr le) = subst (λ v. Joins v p) (sym (none le)) (inl refl, sym (ap (λ (b : Bool). cond {A = ℕ} b 1 0) (over p le)))

      first_joins : Joins one two.0
      first_joins = joins one two.0 (λ lt. (one_there lt, are.first lt)) (λ le. one_is ∙ ap (λ (b : Bool). if b then in_pair m opened two.0 else None) (over two.0 le))

      second_joins : Joins other two.1
      second_joins = joins other two.1 (λ lt. (other_there lt, are.second lt)) (λ le. other_is ∙ ap (λ (b : Bool). if b then in_pair m one_taken two.1 else None) (over two.1 le))

      parts_there : AreAllParts (in_region m old r) one other
      parts_there = record {
        original = shared.original;
        same = shared.same;
        first = first_joins.0;
        second = second_joins.0;
        all = let a = first_joins.1 in let b = second_joins.1 in let c = are.number in let d = shared.parts in omega arith;
      }

    pub is_whole : IsComplete m r old → IsWhole x one other
    is_whole (inl moved) = inl (ap is_moved x_is ∙ moved)
    is_whole (inr (shared, rights)) = inr (subst (λ v. AreAllParts v one other) (sym x_is) (parts_there shared rights))

-- what another region's slots leave complete
pub still_complete : (m : MoveTable) (n r : ℕ) (old new : List (Option Holding)) → ChangesOnly m n old new → r ≢ n → IsComplete m r old → IsComplete m r new
still_complete m n r old new only apart (inl moved) = inl (ap is_moved (only.regions r apart) ∙ moved)
still_complete m n r old new only apart (inr (shared, rights)) = inr (
  subst (IsSharedOut m r) (sym (only.regions r apart)) shared,
  λ p lt is. subst (λ v. IsPartOf v (in_pair m new p)) (sym (only.regions r apart)) (subst (IsPartOf (in_region m old r)) (sym (only.rights p lt (λ e. apart (sym is ∙ e)))) (rights p lt is)),
)

pub one_united : (m : MoveTable) (n : ℕ) (first values values' : List (Option Holding)) (words words' : List (List ℕ)) (w : List ℕ) → AreUnited m n first values words → n < region_count m → ChangesOnly m n values values'
    → w ≡ words_of (in_region m values n) → words' ≡ words ++ w ∷ [] → AreUnited m (n + 1) first values' words'
one_united m n first values values' words words' w are inside only is more = record {
  size = only.size ∙ are.size;
  number = ap length more ∙ (length-append words (w ∷ []) ∙ ap (λ k. k + 1) are.number);
  words_are = λ r lt. ap (λ ws. slice_index_or ws r []) more ∙ go r lt (cases_eq r n);
  left = λ r low lt. (still_complete m n r values values' only (λ e. omega arith) (are.left r (omega arith) lt).0, only.regions r (λ e. omega arith) ∙ (are.left r (omega arith) lt).1);
}
  where
    go : (r : ℕ) → r < n + 1 → (r ≡ n) ⊎ (r ≡ n → ⊥) → slice_index_or (words ++ w ∷ []) r [] ≡ words_of (in_region m first r)
    go r lt (inl same) = at_end words w r (same ∙ sym are.number) ∙ (is ∙ (ap words_of (are.left n (omega arith) inside).1 ∙ ap (λ q. words_of (in_region m first q)) (sym same)))
    go r lt (inr other) = before_end words w r (let z = are.number in omega arith) ∙ are.words_are r (omega arith)

pub none_united : (m : MoveTable) (first : List (Option Holding)) → length first ≡ all_slots m → ((r : ℕ) → r < region_count m → IsComplete m r first) → AreUnited m 0 first first []
none_united m first size all = record { size = size; number = refl; words_are = λ r lt. absurd (omega arith); left = λ r low lt. (all r lt, refl) }
