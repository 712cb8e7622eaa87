-- How slots are emptied.
use Rattle.std.proofs.Common.{◌≡◌, ◌≢◌, ◌⊎◌, ℕ, zero, suc, ◌+◌, ◌-◌, ◌^◌, ◌<◌, ◌≤◌, Bool, true, false, List, [], ◌∷◌, length, Option, Some, None, refl, sym, ap, ◌∙◌, subst, inl, inr, set, arith, nat_lt, true≢false, ne_eqb, eq-eqb}
use Rattle.std.specs.Prelude.{◌==◌, ◌&&◌, not, is_some, IsTrue, slice_index_or, if◌then◌else◌}
use Rattle.std.proofs.lemmas.Bool.{cases_eq, cases_lt, lt-ltb, ltb-true, false_from_ne_true}
use mathlib.Core.Option.{some, some-ne-none, some-injective}
use lib.ListN.{get_elem?}
use Rattle.scheduler.specs.MoveTable.{MoveTable, IsMoveTable, region_count}
use Rattle.claim_board.specs.declared.regions.holding.Holding.{Holding}
use Rattle.claim_board.specs.Slots.{region_slot, all_slots}
use Rattle.claim_board.specs.Holds.{pair_slot}
use Rattle.claim_board.specs.Places.{AreReaders, source_at}
use Rattle.claim_board.specs.Holdings.{AreRegions, IsPartOf, is_share, is_original, in_pair, in_region}
use Rattle.claim_board.specs.Unions.{left_in, region_of_slot, AreLeft, Empties, AreEmptied, AreComplete, AreReady}
use Rattle.claim_board.proofs.Lemmas.Places.{source_inside}

-- what is in a slot from which nothing was taken
pub left_value : (xs : List (Option Holding)) (bs : List Bool) (i : ℕ) (y : Option Holding) → get_elem? xs i ≡ some y → slice_index_or bs i false ≡ true → y ≡ slice_index_or (left_in xs bs) i None
left_value [] bs i y e left = absurd (some-ne-none y (sym e))
left_value (x ∷ xs) [] i y e left = absurd (true≢false (sym left))
left_value (x ∷ xs) (true ∷ bs) zero y e left = sym (some-injective x y e)
left_value (x ∷ xs) (false ∷ bs) zero y e left = absurd (true≢false (sym left))
left_value (x ∷ xs) (true ∷ bs) (suc i) y e left = left_value xs bs i y e left
left_value (x ∷ xs) (false ∷ bs) (suc i) y e left = left_value xs bs i y e left

pub left_set : (xs : List (Option Holding)) (bs : List Bool) (i : ℕ) → left_in xs (set bs i false) ≡ set (left_in xs bs) i None
left_set [] bs i = refl
left_set (x ∷ xs) [] zero = refl
left_set (x ∷ xs) [] (suc i) = ap (λ ys. None ∷ ys) (left_set xs [] i)
left_set (x ∷ xs) (true ∷ bs) zero = refl
left_set (x ∷ xs) (false ∷ bs) zero = refl
left_set (x ∷ xs) (true ∷ bs) (suc i) = ap (λ ys. x ∷ ys) (left_set xs bs i)
left_set (x ∷ xs) (false ∷ bs) (suc i) = ap (λ ys. None ∷ ys) (left_set xs bs i)

pub left_all : (xs : List (Option Holding)) (bs : List Bool) → ((k : ℕ) → k < length xs → slice_index_or bs k false ≡ true) → left_in xs bs ≡ xs
left_all [] bs full = refl
left_all (x ∷ xs) [] full = absurd (true≢false (sym (full 0 (omega arith))))
left_all (x ∷ xs) (true ∷ bs) full = ap (λ ys. x ∷ ys) (left_all xs bs (λ k lt. full (suc k) (omega arith)))
left_all (x ∷ xs) (false ∷ bs) full = absurd (true≢false (sym (full 0 (omega arith))))

pub none_beyond : (bs : List Bool) (k : ℕ) → length bs ≤ k → slice_index_or bs k false ≡ false
none_beyond [] k le = refl
none_beyond (b ∷ bs) zero le = absurd (omega arith)
none_beyond (b ∷ bs) (suc k) le = none_beyond bs k (omega arith)

module _ (m : MoveTable) where
  of_pair : (p : ℕ) → p < length m.pairs → region_of_slot m (pair_slot m p) ≡ source_at m p
  of_pair p lt =
      let e : length m.pairs - suc (pair_slot m p) ≡ p = omega arith in
      ap (λ (b : Bool). if b then source_at m (length m.pairs - suc (pair_slot m p)) else pair_slot m p - length m.pairs) (lt-ltb (pair_slot m p) (length m.pairs) (omega arith)) ∙ ap (source_at m) e

  of_region : (r : ℕ) → region_of_slot m (region_slot m r) ≡ r
  of_region r =
      let over : nat_lt (region_slot m r) (length m.pairs) ≡ false = false_from_ne_true (nat_lt (region_slot m r) (length m.pairs)) (λ e. let lt = ltb-true (region_slot m r) (length m.pairs) e in omega arith) in
      let e : region_slot m r - length m.pairs ≡ r = omega arith in
      ap (λ (b : Bool). if b then source_at m (length m.pairs - suc (region_slot m r)) else region_slot m r - length m.pairs) over ∙ e

  -- a slot is that of a pair or that of a region
  abbrev IsSlot : ℕ → Type 0
  IsSlot k = ((p : ℕ) × (p < length m.pairs) × (k ≡ pair_slot m p)) ⊎ ((q : ℕ) × (q < region_count m) × (k ≡ region_slot m q))

  slot_cases : (k : ℕ) → k < all_slots m → IsSlot k
  slot_cases k inside = go (cases_lt k (length m.pairs))
    where
      go : (k < length m.pairs) ⊎ (length m.pairs ≤ k) → IsSlot k
      go (inl lt) = inl (length m.pairs - suc k, omega arith, omega arith)
      go (inr le) = inr (k - length m.pairs, omega arith, omega arith)

  slot_inside : IsMoveTable m → (k : ℕ) → k < all_slots m → region_of_slot m k < region_count m
  slot_inside table k inside = go (slot_cases k inside)
    where
      go : IsSlot k → region_of_slot m k < region_count m
      go (inl (p, lt, e)) = let a = ap (region_of_slot m) e ∙ of_pair p lt in let b = source_inside m table p lt in omega arith
      go (inr (q, lt, e)) = let a = ap (region_of_slot m) e ∙ of_region q in omega arith

  slot_outside : (k : ℕ) → all_slots m ≤ k → region_count m ≤ region_of_slot m k
  slot_outside k le = let e : length m.pairs + (k - length m.pairs) ≡ k = omega arith in let a = ap (region_of_slot m) e in let b = of_region (k - length m.pairs) in omega arith

  pub one_emptied : (n : ℕ) (first now new : ℕ → Bool) → AreEmptied m n first now → Empties m n now new → AreEmptied m (n + 1) first new
  one_emptied n first now new are one = record {
    gone = λ k inside lt. gone_case k inside lt (cases_eq (region_of_slot m k) n);
    others = λ k le. one.others k (λ e. omega arith) ∙ are.others k (omega arith);
  }
    where
      gone_case : (k : ℕ) → k < all_slots m → region_of_slot m k < n + 1 → (region_of_slot m k ≡ n) ⊎ (region_of_slot m k ≡ n → ⊥) → new k ≡ false
      gone_case k inside lt (inl same) = one.gone k inside same
      gone_case k inside lt (inr other) = one.others k other ∙ are.gone k inside (omega arith)

  -- in the end no slot has anything, and there are no others
  pub all_emptied : IsMoveTable m → (n : ℕ) (first now : ℕ → Bool) → n ≡ region_count m → AreEmptied m n first now → (k : ℕ) → (all_slots m ≤ k → first k ≡ false) → now k ≡ false
  all_emptied table n first now all are k outside = go (cases_lt k (all_slots m))
    where
      go : (k < all_slots m) ⊎ (all_slots m ≤ k) → now k ≡ false
      go (inl inside) = are.gone k inside (let z = slot_inside table k inside in omega arith)
      go (inr le) = are.others k (let z = slot_outside k le in omega arith) ∙ outside le

gone_at : (x b : Bool) → b ≡ true → (x && not b) ≡ false
gone_at true b e = ap not e
gone_at false b e = refl

kept_at : (x b : Bool) → b ≡ false → (x && not b) ≡ x
kept_at true b e = ap not e
kept_at false b e = refl

still_gone : (x b : Bool) → x ≡ false → (x && not b) ≡ false
still_gone x b e = ap (λ (y : Bool). y && not b) e

pub region_left : (m : MoveTable) (r n : ℕ) (a : ℕ → Bool) → n ≡ length m.pairs → AreLeft m r a → r < region_count m → IsTrue (a (n + r))
region_left m r n a e left inside = ap (λ (i : ℕ). a (i + r)) e ∙ left (region_slot m r) (omega arith) (of_region m r)

-- The three slots of a region are emptied one after another. n is the number of pairs.
module _ (m : MoveTable) (r : ℕ) (two : ℕ × ℕ) (are : AreReaders m r two) (n : ℕ) (e : n ≡ length m.pairs) (a b : ℕ → Bool) (region_taken : (k : ℕ) → b k ≡ (a k && not (k == n + r))) where
  elsewhere : (p k : ℕ) → (p < length m.pairs → k ≢ pair_slot m p) → (nat_lt p n && k == n - suc p) ≡ false
  elsewhere p k apart = go (nat_lt p n) refl
    where
      go : (t : Bool) → nat_lt p n ≡ t → (t && k == n - suc p) ≡ false
      go true is = let lt = ltb-true p n is in ne_eqb k (n - suc p) (λ same. apart (omega arith) (omega arith))
      go false is = refl

  not_region : (k : ℕ) → k ≢ region_slot m r → b k ≡ a k
  not_region k apart = region_taken k ∙ kept_at (a k) (k == n + r) (ne_eqb k (n + r) (λ same. apart (omega arith)))

  pub first_left : AreLeft m r a → two.0 < n → IsTrue (b (n - suc two.0))
  first_left left lt =
      let inside : two.0 < length m.pairs = omega arith in
      ap (λ (i : ℕ). b (i - suc two.0)) e ∙ (not_region (pair_slot m two.0) (λ same. omega arith) ∙ left (pair_slot m two.0) (omega arith) (of_pair m two.0 inside ∙ are.first inside))

  module _ (c : ℕ → Bool) (first_taken : (k : ℕ) → c k ≡ (b k && not (nat_lt two.0 n && k == n - suc two.0))) where
    not_first : (k : ℕ) → (two.0 < length m.pairs → k ≢ pair_slot m two.0) → c k ≡ b k
    not_first k apart = first_taken k ∙ kept_at (b k) (nat_lt two.0 n && k == n - suc two.0) (elsewhere two.0 k apart)

    pub second_left : AreLeft m r a → two.1 < n → IsTrue (c (n - suc two.1))
    second_left left lt =
        let inside : two.1 < length m.pairs = omega arith in
        ap (λ (i : ℕ). c (i - suc two.1)) e
        ∙ (not_first (pair_slot m two.1) (λ l same. (let z = are.ascending inside in omega arith))
        ∙ (not_region (pair_slot m two.1) (λ same. omega arith) ∙ left (pair_slot m two.1) (omega arith) (of_pair m two.1 inside ∙ are.second inside)))

    module _ (d : ℕ → Bool) (second_taken : (k : ℕ) → d k ≡ (c k && not (nat_lt two.1 n && k == n - suc two.1))) where
      not_second : (k : ℕ) → (two.1 < length m.pairs → k ≢ pair_slot m two.1) → d k ≡ c k
      not_second k apart = second_taken k ∙ kept_at (c k) (nat_lt two.1 n && k == n - suc two.1) (elsewhere two.1 k apart)

      here : (p k : ℕ) → p < length m.pairs → k ≡ pair_slot m p → (nat_lt p n && k == n - suc p) ≡ true
      here p k lt is = ap (λ (t : Bool). t && k == n - suc p) (lt-ltb p n (omega arith)) ∙ eq-eqb k (n - suc p) (omega arith)

      gone_first : (k : ℕ) → c k ≡ false → d k ≡ false
      gone_first k is = second_taken k ∙ still_gone (c k) (nat_lt two.1 n && k == n - suc two.1) is

      gone_region : (k : ℕ) → b k ≡ false → d k ≡ false
      gone_region k is = gone_first k (first_taken k ∙ still_gone (b k) (nat_lt two.0 n && k == n - suc two.0) is)

      of_reader : (k p : ℕ) → p < length m.pairs → k ≡ pair_slot m p → source_at m p ≡ r → (p ≡ two.0) ⊎ (p ≡ two.0 → ⊥) → (p ≡ two.1) ⊎ (p ≡ two.1 → ⊥) → d k ≡ false
      of_reader k p lt is own (inl same) y = gone_first k (first_taken k ∙ gone_at (b k) (nat_lt two.0 n && k == n - suc two.0) (here two.0 k (omega arith) (omega arith)))
      of_reader k p lt is own (inr other) (inl same) = second_taken k ∙ gone_at (c k) (nat_lt two.1 n && k == n - suc two.1) (here two.1 k (omega arith) (omega arith))
      of_reader k p lt is own (inr other) (inr more) = absurd (are.others p lt other more own)

      gone_case : (k : ℕ) → region_of_slot m k ≡ r → IsSlot m k → d k ≡ false
      gone_case k own (inl (p, lt, is)) = of_reader k p lt is (sym (ap (region_of_slot m) is ∙ of_pair m p lt) ∙ own) (cases_eq p two.0) (cases_eq p two.1)
      gone_case k own (inr (q, lt, is)) = let same = sym (ap (region_of_slot m) is ∙ of_region m q) ∙ own in gone_region k (region_taken k ∙ gone_at (a k) (k == n + r) (eq-eqb k (n + r) (omega arith)))

      pub empties : Empties m r a d
      empties = record {
        gone = λ k inside own. gone_case k own (slot_cases m k inside);
        others = λ k apart. not_second k (λ lt is. apart (ap (region_of_slot m) is ∙ (of_pair m two.1 lt ∙ are.second lt)))
            ∙ (not_first k (λ lt is. apart (ap (region_of_slot m) is ∙ (of_pair m two.0 lt ∙ are.first lt))) ∙ not_region k (λ is. apart (ap (region_of_slot m) is ∙ of_region m r)));
      }

-- values from which nothing was taken
module _ (m : MoveTable) (table : IsMoveTable m) (small : all_slots m < 2 ^ 64) (values : List (Option Holding)) (regions : AreRegions m values) where
  some_share : (x : Option Holding) → is_share x ≡ true → is_some x ≡ true
  some_share (Some x) e = refl
  some_share None e = absurd (true≢false (sym e))

  some_original : (x : Option Holding) → is_original x ≡ true → is_some x ≡ true
  some_original (Some x) e = refl
  some_original None e = absurd (true≢false (sym e))

  all_there : (k : ℕ) → k < all_slots m → is_some (slice_index_or values k None) ≡ true
  all_there k inside = go (slot_cases m k inside)
    where
      go : IsSlot m k → is_some (slice_index_or values k None) ≡ true
      go (inl (p, lt, e)) = ap (λ (i : ℕ). is_some (slice_index_or values i None)) e ∙ some_share (in_pair m values p) (regions.rights p lt).share
      go (inr (q, lt, e)) = ap (λ (i : ℕ). is_some (slice_index_or values i None)) e ∙ some_original (in_region m values q) (regions.regions q lt).original

  pub all_complete : AreComplete m values
  all_complete = record {
    table = table;
    size = regions.size;
    small = small;
    each = λ r lt. inr (regions.regions r lt, λ p inside is. subst (λ (s : ℕ). IsPartOf (in_region m values s) (in_pair m values p)) is (regions.rights p inside));
  }

  pub all_ready : AreReady m values (λ k. is_some (slice_index_or values k None))
  all_ready = (all_complete, all_there)

-- slots that are all full
module _ (m : MoveTable) (xs : List (Option Holding)) (bs : List Bool) (n : ℕ) (items : n ≡ length xs) (flags : n ≡ length bs) (full : (k : ℕ) → 0 ≤ k → k < n → slice_index_or bs k false ≡ true) where
  pub left_of_full : left_in xs bs ≡ xs
  left_of_full = left_all xs bs (λ k lt. full k (omega arith) (omega arith))

  pub full_ready : AreComplete m xs → AreReady m (left_in xs bs) (λ k. slice_index_or bs k false)
  full_ready complete = (subst (AreComplete m) (sym left_of_full) complete, λ k inside. full k (omega arith) (let z = complete.size in omega arith))
