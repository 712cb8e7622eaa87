-- The sources that a pass with a ticket opens.
use Rattle.std.proofs.Common.{◌≡◌, ℕ, suc, ◌+◌, ◌-◌, ◌<◌, ◌≤◌, Bool, true, false, List, [], ◌∷◌, ◌++◌, length, Option, Some, None, refl, sym, ap, ◌∙◌, subst, true≢false, arith, ne_eqb, eq-eqb}
use Rattle.std.specs.Prelude.{◌||◌, ◌&&◌, ◌==◌, not}
use Rattle.std.proofs.lemmas.Bool.{or_left}
use Rattle.atomic_table.specs.Table.{rest}
use Rattle.scheduler.specs.MoveTable.{MoveTable, IsMoveTable, IsFirstPlace, reads}
use Rattle.claim_board.specs.declared.regions.holding.Holding.{Holding}
use Rattle.claim_board.specs.declared.rule.table_key.TableKey.{TableKey}
use Rattle.claim_board.specs.Slots.{region_slot, first_of_slot}
use Rattle.claim_board.specs.Holds.{pair_slot, still_out, IsHolding, IsReading}
use Rattle.claim_board.proofs.Lemmas.Places.{pair, next_place, place_after, next_destination, not_lower, slides}
use Rattle.claim_board.proofs.Lemmas.Held.{out_next, out_skip}

module _ {A : Type 0} where
  abbrev value_or : A → List (ℕ × A) → A
  value_or d [] = d
  value_or d (c ∷ cs) = c.1

  -- the value in the slot on top
  pub same_top : (x y : A) (i j : ℕ) (cs ds : List (ℕ × A)) → (i, x) ∷ cs ≡ (j, y) ∷ ds → x ≡ y
  same_top x y i j cs ds e = ap (value_or x) e

  pub on_top : (i : ℕ) (x : A) (held cs : List (ℕ × A)) → held ≡ (i, x) ∷ cs → held ≡ (i, x) ∷ rest held
  on_top i x held cs e = e ∙ ap (λ ds. (i, x) ∷ rest ds) (sym e)

pair_is : (q : ℕ × ℕ) (r s : ℕ) → q.0 ≡ r → q.1 ≡ s → q ≡ (r, s)
pair_is q r s a b = λ i. (a i, b i)

-- a source that isn't pending, and isn't drained, isn't read
pub unread : (m : MoveTable) (drained : Bool) (r s : ℕ) → (reads m r s && not drained) ≡ false → drained ≡ false → reads m r s ≡ false
unread m drained r s idle e = go (reads m r s) (ap (λ b. reads m r s && not b) (sym e) ∙ idle)
  where
    go : (b : Bool) → (b && true) ≡ false → b ≡ false
    go true f = f
    go false f = refl

module _ (k : TableKey Holding) (table : IsMoveTable k.moves) (r next at : ℕ) (first : IsFirstPlace k.moves.pairs r next at) where
  -- the next source
  module _ (s : ℕ) (low : next ≤ s) (has : reads k.moves r s ≡ true) (least : (t : ℕ) → next ≤ t → t < s → reads k.moves r t ≡ false) where
    pub is_there : (at < length k.moves.pairs) × ((pair k.moves at).0 ≡ r) × ((pair k.moves at).1 ≡ s)
    is_there = next_place k.moves table r next s at first low has least

    next_out : still_out k r at ≡ (pair_slot k.moves at, first_of_slot k (pair_slot k.moves at)) ∷ still_out k r (suc at)
    next_out = out_next k.moves (first_of_slot k) r at is_there.0 (or_left ((pair k.moves at).0 == r) ((pair k.moves at).1 == r) (eq-eqb (pair k.moves at).0 r is_there.1))

    held_at : (held tail : List (ℕ × Option Holding)) → held ≡ still_out k r at ++ tail → held ≡ (pair_slot k.moves at, first_of_slot k (pair_slot k.moves at)) ∷ (still_out k r (suc at) ++ tail)
    held_at held tail is = is ∙ ap (λ xs. xs ++ tail) next_out

    pub top_is : (held tail : List (ℕ × Option Holding)) → held ≡ still_out k r at ++ tail → held ≡ (pair_slot k.moves at, first_of_slot k (pair_slot k.moves at)) ∷ rest held
    top_is held tail is = on_top (pair_slot k.moves at) (first_of_slot k (pair_slot k.moves at)) held (still_out k r (suc at) ++ tail) (held_at held tail is)

    pub now_reading : (next' at' : ℕ) (held after : List (ℕ × Option Holding)) (x : Option Holding) → IsHolding k r next at held → next' ≡ s + 1 → at' ≡ at + 1 → held ≡ (pair_slot k.moves at, x) ∷ rest held
        → after ≡ (pair_slot k.moves at, None) ∷ rest held → IsReading k r s next' at' x after
    now_reading next' at' held after x h n a value is = record {
      first = subst (λ (q : ℕ). IsFirstPlace k.moves.pairs r next' q) (sym a) (subst (λ (q : ℕ). IsFirstPlace k.moves.pairs r q (at + 1)) (sym n) (place_after k.moves table r next s at first low is_there.0 is_there.1 is_there.2));
      place = at;
      behind = omega arith;
      inside = is_there.0;
      pair = pair_is (pair k.moves at) r s is_there.1 is_there.2;
      value_is = same_top x (first_of_slot k (pair_slot k.moves at)) (pair_slot k.moves at) (pair_slot k.moves at) (rest held) (still_out k r (suc at) ++ (region_slot k.moves r, None) ∷ h.others) (sym value ∙ held_at held ((region_slot k.moves r, None) ∷ h.others) h.held_is);
      others = h.others;
      held_is = is ∙ (ap (λ xs. (pair_slot k.moves at, None) ∷ rest xs) (held_at held ((region_slot k.moves r, None) ∷ h.others) h.held_is)
          ∙ (let e : suc at ≡ at' = omega arith in ap (λ q. (pair_slot k.moves at, None) ∷ (still_out k r q ++ (region_slot k.moves r, None) ∷ h.others)) e));
    }

  -- no source is left
  none_out : ((t : ℕ) → next ≤ t → reads k.moves r t ≡ false) → still_out k r at ≡ []
  none_out none =
      out_skip k.moves (first_of_slot k) r at (length k.moves.pairs) first.inside (omega arith) (λ i low lt. untouched i low lt)
      ∙ (let e : length k.moves.pairs - length k.moves.pairs ≡ 0 = omega arith in ap (Rattle.claim_board.specs.Slots.taken (first_of_slot k) (Rattle.claim_board.specs.Slots.touches k.moves r)) e)
    where
      place' : IsFirstPlace k.moves.pairs (r + 1) 0 at
      place' = next_destination k.moves table r next at first none

      untouched : (i : ℕ) → at ≤ i → i < length k.moves.pairs → ((pair k.moves i).0 == r || (pair k.moves i).1 == r) ≡ false
      untouched i low lt =
          let a = not_lower k.moves table (r + 1) at i place' low lt in
          let b = slides k.moves table i lt in
          ap (λ (x : Bool). x || (pair k.moves i).1 == r) (ne_eqb (pair k.moves i).0 r (λ e. omega arith)) ∙ ne_eqb (pair k.moves i).1 r (λ e. omega arith)

  -- so the region's emptied slot is on top
  pub region_left : (held : List (ℕ × Option Holding)) → IsHolding k r next at held → ((t : ℕ) → next ≤ t → reads k.moves r t ≡ false) → held ≡ (region_slot k.moves r, None) ∷ rest held
  region_left held h none = on_top (region_slot k.moves r) None held h.others (h.held_is ∙ ap (λ xs. xs ++ (region_slot k.moves r, None) ∷ h.others) (none_out none))
