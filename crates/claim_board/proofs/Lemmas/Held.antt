-- What a seat holds once a claim is granted.
use Rattle.std.proofs.Common.{◌≡◌, ℕ, zero, suc, ◌+◌, ◌-◌, ◌<◌, ◌≤◌, Bool, true, false, cond, List, [], ◌∷◌, ◌++◌, length, refl, ap, ◌∙◌, eq-eqb, ne_eqb, arith, nat_lt}
use Rattle.std.specs.Prelude.{◌||◌, ◌==◌, if◌then◌else◌}
use Rattle.std.proofs.lemmas.Bool.{lt-ltb, ltb-true, false_from_ne_true}
use Rattle.std.proofs.lemmas.List.{append-nil}
use Rattle.atomic_table.specs.Table.{carried_after, keeps}
use Rattle.scheduler.specs.declared.event.Event.TheVariants.{Claim}
use Rattle.scheduler.specs.MoveTable.{MoveTable, region_count}
use Rattle.claim_board.specs.Slots.{pair_at, region_slot, all_slots, touches, take_one, take_below, take_next, taken, act_of}
use Rattle.claim_board.specs.Holds.{pair_slot}
use Rattle.claim_board.proofs.Lemmas.Places.{pair}

module _ {S : Type 0} (first : ℕ → S) where
  held_after : (c : List (ℕ × S)) (p : ℕ → Bool) (n : ℕ) → carried_after c (take_below first p n) ≡ taken first p n ++ c
  held_after c p zero = refl
  held_after c p (suc n) = go (p n) (held_after c p n)
    where
      go : (b : Bool) → carried_after c (take_below first p n) ≡ taken first p n ++ c → carried_after c (take_one first b (take_below first p n) n) ≡ take_next first b n (taken first p n) ++ c
      go true e = ap (λ xs. (n, first n) ∷ xs) e
      go false e = e

  -- slots that don't pass are skipped
  skipped : (p : ℕ → Bool) (n d : ℕ) → ((k : ℕ) → n ≤ k → k < n + d → p k ≡ false) → taken first p (n + d) ≡ taken first p n
  skipped p n zero none = let e : n + 0 ≡ n = omega arith in ap (taken first p) e
  skipped p n (suc d) none =
      let e : n + suc d ≡ suc (n + d) = omega arith in
      ap (taken first p) e ∙ (ap (λ b. take_next first b (n + d) (taken first p (n + d))) (none (n + d) (omega arith) (omega arith)) ∙ skipped p n d (λ k low high. none k low (omega arith)))

  on_top : (p : ℕ → Bool) (n : ℕ) → p n ≡ true → taken first p (suc n) ≡ (n, first n) ∷ taken first p n
  on_top p n is = ap (λ b. take_next first b n (taken first p n)) is

module _ {S : Type 0} (m : MoveTable) (first : ℕ → S) (r : ℕ) where
  touch_region : (k : ℕ) → length m.pairs ≤ k → touches m r k ≡ (k - length m.pairs == r)
  touch_region k high =
      ap (λ (b : Bool). if b then ((pair_at m k).0 == r || (pair_at m k).1 == r) else (k - length m.pairs == r))
      (false_from_ne_true (nat_lt k (length m.pairs)) (λ e. let lt = ltb-true k (length m.pairs) e in omega arith))

  -- the pair of a slot
  pub touch_pair : (p : ℕ) → p < length m.pairs → touches m r (pair_slot m p) ≡ ((pair m p).0 == r || (pair m p).1 == r)
  touch_pair p lt =
      ap (λ (b : Bool). if b then ((pair_at m (pair_slot m p)).0 == r || (pair_at m (pair_slot m p)).1 == r) else (pair_slot m p - length m.pairs == r)) (lt-ltb (pair_slot m p) (length m.pairs) (omega arith))
      ∙ (let e : length m.pairs - suc (pair_slot m p) ≡ p = omega arith in ap (λ i. (pair m i).0 == r || (pair m i).1 == r) e)

  -- the region's slot is on top of those of the pairs
  region_on_top : r < region_count m → taken first (touches m r) (all_slots m) ≡ (region_slot m r, first (region_slot m r)) ∷ taken first (touches m r) (length m.pairs)
  region_on_top lt =
      let above : all_slots m ≡ suc (region_slot m r) + (region_count m - suc r) = omega arith in
      ap (taken first (touches m r)) above
      ∙ (skipped first (touches m r) (suc (region_slot m r)) (region_count m - suc r) (λ k low high. touch_region k (omega arith) ∙ ne_eqb (k - length m.pairs) r (λ e. omega arith))
      ∙ (on_top first (touches m r) (region_slot m r) (touch_region (region_slot m r) (omega arith) ∙ eq-eqb (region_slot m r - length m.pairs) r (omega arith))
      ∙ ap (λ xs. (region_slot m r, first (region_slot m r)) ∷ xs) (skipped first (touches m r) (length m.pairs) r (λ k low high. touch_region k low ∙ ne_eqb (k - length m.pairs) r (λ e. omega arith)))))

  -- what a granted claim leaves with the seat
  pub claim_holds : (n found : ℕ) (held after : List (ℕ × S)) → held ≡ [] → after ≡ carried_after held (act_of m n first (Claim r) found) → found ≡ 0 → n ≡ all_slots m → r < region_count m
      → after ≡ (region_slot m r, first (region_slot m r)) ∷ taken first (touches m r) (length m.pairs)
  claim_holds n found held after bare is none all lt =
      is ∙ (ap (λ (c : List (ℕ × S)). carried_after c (act_of m n first (Claim r) found)) bare
      ∙ (ap (λ (b : Bool). carried_after [] (cond b (take_below first (touches m r) n) keeps)) (eq-eqb found 0 none)
      ∙ (ap (λ k. carried_after [] (take_below first (touches m r) k)) all
      ∙ (held_after first [] (touches m r) (all_slots m) ∙ (append-nil (taken first (touches m r) (all_slots m)) ∙ region_on_top lt)))))

  pub refused_holds : (n found : ℕ) (held after : List (ℕ × S)) → held ≡ [] → after ≡ carried_after held (act_of m n first (Claim r) found) → (found ≡ 0 → ⊥) → after ≡ []
  refused_holds n found held after bare is some_found =
      is ∙ (ap (λ (c : List (ℕ × S)). carried_after c (act_of m n first (Claim r) found)) bare
      ∙ ap (λ (b : Bool). carried_after [] (cond b (take_below first (touches m r) n) keeps)) (ne_eqb found 0 some_found))

  -- the slots of the pairs from index p on that the claim took
  abbrev from : ℕ → List (ℕ × S)
  from p = taken first (touches m r) (length m.pairs - p)

  pub out_next : (p : ℕ) → p < length m.pairs → ((pair m p).0 == r || (pair m p).1 == r) ≡ true → from p ≡ (pair_slot m p, first (pair_slot m p)) ∷ from (suc p)
  out_next p lt is = let e : length m.pairs - p ≡ suc (pair_slot m p) = omega arith in ap (taken first (touches m r)) e ∙ on_top first (touches m r) (pair_slot m p) (touch_pair p lt ∙ is)

  pub out_skip : (p q : ℕ) → p ≤ q → q ≤ length m.pairs → ((i : ℕ) → p ≤ i → i < q → ((pair m i).0 == r || (pair m i).1 == r) ≡ false) → from p ≡ from q
  out_skip p q le inside none =
      let e : length m.pairs - p ≡ (length m.pairs - q) + (q - p) = omega arith in
      ap (taken first (touches m r)) e ∙ skipped first (touches m r) (length m.pairs - q) (q - p) (λ k low high. at k (length m.pairs - suc k) (omega arith) (omega arith) (omega arith) (omega arith))
    where
      at : (k i : ℕ) → k ≡ pair_slot m i → i < length m.pairs → p ≤ i → i < q → touches m r k ≡ false
      at k i is lt low high = ap (touches m r) is ∙ (touch_pair i lt ∙ none i low high)
