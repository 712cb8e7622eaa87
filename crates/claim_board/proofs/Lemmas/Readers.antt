-- The slots of a claimed region's readers are on top, one after the other.
use Rattle.std.proofs.Common.{◌≡◌, ◌≢◌, ◌⊎◌, ℕ, suc, ◌<◌, ◌≤◌, Bool, false, cond, List, [], ◌∷◌, ◌++◌, length, Option, None, sym, ap, ◌∙◌, subst, inl, inr, append_assoc, arith, ne_eqb, eq-eqb, nat_lt}
use Rattle.std.specs.Prelude.{◌||◌, ◌==◌}
use Rattle.std.proofs.lemmas.Bool.{cases_lt, lt-ltb, ltb-true, or_right, false_from_ne_true}
use Rattle.atomic_table.specs.Table.{rest}
use Rattle.scheduler.specs.MoveTable.{IsMoveTable, IsFirstPlace, readers_of}
use Rattle.claim_board.specs.declared.regions.holding.Holding.{Holding}
use Rattle.claim_board.specs.declared.rule.table_key.TableKey.{TableKey}
use Rattle.claim_board.specs.Slots.{first_of_slot}
use Rattle.claim_board.specs.Holds.{pair_slot, still_out}
use Rattle.claim_board.specs.Holdings.{AreRegions, IsPartOf, in_pair, in_region}
use Rattle.claim_board.specs.Places.{AreReaders, source_at, counted}
use Rattle.claim_board.proofs.Lemmas.Places.{pair, slides, lower, not_lower}
use Rattle.claim_board.proofs.Lemmas.Held.{out_next, out_skip}

or_false : (a b : Bool) → a ≡ false → b ≡ false → (a || b) ≡ false
or_false a b e f = ap (λ (x : Bool). x || b) e ∙ f

module _ (k : TableKey Holding) (table : IsMoveTable k.moves) (r : ℕ) (two : ℕ × ℕ) (are : AreReaders k.moves r two) (f : ℕ) (place : IsFirstPlace k.moves.pairs r 0 f) where
  reader_low : (p : ℕ) → p < length k.moves.pairs → source_at k.moves p ≡ r → p < f
  reader_low p lt is = go (cases_lt p f)
    where
      go : (p < f) ⊎ (f ≤ p) → p < f
      go (inl less) = less
      go (inr more) = let a = not_lower k.moves table r f p place more lt in let b = slides k.moves table p lt in absurd (omega arith)

  skip_to : (a b : ℕ) → a ≤ b → b ≤ f → ((p : ℕ) → a ≤ p → p < b → (p ≢ two.0) × (p ≢ two.1)) → still_out k r a ≡ still_out k r b
  skip_to a b le low none = out_skip k.moves (first_of_slot k) r a b le (let z = place.inside in omega arith) (λ p from_a below_b. untouched p (omega arith) (none p from_a below_b))
    where
      untouched : (p : ℕ) → p < f → (p ≢ two.0) × (p ≢ two.1) → ((pair k.moves p).0 == r || (pair k.moves p).1 == r) ≡ false
      untouched p lt apart =
          or_false ((pair k.moves p).0 == r) ((pair k.moves p).1 == r)
          (ne_eqb (pair k.moves p).0 r (λ e. let z = lower k.moves table r f p place lt in omega arith))
          (ne_eqb (pair k.moves p).1 r (are.others p (let z = place.inside in omega arith) apart.0 apart.1))

  top_at : (p : ℕ) → p < length k.moves.pairs → source_at k.moves p ≡ r → still_out k r p ≡ (pair_slot k.moves p, first_of_slot k (pair_slot k.moves p)) ∷ still_out k r (suc p)
  top_at p lt is = out_next k.moves (first_of_slot k) r p lt (or_right ((pair k.moves p).0 == r) ((pair k.moves p).1 == r) (eq-eqb (pair k.moves p).1 r is))

  pub first_inside : two.1 < length k.moves.pairs → two.0 < length k.moves.pairs
  first_inside lt = let z = are.ascending lt in omega arith

  pub first_top : two.0 < length k.moves.pairs → still_out k r 0 ≡ (pair_slot k.moves two.0, first_of_slot k (pair_slot k.moves two.0)) ∷ still_out k r (suc two.0)
  first_top lt = skip_to 0 two.0 (omega arith) (let z = reader_low two.0 lt (are.first lt) in omega arith) (λ p a b. ((λ e. omega arith), (λ e. omega (arith, are.ascending (omega arith))))) ∙ top_at two.0 lt (are.first lt)

  pub second_top : two.1 < length k.moves.pairs → still_out k r (suc two.0) ≡ (pair_slot k.moves two.1, first_of_slot k (pair_slot k.moves two.1)) ∷ still_out k r (suc two.1)
  second_top lt = skip_to (suc two.0) two.1 (let z = are.ascending lt in omega arith) (let z = reader_low two.1 lt (are.second lt) in omega arith) (λ p a b. ((λ e. omega arith), (λ e. omega arith))) ∙ top_at two.1 lt (are.second lt)

  pub after_both : two.1 < length k.moves.pairs → still_out k r (suc two.1) ≡ still_out k r f
  after_both lt = skip_to (suc two.1) f (let z = reader_low two.1 lt (are.second lt) in omega arith) (omega arith) (λ p a b. ((λ e. omega (arith, are.ascending lt)), (λ e. omega arith)))

  pub after_first : two.0 < length k.moves.pairs → length k.moves.pairs ≤ two.1 → still_out k r (suc two.0) ≡ still_out k r f
  after_first lt over = skip_to (suc two.0) f (let z = reader_low two.0 lt (are.first lt) in omega arith) (omega arith) (λ p a b. ((λ e. omega arith), (λ e. omega (arith, place.inside))))

  pub after_none : length k.moves.pairs ≤ two.0 → still_out k r 0 ≡ still_out k r f
  after_none over = skip_to 0 f (omega arith) (omega arith) (λ p a b. ((λ e. omega (arith, place.inside)), (λ e. none p e b)))
    where
      none : (p : ℕ) → p ≡ two.1 → p < f → ⊥
      none p e b = let z = place.inside in let y = first_inside (omega arith) in omega arith

  counts : (p : ℕ) → p < length k.moves.pairs → counted k.moves p ≡ 1
  counts p lt = ap (λ (b : Bool). cond {A = ℕ} b 1 0) (lt-ltb p (length k.moves.pairs) lt)

  counts_none : (p : ℕ) → length k.moves.pairs ≤ p → counted k.moves p ≡ 0
  counts_none p le = ap (λ (b : Bool). cond {A = ℕ} b 1 0) (false_from_ne_true (nat_lt p (length k.moves.pairs)) (λ e. let lt = ltb-true p (length k.moves.pairs) e in omega arith))

  pub two_readers : two.1 < length k.moves.pairs → readers_of k.moves r ≡ 2
  two_readers lt = are.number ∙ (let a = counts two.0 (first_inside lt) in let b = counts two.1 lt in omega arith)

  pub one_reader : two.0 < length k.moves.pairs → length k.moves.pairs ≤ two.1 → readers_of k.moves r ≡ 1
  one_reader lt le = are.number ∙ (let a = counts two.0 lt in let b = counts_none two.1 le in omega arith)

  pub no_reader : length k.moves.pairs ≤ two.0 → readers_of k.moves r ≡ 0
  no_reader le = are.number ∙ (let a = counts_none two.0 le in let b = counts_none two.1 (go (cases_lt two.1 (length k.moves.pairs))) in omega arith)
    where
      go : (two.1 < length k.moves.pairs) ⊎ (length k.moves.pairs ≤ two.1) → length k.moves.pairs ≤ two.1
      go (inl lt) = let z = first_inside lt in absurd (omega arith)
      go (inr over) = over

  -- the right of a reader is a part of the region
  pub part_of : AreRegions k.moves k.values.value.items → (p : ℕ) → p < length k.moves.pairs → source_at k.moves p ≡ r → IsPartOf (in_region k.moves k.values.value.items r) (first_of_slot k (pair_slot k.moves p))
  part_of all p lt is = subst (λ (s : ℕ). IsPartOf (in_region k.moves k.values.value.items s) (in_pair k.moves k.values.value.items p)) is (all.rights p lt)

  pub shown_top : (p q : ℕ) (held tail : List (ℕ × Option Holding)) → still_out k r p ≡ (pair_slot k.moves q, first_of_slot k (pair_slot k.moves q)) ∷ still_out k r (suc q) → held ≡ still_out k r p ++ tail
      → held ≡ (pair_slot k.moves q, first_of_slot k (pair_slot k.moves q)) ∷ rest held
  shown_top p q held tail top is =
      let e : held ≡ (pair_slot k.moves q, first_of_slot k (pair_slot k.moves q)) ∷ (still_out k r (suc q) ++ tail) = is ∙ ap (λ xs. xs ++ tail) top in
      e ∙ ap (λ xs. (pair_slot k.moves q, first_of_slot k (pair_slot k.moves q)) ∷ rest xs) (sym e)

  -- once it is taken and turned
  pub behind_top : (p q : ℕ) (held after tail : List (ℕ × Option Holding)) → still_out k r p ≡ (pair_slot k.moves q, first_of_slot k (pair_slot k.moves q)) ∷ still_out k r (suc q) → held ≡ still_out k r p ++ tail
      → after ≡ rest held ++ (pair_slot k.moves q, None) ∷ [] → after ≡ still_out k r (suc q) ++ (tail ++ (pair_slot k.moves q, None) ∷ [])
  behind_top p q held after tail top is then_ =
      then_ ∙ (ap (λ xs. rest xs ++ (pair_slot k.moves q, None) ∷ []) (is ∙ ap (λ xs. xs ++ tail) top) ∙ append_assoc (still_out k r (suc q)) tail ((pair_slot k.moves q, None) ∷ []))
