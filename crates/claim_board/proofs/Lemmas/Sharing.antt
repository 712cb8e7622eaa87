-- How regions are shared out into the slots.
use Rattle.std.proofs.Common.{◌≡◌, ◌≢◌, ◌⊎◌, ℕ, zero, suc, ◌+◌, ◌-◌, ◌<◌, ◌≤◌, Bool, true, false, List, [], ◌∷◌, length, Option, Some, None, refl, sym, ap, ◌∙◌, subst, inl, inr, arith, length-set, get_or-set_same, get_or-set_other, nat_lt}
use Rattle.std.specs.Prelude.{slice_get, slice_index_or, slice_set, if◌then◌else◌}
use Rattle.std.proofs.lemmas.Bool.{cases_eq, lt-ltb, ltb-true}
use Rattle.read_shares.specs.Parts.{all_parts}
use Rattle.box_row.specs.declared.place.InRow.{InRow}
use Rattle.read_shares.specs.declared.share.ReadShare.{ReadShare}
use Rattle.scheduler.specs.MoveTable.{MoveTable, region_count}
use Rattle.claim_board.specs.declared.regions.holding.Holding.{Holding}
use Rattle.claim_board.specs.declared.regions.holding.Holding.TheVariants.{Share, Moved}
use Rattle.claim_board.specs.Slots.{region_slot, all_slots}
use Rattle.claim_board.specs.Holds.{pair_slot}
use Rattle.claim_board.specs.Holdings.{IsSharedOut, IsPartOf, is_original, origin_of, share_origin, parts_of, in_pair, in_region, lies_in, words_of, AreRegions}
use Rattle.claim_board.specs.Places.{AreReaders, source_at, counted}
use Rattle.claim_board.specs.Sharings.{SharesOut, AreSharedFrom, with_right}

module _ (m : MoveTable) (vs : List (Option Holding)) where
  pub long_right : (p : ℕ) (x : Option Holding) → length (with_right (length m.pairs) vs p x) ≡ length vs
  long_right p x = go (nat_lt p (length m.pairs))
    where
      go : (b : Bool) → length (if b then slice_set vs (length m.pairs - suc p) x else vs) ≡ length vs
      go true = length-set vs (length m.pairs - suc p) x
      go false = refl

  -- other slots
  pub right_else : (p i : ℕ) (x : Option Holding) → (p < length m.pairs → i ≢ pair_slot m p) → slice_index_or (with_right (length m.pairs) vs p x) i None ≡ slice_index_or vs i None
  right_else p i x apart = go (nat_lt p (length m.pairs)) refl
    where
      go : (b : Bool) → nat_lt p (length m.pairs) ≡ b → slice_index_or (if b then slice_set vs (length m.pairs - suc p) x else vs) i None ≡ slice_index_or vs i None
      go true e = get_or-set_other vs (length m.pairs - suc p) i x None (apart (ltb-true p (length m.pairs) e))
      go false e = refl

  right_here : (p : ℕ) (x : Option Holding) → p < length m.pairs → length m.pairs ≤ length vs → in_pair m (with_right (length m.pairs) vs p x) p ≡ x
  right_here p x lt room = ap (λ (b : Bool). slice_index_or (if b then slice_set vs (length m.pairs - suc p) x else vs) (pair_slot m p) None) (lt-ltb p (length m.pairs) lt) ∙ get_or-set_same vs (pair_slot m p) x None (omega arith)

module _ (m : MoveTable) (r : ℕ) (two : ℕ × ℕ) (are : AreReaders m r two) (old : List (Option Holding)) (x y z : Option Holding) where
  abbrev one : List (Option Holding)
  one = with_right (length m.pairs) old two.0 x

  abbrev both : List (Option Holding)
  both = with_right (length m.pairs) one two.1 y

  abbrev new : List (Option Holding)
  new = slice_set both (region_slot m r) z

  pub shared_size : length new ≡ length old
  shared_size = length-set both (region_slot m r) z ∙ (long_right m one two.1 y ∙ long_right m old two.0 x)

  pub shared_region : length old ≡ all_slots m → r < region_count m → in_region m new r ≡ z
  shared_region all inside = get_or-set_same both (region_slot m r) z None (let a = long_right m one two.1 y in let b = long_right m old two.0 x in omega arith)

  pub shared_other : (q : ℕ) → q ≢ r → in_region m new q ≡ in_region m old q
  shared_other q apart = get_or-set_other both (region_slot m r) (region_slot m q) z None (λ e. apart (omega arith)) ∙ (right_else m one two.1 (region_slot m q) y (λ lt e. omega arith) ∙ right_else m old two.0 (region_slot m q) x (λ lt e. omega arith))

  in_both : (p : ℕ) → p < length m.pairs → in_pair m new p ≡ in_pair m both p
  in_both p lt = get_or-set_other both (region_slot m r) (pair_slot m p) z None (λ e. omega arith)

  pub shared_else : (p : ℕ) → p < length m.pairs → source_at m p ≢ r → in_pair m new p ≡ in_pair m old p
  shared_else p lt apart =
      in_both p lt ∙ (right_else m one two.1 (pair_slot m p) y (λ l e. apart (ap (source_at m) (let s : p ≡ two.1 = omega arith in s) ∙ are.second l))
      ∙ right_else m old two.0 (pair_slot m p) x (λ l e. apart (ap (source_at m) (let s : p ≡ two.0 = omega arith in s) ∙ are.first l)))

  -- each reader's slot has one of the two
  pub shared_rights : (P : Option Holding → Type 0) → length old ≡ all_slots m → P x → P y → (p : ℕ) → p < length m.pairs → source_at m p ≡ r → P (in_pair m new p)
  shared_rights P all px py p lt is = go (cases_eq p two.1) (cases_eq p two.0)
    where
      go : (p ≡ two.1) ⊎ (p ≡ two.1 → ⊥) → (p ≡ two.0) ⊎ (p ≡ two.0 → ⊥) → P (in_pair m new p)
      go (inl same) c = subst P (sym (in_both p lt ∙ (ap (in_pair m both) same ∙ right_here m one two.1 y (omega arith) (let b = long_right m old two.0 x in omega arith)))) py
      go (inr other) (inl same) = subst P (sym (in_both p lt ∙ (right_else m one two.1 (pair_slot m p) y (λ l e. other (omega arith)) ∙ (ap (in_pair m one) same ∙ right_here m old two.0 x (omega arith) (omega arith))))) px
      go (inr other) (inr apart) = absurd (are.others p lt apart other is)

-- the region and its rights, as they were split off
pub shares_region : (m : MoveTable) (r : ℕ) (two : ℕ × ℕ) → AreReaders m r two → r < region_count m → (old values : List (Option Holding)) → length old ≡ all_slots m → (z : Option Holding) (s0 s1 s2 : ReadShare (List ℕ)) (words : List ℕ) (spot : InRow)
    → values ≡ slice_set (with_right (length m.pairs) (with_right (length m.pairs) old two.0 (Some (Share (record s0 { parts = 1 })))) two.1 (Some (Share (record s1 { parts = 1 })))) (region_slot m r) z
    → is_original z ≡ true → words_of z ≡ words → lies_in z ≡ Some spot → share_origin z ≡ s2.origin → parts_of z ≡ s2.parts → s0.value ≡ words → s0.origin ≡ origin_of z → s0.parts ≡ all_parts
    → s1.value ≡ s0.value → s1.origin ≡ s0.origin → s1.parts + counted m two.0 ≡ s0.parts → s2.origin ≡ s1.origin → s2.parts + counted m two.1 ≡ s1.parts → SharesOut m r words spot old values
shares_region m r two are inside old values all z s0 s1 s2 words spot is zi zw zl zs zp v0 o0 p0 v1 o1 p1 o2 p2 = subst (SharesOut m r words spot old) (sym is) (record {
  size = shared_size m r two are old x y z;
  region = subst (IsSharedOut m r) (sym at) (record { original = zi; same = zs ∙ (o2 ∙ (o1 ∙ o0)); parts = let n = are.number in omega arith });
  words_are = ap words_of at ∙ zw;
  lies = ap lies_in at ∙ zl;
  rights = λ p lt source. subst (λ v. IsPartOf v (in_pair m (slice_set (with_right (length m.pairs) (with_right (length m.pairs) old two.0 x) two.1 y) (region_slot m r) z) p)) (sym at)
      (shared_rights m r two are old x y z (IsPartOf z) all (record { share = refl; same = o0; words = v0 ∙ sym zw; one = refl }) (record { share = refl; same = o1 ∙ o0; words = v1 ∙ (v0 ∙ sym zw); one = refl }) p lt source);
  other_regions = shared_other m r two are old x y z;
  other_rights = shared_else m r two are old x y z;
})
  where
    x : Option Holding
    x = Some (Share (record s0 { parts = 1 }))

    y : Option Holding
    y = Some (Share (record s1 { parts = 1 }))

    at : in_region m (slice_set (with_right (length m.pairs) (with_right (length m.pairs) old two.0 x) two.1 y) (region_slot m r) z) r ≡ z
    at = shared_region m r two are old x y z all inside

-- one region more is shared out
pub one_shared : (m : MoveTable) (r : ℕ) (words : ℕ → List ℕ) (spots : ℕ → InRow) (own : List ℕ) (spot : InRow) (old new : List (Option Holding)) → own ≡ words r → spot ≡ spots r → AreSharedFrom m (r + 1) words spots old → SharesOut m r own spot old new
    → AreSharedFrom m r words spots new
one_shared m r words spots own spot old new is there are shares = record { regions = λ q low inside. region q low inside (cases_eq q r); rights = λ p lt low. right p lt low (cases_eq (source_at m p) r) }
  where
    region : (q : ℕ) → r ≤ q → q < region_count m → (q ≡ r) ⊎ (q ≡ r → ⊥) → IsSharedOut m q (in_region m new q) × (words_of (in_region m new q) ≡ words q) × (lies_in (in_region m new q) ≡ Some (spots q))
    region q low inside (inl same) = subst (λ (k : ℕ). IsSharedOut m k (in_region m new k) × (words_of (in_region m new k) ≡ words k) × (lies_in (in_region m new k) ≡ Some (spots k))) (sym same) (shares.region, shares.words_are ∙ is, shares.lies ∙ ap (λ s. Some s) there)
    region q low inside (inr other) =
        let h = are.regions q (omega arith) inside in
        let e = shares.other_regions q other in
        (subst (IsSharedOut m q) (sym e) h.0, ap words_of e ∙ h.1, ap lies_in e ∙ h.2)

    right : (p : ℕ) → p < length m.pairs → r ≤ source_at m p → (source_at m p ≡ r) ⊎ (source_at m p ≡ r → ⊥) → IsPartOf (in_region m new (source_at m p)) (in_pair m new p)
    right p lt low (inl same) = subst (λ (k : ℕ). IsPartOf (in_region m new k) (in_pair m new p)) (sym same) (shares.rights p lt same)
    right p lt low (inr other) =
        subst (λ v. IsPartOf v (in_pair m new p)) (sym (shares.other_regions (source_at m p) other))
        (subst (IsPartOf (in_region m old (source_at m p))) (sym (shares.other_rights p lt other)) (are.rights p lt (omega arith)))

pub all_shared : (m : MoveTable) (words : ℕ → List ℕ) (spots : ℕ → InRow) (values : List (Option Holding)) → length values ≡ all_slots m → AreSharedFrom m 0 words spots values → AreRegions m values
all_shared m words spots values size are = record { size = size; regions = λ r inside. (are.regions r (omega arith) inside).0; rights = λ p lt. are.rights p lt (omega arith) }

-- at first none is shared out
pub none_shared : (m : MoveTable) (words : ℕ → List ℕ) (spots : ℕ → InRow) (values : List (Option Holding)) (n : ℕ) → n ≡ region_count m → ((p : ℕ) → p < length m.pairs → source_at m p < region_count m) → AreSharedFrom m n words spots values
none_shared m words spots values n all inside = record { regions = λ q low lt. absurd (omega arith); rights = λ p lt low. let z = inside p lt in absurd (omega arith) }

-- the regions that have moved, with these words, in the places from the n-th on
abbrev pub moved_in : (ℕ → InRow) → ℕ → List (List ℕ) → List Holding
moved_in spots n [] = []
moved_in spots n (w ∷ ws) = Moved (w, spots n) ∷ moved_in spots (suc n) ws

pub moved_there : (spots : ℕ → InRow) (n : ℕ) (ws : List (List ℕ)) (r : ℕ) → r < length ws → slice_get (moved_in spots n ws) r ≡ Some (Moved (slice_index_or ws r [], spots (n + r)))
moved_there spots n [] r lt = absurd (omega arith)
moved_there spots n (w ∷ ws) zero lt = let e : n ≡ n + 0 = omega arith in ap (λ k. Some (Moved (w, spots k))) e
moved_there spots n (w ∷ ws) (suc r) lt = let e : suc n + r ≡ n + suc r = omega arith in moved_there spots (suc n) ws r (omega arith) ∙ ap (λ k. Some (Moved (slice_index_or ws r [], spots k))) e
