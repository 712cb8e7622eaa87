-- What the acts of a step leave in the slots.
use Rattle.std.proofs.Common.{◌≡◌, ◌≢◌, ◌⊎◌, ℕ, zero, suc, ◌<◌, ◌≤◌, Bool, true, false, List, ◌∷◌, length, set, refl, sym, ap, ◌∙◌, inl, inr, length-set, arith, ◌-◌, nat_lt}
use Rattle.std.specs.Prelude.{◌||◌, ◌&&◌, ◌==◌, if◌then◌else◌, is_none}
use Rattle.std.proofs.lemmas.Bool.{cases_Bool, cases_eq, or_cases, or_left, or_right, and_from, eq-eqb, eqb-true, false≢true, cases_lt, ltb-true, lt-ltb, false_from_ne_true}
use Rattle.std.proofs.lemmas.List.Folds.{list_any_at}
use mathlib.Core.Option.{some, none}
use mathlib.Core.Option as maybe
use lib.ListN.{get_elem?}
use Rattle.atomic_table.specs.Table.{gives, Valid, homes_after}
use Rattle.atomic_table.proofs.Lists.{set_here, set_else}
use Rattle.scheduler.specs.MoveTable.{MoveTable, reads, is_pair}
use Rattle.scheduler.specs.State.{State}
use Rattle.scheduler.specs.Shares.{share_is_home, region_is_home, Takes, PutsBack, PutsRegion}
use Rattle.claim_board.specs.Slots.{pair_at, region_slot, is_home, touches, value_at, home_at, HomesFit, take_one, take_below}

-- the table has the pair of each slot
reads_there : (m : MoveTable) (k : ℕ) → k < length m.pairs → reads m (pair_at m k).0 (pair_at m k).1 ≡ true
reads_there m k lt =
    list_any_at (is_pair (pair_at m k).0 (pair_at m k).1) m.pairs (length m.pairs - suc k) (0, 0) (omega arith)
    (and_from ((pair_at m k).0 == (pair_at m k).0) ((pair_at m k).1 == (pair_at m k).1) (eq-eqb (pair_at m k).0 (pair_at m k).0 refl) (eq-eqb (pair_at m k).1 (pair_at m k).1 refl))

or_right_false : (a b : Bool) → (a || b) ≡ false → b ≡ false
or_right_false true b e = absurd (false≢true (sym e))
or_right_false false b e = e

or_right_true : (a : Bool) → (a || true) ≡ true
or_right_true true = refl
or_right_true false = refl

-- slots that are taken
module _ {S : Type 0} (first : ℕ → S) where
  as_many : (hs : List (maybe.Option S)) (c : List (ℕ × S)) (p : ℕ → Bool) (n : ℕ) → length (homes_after hs c (take_below first p n)) ≡ length hs
  as_many hs c p zero = refl
  as_many hs c p (suc n) = go (p n) (as_many hs c p n)
    where
      go : (b : Bool) → length (homes_after hs c (take_below first p n)) ≡ length hs → length (homes_after hs c (take_one first b (take_below first p n) n)) ≡ length hs
      go true before = length-set (homes_after hs c (take_below first p n)) n none ∙ before
      go false before = before

  others_stay : (hs : List (maybe.Option S)) (c : List (ℕ × S)) (p : ℕ → Bool) (n k : ℕ) → (k < n → p k ≡ false) → get_elem? (homes_after hs c (take_below first p n)) k ≡ get_elem? hs k
  others_stay hs c p zero k apart = refl
  others_stay hs c p (suc n) k apart = go (p n) refl (cases_eq k n) (others_stay hs c p n k (λ lt. apart (omega arith)))
    where
      go : (b : Bool) → p n ≡ b → (k ≡ n) ⊎ (k ≡ n → ⊥) → get_elem? (homes_after hs c (take_below first p n)) k ≡ get_elem? hs k → get_elem? (homes_after hs c (take_one first b (take_below first p n) n)) k ≡ get_elem? hs k
      go false is at before = before
      go true is (inr other) before = set_else (homes_after hs c (take_below first p n)) n k none other ∙ before
      go true is (inl same) before = let not_so : p k ≡ false = apart (omega arith) in absurd (false≢true (sym not_so ∙ (ap p same ∙ is)))

  all_taken : (hs : List (maybe.Option S)) (c : List (ℕ × S)) (p : ℕ → Bool) (n k : ℕ) → n ≤ length hs → k < n → p k ≡ true → get_elem? (homes_after hs c (take_below first p n)) k ≡ some none
  all_taken hs c p zero k few lt is = absurd (omega arith)
  all_taken hs c p (suc n) k few lt is = go (p n) refl (cases_eq k n) (λ below. all_taken hs c p n k (omega arith) below is)
    where
      inside : n < length (homes_after hs c (take_below first p n))
      inside = let z = as_many hs c p n in omega arith

      go : (b : Bool) → p n ≡ b → (k ≡ n) ⊎ (k ≡ n → ⊥) → (k < n → get_elem? (homes_after hs c (take_below first p n)) k ≡ some none) → get_elem? (homes_after hs c (take_one first b (take_below first p n) n)) k ≡ some none
      go true passes (inl same) before = ap (get_elem? (set (homes_after hs c (take_below first p n)) n none)) same ∙ set_here (homes_after hs c (take_below first p n)) n none inside
      go true passes (inr other) before = set_else (homes_after hs c (take_below first p n)) n k none other ∙ before (omega arith)
      go false passes (inl same) before = absurd (false≢true (sym passes ∙ (ap p (sym same) ∙ is)))
      go false passes (inr other) before = before (omega arith)

  may_take : (hs : List (maybe.Option S)) (c : List (ℕ × S)) (p : ℕ → Bool) (n : ℕ) → ((k : ℕ) → k < n → p k ≡ true → get_elem? hs k ≡ some (some (first k))) → Valid hs c (take_below first p n)
  may_take hs c p zero there = tt
  may_take hs c p (suc n) there = go (p n) refl (may_take hs c p n (λ k lt. there k (omega arith)))
    where
      go : (b : Bool) → p n ≡ b → Valid hs c (take_below first p n) → Valid hs c (take_one first b (take_below first p n) n)
      go true is before = (before, others_stay hs c p n n (λ lt. absurd (omega arith)) ∙ there n (omega arith) is)
      go false is before = before

module _ {S : Type 0} (m : MoveTable) (first moved : ℕ → S) where
  home_if : (now : State) (k : ℕ) → is_home m now k ≡ true → home_at m first moved now k ≡ some (value_at m first moved now k)
  home_if now k is = ap (λ (b : Bool). if b then some (value_at m first moved now k) else none) is

  away_if : (now : State) (k : ℕ) → is_home m now k ≡ false → home_at m first moved now k ≡ none
  away_if now k is = ap (λ (b : Bool). if b then some (value_at m first moved now k) else none) is

  -- a slot has the same in it, or nothing, in both states
  abbrev pub IsSame : State → State → ℕ → Type 0
  IsSame old new k = (is_home m new k ≡ is_home m old k) × (value_at m first moved new k ≡ value_at m first moved old k)

  same_home : (old new : State) (k : ℕ) → IsSame old new k → home_at m first moved new k ≡ home_at m first moved old k
  same_home old new k same = λ i. if same.0 i then some (same.1 i) else none

  -- the slots that pass are taken, with their first values
  fits_taken : (n : ℕ) (p : ℕ → Bool) (old new : State) (homes : List (maybe.Option S)) (held : List (ℕ × S)) → HomesFit m n first moved old homes
      → ((k : ℕ) → k < n → p k ≡ true → (is_home m old k ≡ true) × (value_at m first moved old k ≡ first k) × (is_home m new k ≡ false))
      → ((k : ℕ) → k < n → p k ≡ false → IsSame old new k)
      → Valid homes held (take_below first p n) × HomesFit m n first moved new (homes_after homes held (take_below first p n))
  fits_taken n p old new homes held fit moves stay = (may_take first homes held p n there, record { size = as_many first homes held p n ∙ fit.size; each = λ k lt. after k lt (cases_Bool (p k)) })
    where
      there : (k : ℕ) → k < n → p k ≡ true → get_elem? homes k ≡ some (some (first k))
      there k lt is = fit.each k lt ∙ (ap some (home_if old k (moves k lt is).0) ∙ ap (λ v. some (some v)) (moves k lt is).1)

      after : (k : ℕ) → k < n → (p k ≡ true) ⊎ (p k ≡ false) → get_elem? (homes_after homes held (take_below first p n)) k ≡ some (home_at m first moved new k)
      after k lt (inl is) = all_taken first homes held p n k (let z = fit.size in omega arith) lt is ∙ ap some (sym (away_if new k (moves k lt is).2))
      after k lt (inr not_so) = others_stay first homes held p n k (λ _. not_so) ∙ (fit.each k lt ∙ ap some (sym (same_home old new k (stay k lt not_so))))

  -- the slot on top is given back with the value that it has then
  fits_given : (n at : ℕ) (y : S) (old new : State) (homes : List (maybe.Option S)) (rest : List (ℕ × S)) → at < n → HomesFit m n first moved old homes → is_home m new at ≡ true → value_at m first moved new at ≡ y
      → ((k : ℕ) → k < n → k ≢ at → IsSame old new k) → HomesFit m n first moved new (homes_after homes ((at, y) ∷ rest) gives)
  fits_given n at y old new homes rest inside fit home is stay = record { size = length-set homes at (some y) ∙ fit.size; each = λ k lt. go k lt (cases_eq k at) }
    where
      go : (k : ℕ) → k < n → (k ≡ at) ⊎ (k ≡ at → ⊥) → get_elem? (set homes at (some y)) k ≡ some (home_at m first moved new k)
      go k lt (inr other) = set_else homes at k (some y) other ∙ (fit.each k lt ∙ ap some (sym (same_home old new k (stay k lt other))))
      go k lt (inl same) =
          ap (get_elem? (set homes at (some y))) same ∙ (set_here homes at (some y) (let z = fit.size in omega arith)
          ∙ (ap (λ v. some (some v)) (sym is) ∙ (ap some (sym (home_if new at home)) ∙ ap (λ j. some (home_at m first moved new j)) (sym same))))

  fits_still : (n : ℕ) (old new : State) (homes : List (maybe.Option S)) → HomesFit m n first moved old homes → ((k : ℕ) → k < n → IsSame old new k) → HomesFit m n first moved new homes
  fits_still n old new homes fit stay = record { size = fit.size; each = λ k lt. fit.each k lt ∙ ap some (sym (same_home old new k (stay k lt))) }

  -- a slot of a pair, or of a region
  same_slot : (old new : State) (k : ℕ) → (nat_lt k (length m.pairs) ≡ true → share_is_home new (pair_at m k).0 (pair_at m k).1 ≡ share_is_home old (pair_at m k).0 (pair_at m k).1)
      → (nat_lt k (length m.pairs) ≡ false → (region_is_home new (k - length m.pairs) ≡ region_is_home old (k - length m.pairs)) × (new.filled (k - length m.pairs) ≡ old.filled (k - length m.pairs))) → IsSame old new k
  same_slot old new k pair region = go (nat_lt k (length m.pairs)) refl
    where
      go : (b : Bool) → nat_lt k (length m.pairs) ≡ b
          → ((if b then share_is_home new (pair_at m k).0 (pair_at m k).1 else region_is_home new (k - length m.pairs)) ≡ (if b then share_is_home old (pair_at m k).0 (pair_at m k).1 else region_is_home old (k - length m.pairs)))
          × ((if b then first k else (if new.filled (k - length m.pairs) then moved (k - length m.pairs) else first k)) ≡ (if b then first k else (if old.filled (k - length m.pairs) then moved (k - length m.pairs) else first k)))
      go true e = (pair e, refl)
      go false e = ((region e).0, ap (λ (b : Bool). if b then moved (k - length m.pairs) else first k) (region e).1)

  pub grants_act : (n r : ℕ) (old new : State) (homes : List (maybe.Option S)) (held : List (ℕ × S)) → HomesFit m n first moved old homes → Takes m r old new → ((q : ℕ) → new.filled q ≡ old.filled q)
      → Valid homes held (take_below first (touches m r) n) × HomesFit m n first moved new (homes_after homes held (take_below first (touches m r) n))
  grants_act n r old new homes held fit takes_them filled = fits_taken n (touches m r) old new homes held fit (λ k lt is. gone k (nat_lt k (length m.pairs)) refl is) (λ k lt is. stay k (nat_lt k (length m.pairs)) refl is)
    where
      unfilled : old.filled r ≡ false
      unfilled = sym (filled r) ∙ or_right_false (is_none (new.claimed r)) (new.filled r) takes_them.region.1

      gone : (k : ℕ) (b : Bool) → nat_lt k (length m.pairs) ≡ b → (if b then ((pair_at m k).0 == r || (pair_at m k).1 == r) else (k - length m.pairs == r)) ≡ true
          → ((if b then share_is_home old (pair_at m k).0 (pair_at m k).1 else region_is_home old (k - length m.pairs)) ≡ true)
          × ((if b then first k else (if old.filled (k - length m.pairs) then moved (k - length m.pairs) else first k)) ≡ first k)
          × ((if b then share_is_home new (pair_at m k).0 (pair_at m k).1 else region_is_home new (k - length m.pairs)) ≡ false)
      gone k true below is = go (or_cases ((pair_at m k).0 == r) ((pair_at m k).1 == r) is)
        where
          lt : k < length m.pairs
          lt = ltb-true k (length m.pairs) below

          go : (((pair_at m k).0 == r) ≡ true) ⊎ (((pair_at m k).1 == r) ≡ true) → (share_is_home old (pair_at m k).0 (pair_at m k).1 ≡ true) × (first k ≡ first k) × (share_is_home new (pair_at m k).0 (pair_at m k).1 ≡ false)
          go (inl own) =
              let d : (pair_at m k).0 ≡ r = eqb-true (pair_at m k).0 r own in
              let t = takes_them.sources (pair_at m k).1 (ap (λ (x : ℕ). reads m x (pair_at m k).1) (sym d) ∙ reads_there m k lt) in
              (ap (λ (x : ℕ). share_is_home old x (pair_at m k).1) d ∙ t.0, refl, ap (λ (x : ℕ). share_is_home new x (pair_at m k).1) d ∙ t.1)
          go (inr other) =
              let s : (pair_at m k).1 ≡ r = eqb-true (pair_at m k).1 r other in
              let t = takes_them.readers (pair_at m k).0 (ap (λ (x : ℕ). reads m (pair_at m k).0 x) (sym s) ∙ reads_there m k lt) in
              (ap (λ (x : ℕ). share_is_home old (pair_at m k).0 x) s ∙ t.0, refl, ap (λ (x : ℕ). share_is_home new (pair_at m k).0 x) s ∙ t.1)
      gone k false above is =
          let q : k - length m.pairs ≡ r = eqb-true (k - length m.pairs) r is in
          (ap (region_is_home old) q ∙ takes_them.region.0, ap (λ (b : Bool). if b then moved (k - length m.pairs) else first k) (ap old.filled q ∙ unfilled), ap (region_is_home new) q ∙ takes_them.region.1)

      stay : (k : ℕ) (b : Bool) → nat_lt k (length m.pairs) ≡ b → (if b then ((pair_at m k).0 == r || (pair_at m k).1 == r) else (k - length m.pairs == r)) ≡ false → IsSame old new k
      stay k true below is = same_slot old new k
          (λ _. takes_them.others (pair_at m k).0 (pair_at m k).1 (λ e. false≢true (sym is ∙ or_left ((pair_at m k).0 == r) ((pair_at m k).1 == r) (eq-eqb (pair_at m k).0 r e))) (λ e. false≢true (sym is ∙ or_right ((pair_at m k).0 == r) ((pair_at m k).1 == r) (eq-eqb (pair_at m k).1 r e))))
          (λ above. absurd (false≢true (sym above ∙ below)))
      stay k false above is = same_slot old new k (λ below. absurd (false≢true (sym above ∙ below)))
          (λ _. (takes_them.regions (k - length m.pairs) (λ e. false≢true (sym is ∙ eq-eqb (k - length m.pairs) r e)), filled (k - length m.pairs)))

  pub drains_give : (n at d s : ℕ) (old new : State) (homes : List (maybe.Option S)) (rest : List (ℕ × S)) → at < n → at < length m.pairs → (pair_at m at).0 ≡ d → (pair_at m at).1 ≡ s
      → ((k : ℕ) → k < length m.pairs → k ≢ at → ((pair_at m k).0 == d && (pair_at m k).1 == s) ≡ false) → ((q : ℕ) → new.filled q ≡ old.filled q)
      → HomesFit m n first moved old homes → PutsBack d s old new → HomesFit m n first moved new (homes_after homes ((at, first at) ∷ rest) gives)
  drains_give n at d s old new homes rest there inside one other alone filled fit puts =
      fits_given n at (first at) old new homes rest there fit
      (ap (λ (b : Bool). if b then share_is_home new (pair_at m at).0 (pair_at m at).1 else region_is_home new (at - length m.pairs)) below ∙ (ap (λ (x : ℕ). share_is_home new x (pair_at m at).1) one ∙ (ap (share_is_home new d) other ∙ puts.share.1)))
      (ap (λ (b : Bool). if b then first at else (if new.filled (at - length m.pairs) then moved (at - length m.pairs) else first at)) below)
      (λ k lt apart. same_slot old new k (λ e. puts.others (pair_at m k).0 (pair_at m k).1 (alone k (ltb-true k (length m.pairs) e) apart)) (λ _. (puts.regions (k - length m.pairs), filled (k - length m.pairs))))
    where
      below : nat_lt at (length m.pairs) ≡ true
      below = lt-ltb at (length m.pairs) inside

  back : (r : ℕ) → region_slot m r - length m.pairs ≡ r
  back r = omega arith

  above : (r : ℕ) → nat_lt (region_slot m r) (length m.pairs) ≡ false
  above r = false_from_ne_true (nat_lt (region_slot m r) (length m.pairs)) (λ e. let lt = ltb-true (region_slot m r) (length m.pairs) e in omega arith)

  -- the value of a filled region
  moved_there : (r : ℕ) (now : State) → now.filled r ≡ true → value_at m first moved now (region_slot m r) ≡ moved r
  moved_there r now full =
      ap (λ (b : Bool). if b then first (region_slot m r) else (if now.filled (region_slot m r - length m.pairs) then moved (region_slot m r - length m.pairs) else first (region_slot m r))) (above r)
      ∙ (ap (λ (q : ℕ). if now.filled q then moved q else first (region_slot m r)) (back r) ∙ ap (λ (b : Bool). if b then moved r else first (region_slot m r)) full)

  pub completes_give : (n r : ℕ) (old new : State) (homes : List (maybe.Option S)) (rest : List (ℕ × S)) → region_slot m r < n → new.filled r ≡ true → ((q : ℕ) → q ≢ r → new.filled q ≡ old.filled q)
      → HomesFit m n first moved old homes → PutsRegion r old new → HomesFit m n first moved new (homes_after homes ((region_slot m r, moved r) ∷ rest) gives)
  completes_give n r old new homes rest inside full filled fit puts =
      fits_given n (region_slot m r) (moved r) old new homes rest inside fit
      (ap (λ (b : Bool). if b then share_is_home new (pair_at m (region_slot m r)).0 (pair_at m (region_slot m r)).1 else region_is_home new (region_slot m r - length m.pairs)) (above r) ∙ (ap (region_is_home new) (back r) ∙ puts.region.1))
      (moved_there r new full)
      (λ k lt apart. same_slot old new k (λ _. puts.shares (pair_at m k).0 (pair_at m k).1)
      (λ e. (let other = elsewhere k e apart in (puts.regions (k - length m.pairs) other, filled (k - length m.pairs) other))))
    where
      elsewhere : (k : ℕ) → nat_lt k (length m.pairs) ≡ false → k ≢ region_slot m r → k - length m.pairs ≢ r
      elsewhere k e apart same = go (cases_lt k (length m.pairs))
        where
          go : (k < length m.pairs) ⊎ (length m.pairs ≤ k) → ⊥
          go (inl lt) = false≢true (sym e ∙ lt-ltb k (length m.pairs) lt)
          go (inr le) = apart (omega arith)

  pub settles_still : (n : ℕ) (old new : State) (homes : List (maybe.Option S)) → HomesFit m n first moved old homes → ((d s : ℕ) → share_is_home new d s ≡ share_is_home old d s) → ((q : ℕ) → region_is_home new q ≡ region_is_home old q)
      → ((q : ℕ) → new.filled q ≡ old.filled q) → HomesFit m n first moved new homes
  settles_still n old new homes fit shares regions filled =
      fits_still n old new homes fit (λ k lt. same_slot old new k (λ _. shares (pair_at m k).0 (pair_at m k).1) (λ _. (regions (k - length m.pairs), filled (k - length m.pairs))))

  -- a filled region is in its slot, as it has moved
  pub moved_home : (n r : ℕ) (now : State) (homes : List (maybe.Option S)) → HomesFit m n first moved now homes → region_slot m r < n → now.filled r ≡ true → get_elem? homes (region_slot m r) ≡ some (some (moved r))
  moved_home n r now homes fit inside full =
      fit.each (region_slot m r) inside
      ∙ (ap some (home_if now (region_slot m r)
      (ap (λ (b : Bool). if b then share_is_home now (pair_at m (region_slot m r)).0 (pair_at m (region_slot m r)).1 else region_is_home now (region_slot m r - length m.pairs)) (above r)
      ∙ (ap (region_is_home now) (back r) ∙ (ap (λ (b : Bool). is_none (now.claimed r) || b) full ∙ or_right_true (is_none (now.claimed r))))))
      ∙ ap (λ v. some (some v)) (moved_there r now full))
