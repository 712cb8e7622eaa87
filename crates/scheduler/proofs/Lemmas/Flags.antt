-- The pairs of a table, and a flag beside each.
use Rattle.std.proofs.Common.{◌≡◌, ℕ, zero, suc, ◌<◌, Bool, true, false, List, [], ◌∷◌, length, get_or, set, refl, sym, ◌∙◌, arith}
use Rattle.std.specs.Prelude.{◌==◌, ◌&&◌, ◌||◌}
use Rattle.std.specs.List.{list_any}
use Rattle.std.proofs.lemmas.Bool.{and_parts, and_from, and_left, and_right, or_parts, or_from, eq-eqb, eqb-true, false_from_ne_true}
use Rattle.scheduler.specs.MoveTable.{is_pair}
use Rattle.scheduler.specs.Scheduler.{is_flagged}
use Rattle.scheduler.specs.MoveTable.{IsAscending}
use Rattle.scheduler.proofs.Lemmas.Pairs.{ascending_tail, ascending_head, not_before_itself, placed}

-- no flag is set
pub is_flagged-none : (d s : ℕ) (ps : List (ℕ × ℕ)) (flags : List Bool) → ((k : ℕ) → k < length flags → get_or flags k false ≡ false) → is_flagged d s ps flags ≡ false
is_flagged-none d s [] flags none = refl
is_flagged-none d s (p ∷ ps) [] none = refl
is_flagged-none d s (p ∷ ps) (flag ∷ flags) none =
    or_from (is_pair d s p && flag) (is_flagged d s ps flags) (and_right (is_pair d s p) flag (none 0 (omega arith))) (is_flagged-none d s ps flags (λ k lt. none (suc k) (omega arith)))

-- the table doesn't have the pair
pub is_flagged-absent : (d s : ℕ) (ps : List (ℕ × ℕ)) (flags : List Bool) → list_any (is_pair d s) ps ≡ false → is_flagged d s ps flags ≡ false
is_flagged-absent d s [] flags absent = refl
is_flagged-absent d s (p ∷ ps) [] absent = refl
is_flagged-absent d s (p ∷ ps) (flag ∷ flags) absent =
    let parts = or_parts (is_pair d s p) (list_any (is_pair d s) ps) absent in
    or_from (is_pair d s p && flag) (is_flagged d s ps flags) (and_left (is_pair d s p) flag parts.0) (is_flagged-absent d s ps flags parts.1)

-- one flag more is set
pub is_flagged-set : (e t : ℕ) (ps : List (ℕ × ℕ)) (flags : List Bool) (at : ℕ) (c : ℕ × ℕ) → at < length ps → length flags ≡ length ps
    → is_flagged e t ps (set flags at true) ≡ (is_pair e t (get_or ps at c) || is_flagged e t ps flags)
is_flagged-set e t [] flags at c lt all = absurd (omega arith)
is_flagged-set e t (p ∷ ps) [] at c lt all = absurd (omega arith)
is_flagged-set e t (p ∷ ps) (flag ∷ flags) zero c lt all = go (is_pair e t p) flag (is_flagged e t ps flags)
  where
    go : (a b r : Bool) → ((a && true) || r) ≡ (a || ((a && b) || r))
    go true b r = refl
    go false b r = refl
is_flagged-set e t (p ∷ ps) (flag ∷ flags) (suc at) c lt all =
    rw (is_flagged-set e t ps flags at c (omega arith) (omega arith)) (go (is_pair e t p && flag) (is_pair e t (get_or ps at c)) (is_flagged e t ps flags))
  where
    go : (b a r : Bool) → (b || (a || r)) ≡ (a || (b || r))
    go true true r = refl
    go true false r = refl
    go false a r = refl

-- what the flag of a pair says
pub is_flagged_at : (d s : ℕ) (ps : List (ℕ × ℕ)) (flags : List Bool) (at : ℕ) (c : ℕ × ℕ) → IsAscending ps → at < length ps → length flags ≡ length ps → (get_or ps at c).0 ≡ d → (get_or ps at c).1 ≡ s
    → is_flagged d s ps flags ≡ get_or flags at false
is_flagged_at d s [] flags at c up lt all a b = absurd (omega arith)
is_flagged_at d s (p ∷ ps) [] at c up lt all a b = absurd (omega arith)
is_flagged_at d s (p ∷ ps) (flag ∷ flags) zero c up lt all a b =
    let here : is_pair d s p ≡ true = and_from (d == p.0) (s == p.1) (eq-eqb d p.0 (sym a)) (eq-eqb s p.1 (sym b)) in
    let behind : is_flagged d s ps flags ≡ false = is_flagged-absent d s ps flags (false_from_ne_true (list_any (is_pair d s) ps) (λ e.
    let q = placed ps d s e in
    not_before_itself p (get_or ps q.at c) (a ∙ sym (q.first c)) (b ∙ sym (q.second c)) (ascending_head p ps q.at c up q.inside))) in
    rw (here, behind) (go flag)
  where
    go : (x : Bool) → ((true && x) || false) ≡ x
    go true = refl
    go false = refl
is_flagged_at d s (p ∷ ps) (flag ∷ flags) (suc at) c up lt all a b =
    let other : is_pair d s p ≡ false = false_from_ne_true (is_pair d s p) (λ e.
    let q = and_parts (d == p.0) (s == p.1) e in
    not_before_itself p (get_or ps at c) (sym (eqb-true d p.0 q.0) ∙ sym a) (sym (eqb-true s p.1 q.1) ∙ sym b) (ascending_head p ps at c up (omega arith))) in
    rw other (is_flagged_at d s ps flags at c (ascending_tail p ps up) (omega arith) (omega arith) a b)
