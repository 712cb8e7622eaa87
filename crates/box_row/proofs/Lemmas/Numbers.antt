-- Places of a row, as numbers.
--     next_is, last_is      a place further, and the place before
--     first_is      the first place is where the row begins
--     stays_inside      a place isn't null
--     uncons      the first of values
use Rattle.std.proofs.Common.{◌≡◌, ℕ, ◌+◌, ◌-◌, ◌*◌, ◌<◌, List, [], ◌∷◌, length, refl, ap, sym, ◌∙◌, arith}
use denote.RawPtr.{InBlock, Ptr, block_ptr, null_ptr, ◌+ₚ◌}

pub next_is : (p : Ptr) (i s : ℕ) → p +ₚ (i * s) +ₚ s ≡ p +ₚ ((i + 1) * s)
next_is (block_ptr b o) i s = ap (block_ptr b) (omega arith)
next_is null_ptr i s = refl

pub first_is : (p : Ptr) (s : ℕ) → p +ₚ (0 * s) ≡ p
first_is (block_ptr b o) s = ap (block_ptr b) (omega arith)
first_is null_ptr s = refl

pub stays_inside : (p : Ptr) (n : ℕ) → InBlock p → InBlock (p +ₚ n)
stays_inside (block_ptr b o) n inside = tt
stays_inside null_ptr n inside = absurd inside

pub uncons : {X : Type 0} (xs : List X) → 0 < length xs → (x : X) × (ys : List X) × (xs ≡ x ∷ ys)
uncons [] some = absurd (omega (arith, some))
uncons (x ∷ xs) some = (x, xs, refl)
