-- If no region to fill is left unsettled, each one is settled.
use Rattle.std.proofs.Common.{◌≡◌, ℕ, zero, suc, ◌<◌, ◌≤◌, Bool, true, false, cond, List, [], ◌∷◌, length, get_or, refl, sym, ◌∙◌, subst, arith}
use Rattle.std.specs.Prelude.{not, ◌&&◌, count_by, slice_index_or}
use Rattle.std.specs.List.{range_with_len}
use Rattle.std.proofs.lemmas.Bool.{false≢true}
use Rattle.std.proofs.lemmas.List.FromFn.{length-range_with_len, get_or-range_with_len}
use Rattle.std.proofs.lemmas.List.Sums.{get_or-le-sum_by}
use Rattle.scheduler.specs.MoveTable.{MoveTable, region_count, to_fill}
use Rattle.scheduler.specs.State.{State, unsettled, AllAreSettled}

-- if the count is 0, no element passes
none_passes : (p : ℕ → Bool) (xs : List ℕ) (k : ℕ) → count_by p xs ≡ 0 → k < length xs → p (get_or xs k 0) ≡ false
none_passes p xs k none inside = go (p (get_or xs k 0)) (get_or-le-sum_by (λ y. cond (p y) 1 0) xs k 0 inside)
  where
    go : (b : Bool) → cond {A = ℕ} b 1 0 ≤ count_by p xs → b ≡ false
    go true few = absurd (omega (arith, none, few))
    go false few = refl

-- a flag that is set is in the list
flag_inside : (flags : List Bool) (r : ℕ) → slice_index_or flags r false ≡ true → r < length flags
flag_inside [] r set = absurd (false≢true set)
flag_inside (b ∷ bs) zero set = omega arith
flag_inside (b ∷ bs) (suc r) set = let rest = flag_inside bs r set in omega arith

both_false : (a b : Bool) → (a && not b) ≡ false → a ≡ true → b ≡ true
both_false true true none set = refl
both_false true false none set = absurd (false≢true (sym none))
both_false false b none set = absurd (false≢true set)

pub none_left : (m : MoveTable) (now : State) → unsettled m now ≡ 0 → AllAreSettled m now
none_left m now none r fills =
    let n : ℕ = region_count m in
    let inside : r < n = flag_inside m.fill r fills in
    let below : r < length (range_with_len 0 n) = omega (arith, inside, length-range_with_len 0 n) in
    let at : get_or (range_with_len 0 n) r 0 ≡ r = get_or-range_with_len 0 n r 0 inside ∙ omega arith in
    both_false (to_fill m r) (now.settled r)
    (subst (λ (q : ℕ). (to_fill m q && not (now.settled q)) ≡ false) at (none_passes (λ q. to_fill m q && not (now.settled q)) (range_with_len 0 n) r none below)) fills
