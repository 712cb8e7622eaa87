-- Sizes that are noted in pieces.
use Rattle.std.proofs.Common.{◌≡◌, ℕ, ◌+◌, ◌<◌, ◌≤◌, ◌⊎◌, inl, inr, List, [], ◌∷◌, ◌++◌, length, replicate, get_or, set, sym, ap, ◌∙◌, subst, arith}
use Rattle.std.proofs.lemmas.Bool.{cases_eq, cases_lt}
use Rattle.std.proofs.lemmas.List.{get_or-replicate, get_or-set_same, get_or-set_other, get_or_append_left, get_or_push, length-set, length_push}
use Rattle.object_heap.specs.HeapImage.{HeapImage}
use Rattle.heap_marking.specs.Soundness.{AreAllNoted, AreNoted}

-- a number that is at most another one and isn't that
below : (p n : ℕ) → p < n + 1 → (p ≡ n → ⊥) → p < n
below p n l other = go (cases_lt p n)
  where
    go : (p < n) ⊎ (n ≤ p) → p < n
    go (inl less) = less
    go (inr most) = absurd (other (omega arith))

-- where no size is above 0, none is noted
pub none_noted : (image : HeapImage) (piece : ℕ) → AreNoted image piece (replicate 64 0)
none_noted image piece j l inside some = let zero = get_or-replicate {A = ℕ} 64 j 0 0 l in absurd (omega (arith, zero, some))

-- sizes that are noted stay so with one more piece
pub one_more_piece : (image : HeapImage) (sizes : List (List ℕ)) (piece : List ℕ) → AreAllNoted image sizes → AreNoted image (length sizes) piece
    → AreAllNoted image (sizes ++ piece ∷ [])
one_more_piece image sizes piece all one p l = go (cases_eq p (length sizes))
  where
    go : (p ≡ length sizes) ⊎ (p ≡ length sizes → ⊥) → AreNoted image p (get_or (sizes ++ piece ∷ []) p [])
    go (inl last) =
        let here : get_or (sizes ++ piece ∷ []) p [] ≡ piece = get_or_push sizes piece [] p (sym last) in
        subst (AreNoted image p) (sym here) (subst (λ q. AreNoted image q piece) (sym last) one)
    go (inr before) =
        let inside : p < length sizes = below p (length sizes) (let long = length_push sizes piece in omega (arith, long, l)) before in
        subst (AreNoted image p) (sym (get_or_append_left sizes (piece ∷ []) [] p inside)) (all p inside)
