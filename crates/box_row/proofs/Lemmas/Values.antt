-- Places that all hold a value are values side by side, and values side by side are such places. Assumes `Logic`.
use Rattle.std.proofs.Common.{◌≡◌, ℕ, ◌<◌, List, [], ◌∷◌, length, refl, arith}
use Prim.Native.Nat.{suc}
use mathlib.Core.Bool.{Bool, false, true}
use native.Mathlib.Nat.{not-suc-le-zero}
use lib.ListN.{get_or, replicate}
use seplogic.Ra.Ura.{Ura}
use base.Logic.{ent, emp, id⊢}
use types.Kit.{‵, ◌$◌, ◌∵◌, !, qed, by, frame, rewrite}
use types.Logic.{Logic, sem}
use denote.RattleType.{RattleType}
use denote.RawPtr.{Ptr, ◌+ₚ◌}
use Rattle.core.specs.Mem.Slots.Ownership.{bytes_of, slot, slots}
use Rattle.box_row.specs.Ownership.{values}

module _ (R : RattleType) {M : Type 1} {𝓤 : Ura M} (𝓛 : Logic 𝓤) where
  pub of_slots : (p : Ptr) (xs : List R.Denot) (fs : List Bool) → length fs ≡ length xs → ((k : ℕ) → k < length fs → get_or fs k false ≡ true)
      → ent 𝓤 (sem 𝓛 (slots R p xs fs)) (sem 𝓛 (values R (bytes_of R) p xs))
  of_slots p [] fs same full = id⊢ 𝓤 (emp 𝓤)
  of_slots p (x ∷ xs) [] same full = let wrong : 0 ≡ suc (length xs) = same in absurd (not-suc-le-zero {n = 0} (omega arith))
  of_slots p (x ∷ xs) (f ∷ fs) same full = let same' : suc (length fs) ≡ suc (length xs) = same in
      qed 𝓛 (‵ (slot R f p x) ∷ ‵ (slots R (p +ₚ bytes_of R) xs fs) ∷ []) ∵
      rewrite ! 0 (λ (g : Bool). ‵ (slot R g p x)) (full 0 (let up : 0 < suc (length fs) = omega arith in up)) refl $ frame ! $
      by ! (of_slots (p +ₚ bytes_of R) xs fs (omega arith) (λ k low. full (suc k) (let up : suc k < suc (length fs) = omega arith in up)))

  pub to_slots : (p : Ptr) (xs : List R.Denot) → ent 𝓤 (sem 𝓛 (values R (bytes_of R) p xs)) (sem 𝓛 (slots R p xs (replicate (length xs) true)))
  to_slots p [] = id⊢ 𝓤 (emp 𝓤)
  to_slots p (x ∷ xs) = qed 𝓛 (‵ (slot R true p x) ∷ ‵ (values R (bytes_of R) (p +ₚ bytes_of R) xs) ∷ []) ∵ frame ! $ by ! (to_slots (p +ₚ bytes_of R) xs)
