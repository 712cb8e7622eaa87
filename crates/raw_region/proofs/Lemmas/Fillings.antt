-- Room that is being filled: its fields, and one more word after those that are written. Assumes `Logic`.
use mathlib.Core.Path.{◌≡◌, refl}
use mathlib.Core.List.{List, [], ◌∷◌, ◌++◌}
use Prim.Native.Nat.{ℕ, suc, ◌+◌, ◌*◌}
use native.Mathlib.Omega.{arith}
use lib.ListN.{length}
use seplogic.Ra.Ura.{Ura}
use base.Fraction.{full_share}
use base.Logic.{ent, sep}
use base.Fml.{ftrue}
use types.Logic.{Logic, sem}
use types.Kit.{‵, ◌$◌, ◌∵◌, !, qed, move, drop, use2, fsplit, fjoin, rewrite, done}
use denote.Builtin.{u64}
use denote.Index.{row}
use denote.Memory.{part_at}
use denote.RattleType.{RattleType}
use denote.Steps.{nothing}
use denote.Struct.Struct.{Struct}
use denote.Struct.Owning.{shape}
use Rattle.raw_region.specs.contracts.filling.Filling.{the_row, the_type}

-- the fields, without what it owns besides
abbrev pub FillingFields : RattleType
FillingFields = Struct (shape the_type)

abbrev pub fields_of : the_row.Denot → FillingFields.Denot
fields_of d = (d.at, (d.len, (d.done, tt)))

pub row_more : {M : Type 1} {𝓤 : Ura M} (𝓛 : Logic 𝓤) (ws : List ℕ) (x b o : ℕ)
    → ent 𝓤 (sep 𝓤 (sem 𝓛 (row u64 full_share ws b o)) (sem 𝓛 (part_at u64 full_share x b (o + length ws * 8)))) (sem 𝓛 (row u64 full_share (ws ++ x ∷ []) b o))
row_more 𝓛 [] x b o =
    let here : o + 0 * 8 ≡ o = omega arith in
    qed 𝓛 (‵ ftrue ∷ ‵ (part_at u64 full_share x b (o + 0 * 8)) ∷ []) ∵ drop ! $ rewrite ! 0 (λ (k : ℕ). ‵ (part_at u64 full_share x b k)) here refl $
    nothing ! $ move ! (1 ∷ 0 ∷ []) $ fjoin ! $ done !
row_more 𝓛 (w ∷ ws) x b o =
    let here : o + suc (length ws) * 8 ≡ o + 8 + length ws * 8 = omega arith in
    qed 𝓛 (‵ (row u64 full_share (w ∷ ws) b o) ∷ ‵ (part_at u64 full_share x b (o + suc (length ws) * 8)) ∷ []) ∵ fsplit ! $ move ! (1 ∷ 2 ∷ []) $
    rewrite ! 1 (λ (k : ℕ). ‵ (part_at u64 full_share x b k)) here refl $
    use2 𝓛 (‵ (row u64 full_share (ws ++ x ∷ []) b (o + 8))) (row_more 𝓛 ws x b (o + 8)) $ move ! (1 ∷ 0 ∷ []) $ fjoin ! $ done !
