-- The rest of a row as the machine stores it: a struct of one pointer. Assumes `Logic`.
--     word, Field      the machine value, and its type without what the rest owns
--     made      the field is made of nothing
--     typed      a pointer into a block has its type
use Rattle.std.proofs.Common.{T, [], ◌∷◌, refl}
use seplogic.Ra.Ura.{Ura}
use base.Logic.{ent, emp}
use mir.Syntax.{ty_ptr, ty_struct, tcons, tnil}
use mir.Val.{Val, WT, has_ty, vcons, vnil, vstruct}
use types.Kit.{◌$◌, ◌∵◌, !, qed, done}
use types.Logic.{Logic, sem}
use denote.RattleType.{RattleType}
use denote.RawPtr.{InBlock, Ptr, block_ptr, null_ptr, ptr_val}
use denote.Shadow.{pure_i}
use denote.Struct.Owning.{shape}
use denote.Struct.Struct.{Struct}
use Rattle.box_row.specs.contracts.rest.Rest as rest

abbrev pub word : Ptr → Val
word p = vstruct (vcons (ptr_val p) vnil)

pub typed : (p : Ptr) → InBlock p → T (has_ty (ty_struct [] (tcons ty_ptr tnil)) (word p)) × WT (word p)
typed (block_ptr b o) inside = (tt, (tt, tt))
typed null_ptr inside = absurd inside

module _ (R : RattleType) where
  abbrev pub Field : RattleType
  Field = Struct (shape (rest.the_type R))

  pub made : {M : Type 1} {𝓤 : Ura M} (𝓛 : Logic 𝓤) (p : Ptr) → ent 𝓤 (emp 𝓤) (sem 𝓛 (Field.own_val (p, tt) (word p ∷ [])))
  made 𝓛 p = qed 𝓛 [] ∵ pure_i ! (Field.own_val (p, tt) (word p ∷ [])) (λ vss. (tt, (tt, tt))) ((ptr_val p ∷ [], tt), (refl, (refl, tt))) $ done !
