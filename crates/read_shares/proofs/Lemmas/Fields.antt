-- A share and a term as the machine stores them: a share is a struct of one pointer. Assumes `Logic`.
--     word, Field      the machine value, and its type without what a share owns
--     made      the field is made of nothing
--     shows_at      a `&` to it shows the pointer
--     typed      a pointer into a block has its type
--     Marker, marked      a term is a struct of no fields, which is made of nothing
use Rattle.std.proofs.Common.{ℕ, ◌+◌, T, [], ◌∷◌, refl}
use seplogic.Ra.Ura.{Ura}
use base.Fml.{Lft}
use base.Logic.{ent, emp, sep}
use mir.Syntax.{ty_ptr, ty_struct, tcons, tnil}
use mir.Val.{Val, WT, has_ty, vcons, vnil, vstruct}
use types.Kit.{‵, ◌$◌, ◌∵◌, !, qed, done, fsplit, keep}
use types.Logic.{Logic, sem}
use denote.Builtin.{RawPtr}
use denote.Memory.{hidden_shr}
use denote.Opens.{hide, shr_dup, unhide}
use denote.RattleType.{RattleType}
use denote.RawPtr.{InBlock, Ptr, block_ptr, null_ptr, ptr_row_laws, ptr_val}
use denote.Shadow.{pure_i}
use denote.Struct.Owning.{shape}
use denote.Struct.Struct.{Struct, Struct-row_laws}
use Rattle.read_shares.specs.contracts.share.ReadShare as share
use Rattle.read_shares.specs.contracts.term.Term as term

abbrev pub word : Ptr → Val
word p = vstruct (vcons (ptr_val p) vnil)

pub typed_ptr : (p : Ptr) → InBlock p → T (has_ty ty_ptr (ptr_val p)) × WT (ptr_val p)
typed_ptr (block_ptr b o) inside = (tt, tt)
typed_ptr null_ptr inside = absurd inside

pub typed : (p : Ptr) → InBlock p → T (has_ty (ty_struct [] (tcons ty_ptr tnil)) (word p)) × WT (word p)
typed (block_ptr b o) inside = (tt, (tt, tt))
typed null_ptr inside = absurd inside

module _ (R : RattleType) where
  abbrev pub Field : RattleType
  Field = Struct (shape (share.the_type R))

  module _ {M : Type 1} {𝓤 : Ura M} (𝓛 : Logic 𝓤) (p : Ptr) where
    pub made : ent 𝓤 (emp 𝓤) (sem 𝓛 (Field.own_val (p, tt) (word p ∷ [])))
    made = qed 𝓛 [] ∵ pure_i ! (Field.own_val (p, tt) (word p ∷ [])) (λ vss. (tt, (tt, tt))) ((ptr_val p ∷ [], tt), (refl, (refl, tt))) $ done !

    pub shows_at : (κ : Lft) (b o : ℕ) → ent 𝓤 (sem 𝓛 (hidden_shr Field κ (p, tt) b o)) (sep 𝓤 (sem 𝓛 (hidden_shr RawPtr κ p b (o + 0))) (sem 𝓛 (hidden_shr Field κ (p, tt) b o)))
    shows_at κ b o = qed 𝓛 (‵ (hidden_shr Field κ (p, tt) b o) ∷ []) ∵
        shr_dup ! Field (Struct-row_laws (shape (share.the_type R)) (ptr_row_laws, tt)) (p, tt) b o κ $ unhide ! $ fsplit ! $ fsplit ! $ hide ! $ keep ! (0 ∷ 3 ∷ []) $ done !

abbrev pub Marker : RattleType
Marker = Struct (shape term.the_type)

pub marked : {M : Type 1} {𝓤 : Ura M} (𝓛 : Logic 𝓤) → ent 𝓤 (emp 𝓤) (sem 𝓛 (Marker.own_val tt (vstruct vnil ∷ [])))
marked 𝓛 = qed 𝓛 [] ∵ pure_i ! (Marker.own_val tt (vstruct vnil ∷ [])) (λ vss. (tt, tt)) (tt, (refl, tt)) $ done !
