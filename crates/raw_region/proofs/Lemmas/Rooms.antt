-- Room for words: its fields, those of a part, and how it is cut and glued. Assumes `Logic`.
use mathlib.Core.Path.{◌≡◌, subst, sym, ap, ◌∙◌}
use Prim.Native.Nat.{ℕ, zero, suc, ◌+◌, ◌*◌}
use native.Mathlib.Omega.{arith}
use seplogic.Ra.Ura.{Ura}
use mir.Syntax.{w64, ty_int, ty_array}
use base.Logic.{ent, sep}
use base.Fml.{froom}
use types.Logic.{Logic, sem}
use denote.RattleType.{RattleType}
use denote.RawPtr.Room.{past, room_cut, room_glue}
use denote.Struct.Struct.{Struct}
use denote.Struct.Owning.{shape}
use denote.RawPtr.{Ptr, block_ptr, null_ptr, block_of, count_of, InBlock}
use Rattle.raw_region.specs.Cutting.{end_of}
use Rattle.core.specs.declared.option.Option.TheVariants.{None}
use Rattle.raw_region.specs.Block.{Deed}
use Rattle.raw_region.specs.PartRoom.{held_by}
use Rattle.raw_region.specs.declared.room.Room.{Room}
use Rattle.raw_region.specs.contracts.room.Room.{the_row, the_type}
use Rattle.raw_region.specs.contracts.part.Part as P

-- the fields, without what the room owns besides
abbrev pub RoomFields : RattleType
RoomFields = Struct (shape the_type)

abbrev pub fields_of : the_row.Denot → RoomFields.Denot
fields_of d = (d.at, (d.len, tt))

abbrev pub PartFields : RattleType
PartFields = Struct (shape P.the_type)

-- a part holds the room of which it was made
pub held_is : (d : Room) (p : Ptr) → d.at ≡ p → d.deed ≡ None → held_by (record { at = p; len = d.len }) ≡ d
held_is d p at is = ap (λ (q : Ptr). held_by (record { at = q; len = d.len })) (sym at) ∙ ap (λ (t : Deed). record d { deed = t }) (sym is)

-- where room begins, if some words further on it is a place in a block
pub begins : (p : Ptr) (m b o : ℕ) → end_of p m ≡ block_ptr b o → (start : ℕ) × (p ≡ block_ptr b start) × (o ≡ start + m * 8)
begins (block_ptr c start) m b o is = (start, ap (λ (k : ℕ). block_ptr k start) (ap block_of is), sym (ap count_of is))
begins null_ptr m b o is = absurd (subst InBlock (sym is) tt)

past_words : (m o : ℕ) → past (ty_int w64) m o ≡ o + m * 8
past_words zero o = omega arith
past_words (suc m) o = past_words m (o + 8) ∙ omega arith

module _ {M : Type 1} {𝓤 : Ura M} (𝓛 : Logic 𝓤) where
  pub room-cut : (m n k b o : ℕ) → m + n ≡ k
      → ent 𝓤 (sem 𝓛 (froom (ty_array (ty_int w64) k) b o)) (sep 𝓤 (sem 𝓛 (froom (ty_array (ty_int w64) m) b o)) (sem 𝓛 (froom (ty_array (ty_int w64) n) b (o + m * 8))))
  room-cut m n k b o all =
      subst (λ (j : ℕ). ent 𝓤 (sem 𝓛 (froom (ty_array (ty_int w64) j) b o)) (sep 𝓤 (sem 𝓛 (froom (ty_array (ty_int w64) m) b o)) (sem 𝓛 (froom (ty_array (ty_int w64) n) b (o + m * 8))))) all
      (subst (λ (p : ℕ). ent 𝓤 (sem 𝓛 (froom (ty_array (ty_int w64) (m + n)) b o)) (sep 𝓤 (sem 𝓛 (froom (ty_array (ty_int w64) m) b o)) (sem 𝓛 (froom (ty_array (ty_int w64) n) b p)))) (past_words m o) (room_cut 𝓛 (ty_int w64) m n b o))

  pub room-join : (m n b o : ℕ)
      → ent 𝓤 (sep 𝓤 (sem 𝓛 (froom (ty_array (ty_int w64) m) b o)) (sem 𝓛 (froom (ty_array (ty_int w64) n) b (o + m * 8)))) (sem 𝓛 (froom (ty_array (ty_int w64) (m + n)) b o))
  room-join m n b o =
      subst (λ (p : ℕ). ent 𝓤 (sep 𝓤 (sem 𝓛 (froom (ty_array (ty_int w64) m) b o)) (sem 𝓛 (froom (ty_array (ty_int w64) n) b p))) (sem 𝓛 (froom (ty_array (ty_int w64) (m + n)) b o))) (past_words m o) (room_glue 𝓛 (ty_int w64) m n b o)
