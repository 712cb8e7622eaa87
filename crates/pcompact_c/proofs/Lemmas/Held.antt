-- A handle by value, and the part behind it. Assumes `Logic`.
--     E                        a box of a part on the heap
--     word                     a handle as the machine stores it
--     handle_in, handle_out    a handle by value is what stands behind its pointer
--     some_of                  an option that is some
use mathlib.Core.Path.{◌≡◌, refl, sym}
use mathlib.Core.Bool.{Bool, true}
use mathlib.Core.List.{List, [], ◌∷◌}
use seplogic.Ra.Ura.{Ura}
use mir.Syntax.{impl, tnil, dnil}
use mir.Val.{Val, vbool, vstruct, vcons, vnil}
use base.Fml.{ftrue}
use types.Logic.{Logic}
use types.Kit.{Goal, Step, step, Item, ‵, ◌$◌, move, drop, fsplit, fjoin, fpack}
use denote.RattleType.{RattleType}
use denote.RawPtr.{Ptr, ptr_val}
use denote.Shadow.{pure_i}
use denote.Steps.{nothing}
use denote.Struct.Struct.{Struct}
use denote.Struct.Owning.{shape}
use Rattle.std.specs.Prelude.{Option, Some, None, is_some}
use Rattle.std.proofs.lemmas.Bool.{true≢false}
use Rattle.std_alloc.proofs.BoxSteps.Form.{Bx}
use Rattle.std_heap.specs.contracts.Global as Heap
use Rattle.std_heap.specs.contracts.GlobalAllocator.TheImpl.{ghosts, dict}
use Rattle.std_heap.proofs.Global.TheLaws as heap
use Rattle.caller_heap.specs.contracts.part.Part as Part
use Rattle.caller_heap.proofs.part.Part.TheLaws as part
use Rattle.pcompact_c.specs.Handles.{held}
use Rattle.pcompact_c.specs.contracts.handle.PcompactHandle as Handle
use Rattle.pcompact_c.specs.contracts.handle.PcompactHandle.TheInside as Inside

abbrev pub E : Bx
E = record { row = Part.the_row; laws = part.the_row_laws; al = record { row = Heap.the_row; laws = heap.the_row_laws; g = ghosts; d = dict; drops = impl [] tnil dnil } }

abbrev pub word : Bool → Ptr → Val
word tag p = vstruct (vcons (vbool tag) (vcons (ptr_val p) vnil))

pub some_of : {X : Type 0} (o : Option X) → is_some o ≡ true → (x : X) × (o ≡ Some x)
some_of (Some x) is = (x, refl)
some_of None is = absurd (true≢false (sym is))

abbrev Words : RattleType
Words = Struct (shape Inside.the_type)

module _ {M : Type 1} {𝓤 : Ura M} {𝓛 : Logic 𝓤} {K : Type 0} {Γ : List (Item 𝓤)} {G : Goal 𝓤 𝓛.H} where
  pub handle_in : K → (tag : Bool) (p : Ptr) (part : Option Part.the_row.Denot) → tag ≡ is_some part
      → Step K 𝓛 (‵ (Handle.the_row.own_val (tag, p, part) (word tag p ∷ [])) ∷ Γ) G (‵ (held p part) ∷ Γ) G
  handle_in t tag p part is = step (λ s.
      pure_i t (Words.own_val (tag, (p, tt)) (word tag p ∷ [])) (λ vss. (tt, (tt, (tt, tt)))) ((vbool tag ∷ [], (ptr_val p ∷ [], tt)), (refl, (refl, (refl, tt)))) $ fjoin t $
      nothing t $ fpack t ((Handle.the_view (Handle.the_inverse (tag, p, part)) ≡ (tag, p, part)) × Handle.the_invariant (Handle.the_inverse (tag, p, part))) (λ _. ftrue) (refl, is) $ move t (1 ∷ 0 ∷ []) $ fjoin t $ s)

  pub handle_out : K → (tag : Bool) (p : Ptr) (part : Option Part.the_row.Denot)
      → Step K 𝓛 (‵ (held p part) ∷ Γ) G (‵ (Handle.the_row.own_val (tag, p, part) (word tag p ∷ [])) ∷ Γ) G
  handle_out t tag p part = step (λ s. fsplit t $ fsplit t $ drop t $ move t (1 ∷ []) $ drop t $ s)
