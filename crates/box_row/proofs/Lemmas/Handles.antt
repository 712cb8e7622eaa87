-- The handle of a box in a row, at calls. Assumes `Logic`.
--     Here, Passed      its type, and as a type argument of a call
--     here, blank      a handle, and its machine value, which takes no bytes
--     boxed      the box, with what a call at it takes
--     handle_made      a handle is made of nothing
use Rattle.std.proofs.Common.{ℕ, List, [], ◌∷◌, refl}
use seplogic.Ra.Ura.{Ura}
use base.Logic.{ent, emp}
use mir.Raw.{raw}
use mir.Syntax.{Dict, dnil, impl, tcons, tnil}
use mir.Val.{Val, vnil, vstruct}
use types.Kit.{‵, ◌$◌, ◌∵◌, !, qed, done, fjoin, use0}
use types.Logic.{Logic, sem}
use denote.Exit.{no}
use denote.Param.{arg, layout}
use denote.Param.Laws.{Laws, arg_laws}
use denote.RattleType.{RattleType}
use denote.RawPtr.{Ptr}
use denote.Steps.{nothing}
use denote.Struct.Owning.{shape}
use denote.Struct.Struct.{Struct, Struct-Makes}
use Rattle.std_alloc.proofs.BoxSteps.Form.{Bx}
use Rattle.box_row.specs.contracts.place.InRow as place
use Rattle.box_row.specs.contracts.place.InRowAllocator.TheImpl.{dict, ghosts}
use Rattle.box_row.proofs.place.InRow.TheLaws.{the_row_laws}
use Rattle.box_row.proofs.Destruct++none.drop.Symbol.{symbol}

abbrev pub Here : RattleType
Here = place.the_row

abbrev pub Passed : RattleType
Passed = arg (raw (layout Here)) no Here

abbrev pub passed_laws : Laws Passed
passed_laws = arg_laws (raw (layout Here)) no Here the_row_laws refl

abbrev pub here : Ptr → ℕ → Here.Denot
here row index = record { row = row; index = index }

abbrev pub blank : Val
blank = vstruct vnil

abbrev pub drops : Dict
drops = impl (symbol ∷ []) (tcons (layout Passed) tnil) dnil

abbrev pub boxed : (X : RattleType) → Laws X → Bx
boxed X L = record { row = X; laws = L; al = record { row = Passed; laws = passed_laws; g = ghosts; d = dict; drops = drops } }

pub handle_made : {M : Type 1} {𝓤 : Ura M} (𝓛 : Logic 𝓤) (a : Here.Denot) → ent 𝓤 (emp 𝓤) (sem 𝓛 (Here.own_val a (blank ∷ [])))
handle_made 𝓛 a = let S = shape place.the_type in
    qed 𝓛 [] ∵ nothing ! $ use0 𝓛 (‵ ((Struct S).own_val tt (blank ∷ []))) (Struct-Makes 𝓛 S tt tt (blank ∷ []) (tt, (refl, tt))) $ fjoin ! $ done !
