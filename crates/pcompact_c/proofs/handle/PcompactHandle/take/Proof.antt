-- `take` gives the box that the handle holds.
use Rattle.std.proofs.Common.{◌≡◌, [], ◌∷◌, refl}
use Rattle.std.proofs.raw_atomic.Walks.{proved}
use Rattle.std.specs.Prelude.{Option, is_some}
use base.Logic.{id⊢, fst∗, never}
use base.Fml.{ftrue}
use mathlib.Core.Bool.{true}
use mir.Raw.{raw as bare}
use prog.Wp.{WpFn}
use types.Logic.{sem}
use contract.Monad.{fact}
use contract.Running.{tables}
use types.Kit.{‵, raw, prop, ◌⊛◌, ◌$◌, ◌∵◌, !, qed, move, drop, use1, join, split, fsplit, regoal, rewrite, suffices, done}
use types.Part.{whole, sub, agg}
use types.Run.{stop, fld, no_more, and_then, of_opd, returns, enter}
use types.ByLocal.{alloc_all, pass_all, free_all, look_at, get, get_in, sets}
use denote.Exit.{yes}
use denote.RattleType.{RattleType}
use denote.RawPtr.{Ptr, block_ptr, null_ptr, in_a_block}
use denote.Signature.{plain}
use denote.Steps.{nothing, heard}
use denote.Triple.Walked.{says, Stays, stay_dropped, walk_of, ends_at, Goes-dropped}
use Rattle.std_alloc.specs.Box.Ownership.{box_owns}
use Rattle.std_alloc.proofs.BoxSteps.Form as box
use Rattle.std_alloc.proofs.BoxSteps.Steps.{box_in}
use Rattle.core.proofs.alloc.Calls.{token, Fits, Goes-blank}
use Rattle.std_heap.proofs.Handle.{heap_val, heap_Tells}
use Rattle.std_heap.specs.contracts.Global as Heap
use Rattle.std_heap.specs.contracts.GlobalAllocator.TheImpl.{ghosts}
use Rattle.caller_heap.specs.contracts.part.Part as Part
use Rattle.pcompact_c.specs.Handles.{held}
use Rattle.pcompact_c.specs.contracts.raw_box.RawBox as RawBox
use Rattle.pcompact_c.specs.contracts.handle.PcompactHandle as Handle
use Rattle.pcompact_c.proofs.handle.PcompactHandle.TheLaws.{lowers}
use Rattle.pcompact_c.specs.contracts.handle.PcompactHandle.take as f
use Rattle.pcompact_c.proofs.handle.PcompactHandle.take.Statement.{statement}
use Rattle.pcompact_c.proofs.handle.PcompactHandle.take.Code as code
use Rattle.pcompact_c.proofs.Lemmas.Held.{E, handle_out, some_of}

abbrev To : RattleType
To = RawBox.the_row Part.the_row Heap.the_row ghosts

abbrev stayed : Stays f.ended.signature.params f.ended.kept
stayed = (stay_dropped (plain (λ _. Handle.the_row)) yes, (stay_dropped (plain (λ _. Heap.the_row)) yes, tt))

abbrev fits : Fits E.al heap_val
fits = (tt, ((tt, tt), tt))

pub take_spec : {M : Type 1} → statement M
take_spec 𝓤 𝓛 𝓜 𝓡 wired =
    let c = f.clauses 𝓛 𝓜.mem 𝓡.returns in let W = walk_of 𝓛 f.ended stayed c in let 𝓣 = tables 𝓤 𝓛.H 𝓜 𝓡 𝓡.env in
    proved 𝓛 f.ended stayed c 𝓜 𝓡 (Goes-blank 𝓛 0 (plain (λ _. Handle.the_row)) yes (λ κs x w. tt), (Goes-dropped 𝓛 0 (plain (λ _. Heap.the_row)) yes (λ κs x w. refl), tt))
    f.Key.name code.function (code.unfolded 𝓤 𝓛.H 𝓜 𝓡 wired)
    (λ κs. ((λ d. lowers.lowered d ∷ []), ((λ _. heap_val ∷ []), tt))) (λ κs. (lowers.val_is, (heap_Tells, tt))) (λ κs qs bounds a _ are.
    let d = a.0 in let h = a.1.0 in
    let y : W.Ghost = ((κs, qs, bounds, a, (lowers.lowered d ∷ [], (heap_val ∷ [], tt))), tt) in
    qed 𝓛 ((‵ ftrue ⊛ ‵ (Handle.the_row.own_val d (lowers.lowered d ∷ [])) ⊛ ‵ (Heap.the_row.own_val h (heap_val ∷ [])) ⊛ ‵ ftrue) ∷ raw (fact 𝓤 (is_some d.2 ≡ true)) ∷ []) ∵
    move ! (1 ∷ []) $ heard ! (is_some d.2 ≡ true) (λ is. let some = some_of d.2 is in let x = some.0 in let Owns = box_owns (token E.al h) (box.R E) in
    split ! $ drop ! $ split ! $ handle_out ! d.0 d.1 d.2 $ rewrite ! 0 (λ (o : Option Part.the_row.Denot). ‵ (held d.1 o)) some.1 refl $
    in_a_block ! d.1 (λ (q : Ptr). Owns q x) (fst∗ 𝓤 (never 𝓤) (sem 𝓛 (token E.al h (bare (box.τ E)) null_ptr))) (λ b o e. let p = block_ptr b o in
    let boxed : box.D E = record { ptr = p; alloc = h; value = x } in let made : To.Denot = record { at = p; alloc = h; value = x } in let w = box.word E heap_val b o in
    fsplit ! $ move ! (2 ∷ []) $ split ! $ move ! (2 ∷ 3 ∷ 0 ∷ []) $ box_in E ! boxed b o x refl refl $ use1 𝓛 (‵ (To.own_val made (w ∷ []))) (id⊢ 𝓤 _) $ move ! (1 ∷ []) $ drop ! $
    regoal ! (λ (q : Ptr). prop (WpFn 𝓤 𝓛.H 𝓣.C 𝓣.Λ code.function (lowers.lowered (d.0, q, d.2) ∷ heap_val ∷ []) (W.post y))) e refl $
    enter ! _ _ _ _ _ $ alloc_all ! (λ l. pass_all ! refl ((tt, (tt, (tt, tt))), (fits, tt)) $
    sets ! (of_opd ! (get_in ! (fld ! refl (stop !)) (sub ! 1 refl (whole !)))) refl (tt, tt) $
    sets ! (of_opd ! (get ! refl)) refl (tt, tt) $
    sets ! (agg ! (and_then ! (get ! refl) (and_then ! (get ! refl) (no_more !)))) refl (box.box_typed E heap_val b o fits) $
    returns ! (look_at ! 0 refl) $ free_all ! refl $
    suffices ! _ (ends_at 𝓛 f.ended stayed c y w made (tt, (tt, tt)) (tt, (tt, tt))) $ says ! some.1 $
    nothing ! $ nothing ! $ join ! $ nothing ! $ join ! $ nothing ! $ done !))))
