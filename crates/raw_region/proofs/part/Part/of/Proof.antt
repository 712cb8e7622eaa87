-- `of` keeps what the room owns, and forgets where it lies.
use Rattle.raw_region.proofs.Lemmas.Steps.{◌≡◌, refl, [], ◌∷◌, ◌<◌, ◌^◌, arith, proved, id⊢, ftrue, w64, Val, tables, fact, ‵, raw, ◌⊛◌, ◌$◌, ◌∵◌, !, qed, done, move, drop, split, join, fsplit, fjoin, flt_i, flt_l, rewrite, suffices, agg, enter, no_more, returns, alloc_all, pass_all, free_all, look_at, sets, yes, Ptr, block_ptr, in_a_block, plain, nothing, heard, Stays, walk_of, says, stay_dropped, ends_at}
use Rattle.core.specs.declared.option.Option.TheVariants.{None as Nothing}
use mir.Val.{vstruct, vnil}
use prog.Wp.{WpFn}
use types.Kit.{prop, regoal}
use denote.RawPtr.{room_for}
use mir.Syntax.{ty_int, ty_array}
use denote.Shadow.{pure_i}
use Rattle.core.proofs.alloc.Calls.{Goes-blank}
use Rattle.raw_region.specs.Block.{Deed, right}
use Rattle.raw_region.specs.contracts.part.Part.of as f
use Rattle.raw_region.proofs.part.Part.of.Statement.{statement}
use Rattle.raw_region.proofs.part.Part.of.Code as code
use Rattle.raw_region.specs.contracts.part.Part as P
use Rattle.raw_region.specs.contracts.room.Room as R
use Rattle.raw_region.proofs.room.Room.TheLaws.{lowers}
use Rattle.raw_region.proofs.Lemmas.Rooms.{PartFields, held_is}

abbrev stayed : Stays f.ended.signature.params f.ended.kept
stayed = (stay_dropped (plain (λ _. R.the_row)) yes, tt)

pub of_spec : {M : Type 1} → statement M
of_spec 𝓤 𝓛 𝓜 𝓡 wired =
    let c = f.clauses 𝓛 𝓜.mem 𝓡.returns in let W = walk_of 𝓛 f.ended stayed c in let 𝓣 = tables 𝓤 𝓛.H 𝓜 𝓡 𝓡.env in
    proved 𝓛 f.ended stayed c 𝓜 𝓡 (Goes-blank 𝓛 0 (plain (λ _. R.the_row)) yes (λ κs x w. tt), tt) f.Key.name code.function (code.unfolded 𝓤 𝓛.H 𝓜 𝓡 wired)
    (λ κs. ((λ d. lowers.lowered d ∷ []), tt)) (λ κs. (lowers.val_is, tt)) (λ κs qs bounds a _ are.
    let d = a.0 in let n = d.len in let y : W.Ghost = ((κs, qs, bounds, a, (lowers.lowered d ∷ [], tt)), tt) in
    qed 𝓛 ((‵ ftrue ⊛ ‵ (R.the_row.own_val d (lowers.lowered d ∷ [])) ⊛ ‵ ftrue) ∷ raw (fact 𝓤 (d.deed ≡ Nothing)) ∷ []) ∵
    move ! (1 ∷ []) $ heard ! (d.deed ≡ Nothing) (λ is. split ! $ drop ! $ split ! $ move ! (1 ∷ []) $ drop ! $ fsplit ! $ drop ! $ fsplit ! $ flt_l ! (λ small. fsplit ! $
    rewrite ! 1 (λ (t : Deed). ‵ (right t)) is refl $
    in_a_block ! d.at (λ p. room_for (ty_array (ty_int w64) n) p) (id⊢ 𝓤 _) (λ b o e.
    fjoin ! $ flt_i ! n (2 ^ 60) small $ fjoin ! $
    let fits : n < 2 ^ 64 = omega arith in
    let made : P.the_row.Denot = record { at = block_ptr b o; len = n } in let cell : Val = vstruct vnil in
    regoal ! (λ (p : Ptr). prop (WpFn 𝓤 𝓛.H 𝓣.C 𝓣.Λ code.function (lowers.lowered (record d { at = p }) ∷ []) (W.post y))) e refl $
    enter ! _ _ _ _ _ $ alloc_all ! (λ l. pass_all ! refl ((tt, (tt, (record { fits = fits }, tt))), tt) $
    sets ! (agg ! (no_more !)) refl (tt, tt) $
    returns ! (look_at ! 0 refl) $ free_all ! refl $
    pure_i ! (PartFields.own_val tt (cell ∷ [])) (λ vss. (tt, tt)) (tt, (refl, tt)) $ fjoin ! $
    suffices ! _ (ends_at 𝓛 f.ended stayed c y cell made (tt, tt) (tt, tt)) $ says ! (held_is d (block_ptr b o) e is) $
    nothing ! $ nothing ! $ join ! $ nothing ! $ done !)))))
