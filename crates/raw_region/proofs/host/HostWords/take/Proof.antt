-- `take` makes the block again.
use Rattle.raw_region.proofs.Lemmas.Steps.{◌≡◌, [], ◌∷◌, refl, sym, proved, ftrue, w64, Val, vptr, vint, tables, fact, ‵, raw, ◌⊛◌, ◌$◌, ◌∵◌, !, qed, move, drop, split, join, fjoin, rewrite, suffices, done, agg, whole, sub, enter, of_opd, stop, fld, no_more, and_then, returns, alloc_all, pass_all, free_all, look_at, get, get_in, sets, yes, Ptr, block_ptr, plain, nothing, heard, Stays, walk_of, says, stay_dropped, ends_at}
use mathlib.Core.Bool.{Bool, true}
use Rattle.core.specs.declared.option.Option.TheVariants.{None as Nothing}
use mir.Val.{vstruct, vcons, vnil}
use prog.Wp.{WpFn}
use types.Kit.{prop, regoal}
use denote.Shadow.{pure_i}
use Rattle.core.proofs.alloc.Calls.{Goes-blank}
use Rattle.raw_region.specs.Block.{held_block}
use Rattle.raw_region.specs.contracts.block.Block as B
use Rattle.raw_region.specs.contracts.host.HostWords as Host
use Rattle.raw_region.proofs.host.HostWords.TheLaws.{lowers}
use Rattle.raw_region.specs.contracts.host.HostWords.take as f
use Rattle.raw_region.proofs.host.HostWords.take.Statement.{statement}
use Rattle.raw_region.proofs.host.HostWords.take.Code as code
use Rattle.raw_region.proofs.Lemmas.Fields.{Plain, plain_of}
use Rattle.raw_region.proofs.Lemmas.Held.{host_out, opened}

abbrev stayed : Stays f.ended.signature.params f.ended.kept
stayed = (stay_dropped (plain (λ _. Host.the_row)) yes, tt)

pub take_spec : {M : Type 1} → statement M
take_spec 𝓤 𝓛 𝓜 𝓡 wired =
    let c = f.clauses 𝓛 𝓜.mem 𝓡.returns in let W = walk_of 𝓛 f.ended stayed c in let 𝓣 = tables 𝓤 𝓛.H 𝓜 𝓡 𝓡.env in
    proved 𝓛 f.ended stayed c 𝓜 𝓡 (Goes-blank 𝓛 0 (plain (λ _. Host.the_row)) yes (λ κs x w. tt), tt) f.Key.name code.function (code.unfolded 𝓤 𝓛.H 𝓜 𝓡 wired)
    (λ κs. ((λ d. lowers.lowered d ∷ []), tt)) (λ κs. (lowers.val_is, tt)) (λ κs qs bounds a _ are.
    let d = a.0 in let n = d.2 in let ws = d.3 in let y : W.Ghost = ((κs, qs, bounds, a, (lowers.lowered d ∷ [], tt)), tt) in
    qed 𝓛 ((‵ ftrue ⊛ ‵ (Host.the_row.own_val d (lowers.lowered d ∷ [])) ⊛ ‵ ftrue) ∷ raw (fact 𝓤 (d.0 ≡ true)) ∷ []) ∵
    move ! (1 ∷ []) $ heard ! (d.0 ≡ true) (λ is. split ! $ drop ! $ split ! $ move ! (1 ∷ []) $ drop ! $ host_out ! d.0 d.1 n ws $ rewrite ! 0 (λ (t : Bool). ‵ (held_block t d.1 n ws)) is refl $
    opened ! d.1 n ws (λ b o e fits. let p = block_ptr b o in let made : B.the_row.Denot = record { at = p; len = n; words = ws; deed = Nothing } in let cell : Val = vstruct (vcons (vptr b o) (vcons (vint w64 n) vnil)) in
    regoal ! (λ (q : Ptr). prop (WpFn 𝓤 𝓛.H 𝓣.C 𝓣.Λ code.function (lowers.lowered (d.0, q, n, ws) ∷ []) (W.post y))) e refl $
    enter ! _ _ _ _ _ $ alloc_all ! (λ l. pass_all ! refl ((tt, (tt, (tt, (record { fits = fits }, tt)))), tt) $
    sets ! (of_opd ! (get_in ! (fld ! refl (stop !)) (sub ! 1 refl (whole !)))) refl (tt, tt) $
    sets ! (of_opd ! (get_in ! (fld ! refl (stop !)) (sub ! 2 refl (whole !)))) refl (tt, record { fits = fits }) $
    sets ! (agg ! (and_then ! (get ! refl) (and_then ! (get ! refl) (no_more !)))) refl (tt, (tt, (record { fits = fits }, tt))) $
    returns ! (look_at ! 0 refl) $ free_all ! refl $
    pure_i ! (Plain.own_val (plain_of made) (cell ∷ [])) (λ vss. (tt, (tt, ((tt, tt), tt)))) ((vptr b o ∷ [], (vint w64 n ∷ [], tt)), (refl, (refl, ((refl, fits), tt)))) $ fjoin ! $
    suffices ! _ (ends_at 𝓛 f.ended stayed c y cell made (tt, tt) (tt, tt)) $ says ! (sym e, refl, refl, refl) $
    nothing ! $ nothing ! $ join ! $ nothing ! $ done !))))
