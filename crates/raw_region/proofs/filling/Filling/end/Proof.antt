-- `end` moves two of the fields. The room that is left is for no word.
use Rattle.raw_region.proofs.Lemmas.Steps.{◌≡◌, refl, sym, ap, subst, [], ◌∷◌, ℕ, ◌<◌, ◌^◌, arith, proved, full_share, id⊢, ftrue, w64, Val, vptr, vint, tables, fact, ‵, raw, ◌⊛◌, ◌$◌, ◌∵◌, !, qed, done, move, keep, drop, split, join, fsplit, fjoin, flt_i, flt_l, rewrite, suffices, agg, enter, of_opd, stop, fld, no_more, and_then, returns, alloc_all, pass_all, free_all, look_at, get, get_in, sets, sub, whole, Array, u64, yes, Ptr, block_ptr, in_a_block, plain, nothing, heard, Stays, walk_of, says, stay_dropped, ends_at}
use mir.Val.{vstruct, vcons, vnil}
use prog.Wp.{WpFn}
use types.Kit.{prop, regoal}
use denote.RawPtr.{lies_at}
use denote.Shadow.{pure_i}
use Rattle.core.proofs.alloc.Calls.{Goes-blank}
use Rattle.raw_region.specs.contracts.filling.Filling.end as f
use Rattle.raw_region.proofs.filling.Filling.end.Statement.{statement}
use Rattle.raw_region.proofs.filling.Filling.end.Code as code
use Rattle.raw_region.specs.FillingSteps.{room_filled}
use Rattle.raw_region.specs.contracts.block.Block as B
use Rattle.raw_region.specs.contracts.filling.Filling as F
use Rattle.raw_region.proofs.filling.Filling.TheLaws.{lowers}
use Rattle.raw_region.proofs.Lemmas.Fields.{Plain, plain_of}

abbrev stayed : Stays f.ended.signature.params f.ended.kept
stayed = (stay_dropped (plain (λ _. F.the_row)) yes, tt)

pub end_spec : {M : Type 1} → statement M
end_spec 𝓤 𝓛 𝓜 𝓡 wired =
    let c = f.clauses 𝓛 𝓜.mem 𝓡.returns in let W = walk_of 𝓛 f.ended stayed c in let 𝓣 = tables 𝓤 𝓛.H 𝓜 𝓡 𝓡.env in
    proved 𝓛 f.ended stayed c 𝓜 𝓡 (Goes-blank 𝓛 0 (plain (λ _. F.the_row)) yes (λ κs x w. tt), tt) f.Key.name code.function (code.unfolded 𝓤 𝓛.H 𝓜 𝓡 wired)
    (λ κs. ((λ d. lowers.lowered d ∷ []), tt)) (λ κs. (lowers.val_is, tt)) (λ κs qs bounds a _ are.
    let d = a.0 in let n = d.len in let y : W.Ghost = ((κs, qs, bounds, a, (lowers.lowered d ∷ [], tt)), tt) in
    qed 𝓛 ((‵ ftrue ⊛ ‵ (F.the_row.own_val d (lowers.lowered d ∷ [])) ⊛ ‵ ftrue) ∷ raw (fact 𝓤 (d.done ≡ n)) ∷ []) ∵
    move ! (1 ∷ []) $ heard ! (d.done ≡ n) (λ full. split ! $ drop ! $ split ! $ keep ! (0 ∷ []) $ fsplit ! $ drop ! $ fsplit ! $ flt_l ! (λ small. fsplit ! $
    rewrite ! 0 (λ (k : ℕ). ‵ (lies_at (Array u64 k) full_share d.at d.words)) full refl $ move ! (1 ∷ []) $ fsplit ! $ drop ! $ move ! (1 ∷ []) $
    -- [the words; the right]
    in_a_block ! d.at (λ p. lies_at (Array u64 n) full_share p d.words) (id⊢ 𝓤 _) (λ b o e.
    fjoin ! $ flt_i ! n (2 ^ 60) small $ fjoin ! $
    let fits : n < 2 ^ 64 = omega arith in let same : d.done < 2 ^ 64 = subst (λ k. k < 2 ^ 64) (sym full) fits in
    let made : B.the_row.Denot = record { at = block_ptr b o; len = n; words = d.words; deed = d.deed } in let cell : Val = vstruct (vcons (vptr b o) (vcons (vint w64 n) vnil)) in
    regoal ! (λ (p : Ptr). prop (WpFn 𝓤 𝓛.H 𝓣.C 𝓣.Λ code.function (lowers.lowered (record d { at = p }) ∷ []) (W.post y))) e refl $
    enter ! _ _ _ _ _ $ alloc_all ! (λ l. pass_all ! refl ((tt, (tt, (record { fits = fits }, (record { fits = same }, tt)))), tt) $
    sets ! (of_opd ! (get_in ! (fld ! refl (stop !)) (sub ! 0 refl (whole !)))) refl (tt, tt) $
    sets ! (of_opd ! (get_in ! (fld ! refl (stop !)) (sub ! 1 refl (whole !)))) refl (tt, record { fits = fits }) $
    sets ! (agg ! (and_then ! (get ! refl) (and_then ! (get ! refl) (no_more !)))) refl (tt, (tt, (record { fits = fits }, tt))) $
    returns ! (look_at ! 0 refl) $ free_all ! refl $
    pure_i ! (Plain.own_val (plain_of made) (cell ∷ [])) (λ vss. (tt, (tt, ((tt, tt), tt)))) ((vptr b o ∷ [], (vint w64 n ∷ [], tt)), (refl, (refl, ((refl, fits), tt)))) $ fjoin ! $
    suffices ! _ (ends_at 𝓛 f.ended stayed c y cell made (tt, tt) (tt, tt)) $ says ! (ap (λ (p : Ptr). room_filled (record d { at = p })) (sym e), refl) $
    nothing ! $ nothing ! $ join ! $ nothing ! $ done !)))))
