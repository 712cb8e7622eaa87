-- `of` moves a block's two fields, and what they own goes with them.
use Rattle.raw_region.proofs.Lemmas.Steps.{[], ◌∷◌, refl, sym, proved, ftrue, tables, ‵, ◌⊛◌, ◌$◌, ◌∵◌, !, qed, move, drop, split, join, fsplit, suffices, done, agg, whole, sub, enter, of_opd, stop, fld, no_more, and_then, returns, alloc_all, pass_all, free_all, look_at, get, get_in, sets, yes, Ptr, block_ptr, plain, nothing, Stays, walk_of, says, stay_dropped, ends_at}
use mathlib.Core.Bool.{true}
use Rattle.core.specs.declared.option.Option.TheVariants.{None as Nothing}
use mathlib.Core.Path.{◌≡◌}
use contract.Monad.{fact}
use types.Kit.{raw, rewrite}
use denote.Steps.{heard}
use Rattle.raw_region.specs.Block.{Deed, block_owns}
use prog.Wp.{WpFn}
use types.Kit.{prop, regoal}
use types.Run.{true_lit}
use Rattle.core.proofs.alloc.Calls.{Goes-blank}
use Rattle.raw_region.specs.contracts.block.Block as B
use Rattle.raw_region.proofs.block.Block.TheLaws.{lowers}
use Rattle.raw_region.specs.contracts.host.HostWords.of as f
use Rattle.raw_region.proofs.host.HostWords.of.Statement.{statement}
use Rattle.raw_region.proofs.host.HostWords.of.Code as code
use Rattle.raw_region.proofs.Lemmas.Held.{word, host_in, opened}

abbrev stayed : Stays f.ended.signature.params f.ended.kept
stayed = (stay_dropped (plain (λ _. B.the_row)) yes, tt)

pub of_spec : {M : Type 1} → statement M
of_spec 𝓤 𝓛 𝓜 𝓡 wired =
    let c = f.clauses 𝓛 𝓜.mem 𝓡.returns in let W = walk_of 𝓛 f.ended stayed c in let 𝓣 = tables 𝓤 𝓛.H 𝓜 𝓡 𝓡.env in
    proved 𝓛 f.ended stayed c 𝓜 𝓡 (Goes-blank 𝓛 0 (plain (λ _. B.the_row)) yes (λ κs x w. tt), tt) f.Key.name code.function (code.unfolded 𝓤 𝓛.H 𝓜 𝓡 wired)
    (λ κs. ((λ d. lowers.lowered d ∷ []), tt)) (λ κs. (lowers.val_is, tt)) (λ κs qs bounds a _ are.
    let d = a.0 in let n = d.len in let ws = d.words in let y : W.Ghost = ((κs, qs, bounds, a, (lowers.lowered d ∷ [], tt)), tt) in
    qed 𝓛 ((‵ ftrue ⊛ ‵ (B.the_row.own_val d (lowers.lowered d ∷ [])) ⊛ ‵ ftrue) ∷ raw (fact 𝓤 (d.deed ≡ Nothing)) ∷ []) ∵ move ! (1 ∷ []) $ heard ! (d.deed ≡ Nothing) (λ is. split ! $ drop ! $ split ! $ move ! (1 ∷ []) $ drop ! $ fsplit ! $ drop ! $ rewrite ! 0 (λ (t : Deed). ‵ (block_owns t d.at n ws)) is refl $
    opened ! d.at n ws (λ b o e fits. let p = block_ptr b o in
    regoal ! (λ (q : Ptr). prop (WpFn 𝓤 𝓛.H 𝓣.C 𝓣.Λ code.function (lowers.lowered (record d { at = q }) ∷ []) (W.post y))) e refl $
    enter ! _ _ _ _ _ $ alloc_all ! (λ l. pass_all ! refl ((tt, (tt, (record { fits = fits }, tt))), tt) $
    sets ! (of_opd ! (get_in ! (fld ! refl (stop !)) (sub ! 0 refl (whole !)))) refl (tt, tt) $
    sets ! (of_opd ! (get_in ! (fld ! refl (stop !)) (sub ! 1 refl (whole !)))) refl (tt, record { fits = fits }) $
    sets ! (agg ! (and_then ! (true_lit !) (and_then ! (get ! refl) (and_then ! (get ! refl) (no_more !))))) refl (tt, (tt, (tt, (record { fits = fits }, tt)))) $
    returns ! (look_at ! 0 refl) $ free_all ! refl $ host_in ! true p n ws fits $
    suffices ! _ (ends_at 𝓛 f.ended stayed c y (word true p n) (true, p, n, ws) (tt, tt) (tt, tt)) $ says ! (refl, sym e, refl, refl) $
    nothing ! $ nothing ! $ join ! $ nothing ! $ done !))))
