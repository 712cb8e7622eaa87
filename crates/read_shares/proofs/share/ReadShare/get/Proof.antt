-- `get` reads the pointer, and hands out the `&` to the value that a `&` to the share holds.
use Rattle.read_shares.proofs.Lemmas.Names.{ℕ, ◌+◌, [], ◌∷◌, refl, List, proved, after, ftrue, fhide, flft, fact, tables, inst_fn, a_type, named, Val, vptr, ‵, raw, ◌⊛◌, at_ret, ◌$◌, ◌∵◌, !, qed, done, move, keep, use1, split, join, fsplit, fjoin, feq_i, suffices, addr, blocks, enter, exec, first, fld, hop, look, of_opd, returns, stop, alloc_all, env, free_all, get, look_at, pass_all, sets, sets_last, through, RefOf, yes, hidden_shr, hide, unhide, layouts, param, param_laws, RattleType, owns, InBlock, Ptr, block_of, count_of, shr_Tells, shr_vals, plain, types_at, heard, nothing, in_block_says, lent_at, lent_at_shr_laws, lent_out, Goes-dropped, Stays, ends_at, says, stay_dropped, walk_of}
use Rattle.std_alloc.proofs.Words.{pointer_in, pointer_out}
use Rattle.read_shares.specs.ReadShare.{share_lends}
use Rattle.read_shares.proofs.Lemmas.Fields.{Field, shows_at}
use Rattle.read_shares.proofs.Lemmas.Lending.{shown}
use Rattle.read_shares.specs.contracts.share.ReadShare as share
use Rattle.read_shares.specs.contracts.share.ReadShare.get as f
use Rattle.read_shares.specs.contracts.share.ReadShare.get.Key.{name as #self}
use Rattle.read_shares.proofs.share.ReadShare.get.Statement.{statement}
use Rattle.read_shares.proofs.share.ReadShare.get.Code as code

pub get_spec : {M : Type 1} → statement M
get_spec 𝓤 𝓛 𝓜 𝓡 wired X L =
    let R : RattleType = param 0 X in let S : RattleType = share.the_row R in let laws = (param_laws 0 X L).shr_laws in
    let 𝓣 = tables 𝓤 𝓛.H 𝓜 𝓡 𝓡.env in let inst = layouts (a_type ∷ []) (X, tt) in let fn = inst_fn inst code.function in
    let E = f.ended X in let c = f.clauses X 𝓛 𝓜.mem 𝓡.returns in let self = RefOf (0 ∷ []) tt (plain (λ _. S)) (λ _. tt) in
    let stayed : Stays E.signature.params E.kept = (stay_dropped self yes, tt) in let W = walk_of 𝓛 E stayed c in
    proved 𝓛 E stayed c 𝓜 𝓡 (Goes-dropped 𝓛 2 self yes (λ κs x w. refl), tt) (#self inst) fn (code.unfolded 𝓤 𝓛.H 𝓜 𝓡 wired (X, tt))
    (λ κs. (shr_vals, tt)) (λ κs. (shr_Tells (named 0) κs.0 S, tt)) (λ κs qs bounds a _ are.
    let κ = κs.0 in let b = a.0.ref_ptr.0 in let o = a.0.ref_ptr.1 in let d : S.Denot = a.0.now in let p : Ptr = d.at in let x : X.Denot = d.value in
    let at : ℕ × ℕ = (block_of p, count_of p) in let there : Val = vptr at.0 at.1 in
    let y : W.Ghost = ((κs, qs, bounds, a, (shr_vals a.0, tt)), tt) in
    qed 𝓛 (((‵ (flft κ qs.0) ⊛ ‵ (flft κs.1.0 qs.1.0) ⊛ ‵ ftrue) ⊛ ‵ (owns (types_at E.signature.params κs) a y.0.4)) ∷ raw ((c κs a).requires tt) ∷ []) ∵
    split ! $ split ! $ move ! (2 ∷ []) $ fsplit ! $ fsplit ! $ keep ! (1 ∷ 3 ∷ 4 ∷ []) $
    -- [the share behind the `&`; the token; the other lifetimes' tokens]
    enter ! _ _ _ _ _ $ alloc_all ! (λ l. pass_all ! refl ((tt, tt), tt) $
    use1 𝓛 (‵ (hidden_shr (Field R) κ (p, tt) b o) ⊛ ‵ (fhide (share_lends R p x d.origin κ))) (lent_out 𝓛 (share.struct R) (share.the_codes X.Denot R.coded) (share.the_heap R) (share.the_lent R) κ d b o) $ split ! $
    move ! (1 ∷ []) $ unhide ! $ use1 𝓛 (‵ (lent_at R p x κ)) (shown (lent_at R p x) (lent_at_shr_laws R laws p x) 𝓛 d.origin κ) $
    fsplit ! $ use1 𝓛 (raw (fact 𝓤 (InBlock p))) (in_block_says 𝓛 p) $ heard ! (InBlock p) (λ inside. hide ! $ move ! (1 ∷ 2 ∷ []) $
    -- [the field; the token; the value; the other tokens]
    first ! $ blocks ! $
    pointer_in ! tt p inside b (o + 0) (shows_at R 𝓛 p κ b o) (λ _.
    sets_last ! (addr ! (through ! refl (fld ! refl (hop ! (look ! 1 refl) (stop !))))) refl (tt, tt) $
    exec ! 𝓣.C 𝓣.Λ (env fn.locals l) (after 1 fn.body) (at_ret _ (W.post y)) $
    pointer_out ! tt p inside b (o + 0) $
    sets ! (of_opd ! (get ! refl)) refl (tt, tt) $
    returns ! (look_at ! 0 refl) $ free_all ! refl $ keep ! (2 ∷ 0 ∷ 3 ∷ []) $
    feq_i ! (List Val) (there ∷ []) (there ∷ []) refl $ fjoin ! $
    suffices ! _ (ends_at 𝓛 E stayed c y there (record { ref_ptr = at; now = x }) (tt, tt) (tt, tt)) $ says ! refl $
    nothing ! $ nothing ! $ join ! $ move ! (2 ∷ 3 ∷ []) $ join ! $ done !))))
