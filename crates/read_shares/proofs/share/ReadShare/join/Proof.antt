-- `join` adds the other share's token. Of its field nothing is wanted.
use Rattle.read_shares.proofs.Lemmas.Names.{◌≡◌, ℕ, ◌+◌, ◌≤◌, [], ◌∷◌, refl, List, arith, proved, ftrue, flft, fact, tables, inst_fn, a_type, named, Val, vptr, vunit, ‵, raw, ◌⊛◌, ◌$◌, ◌∵◌, !, qed, done, move, keep, drop, use1, use2, split, join, fsplit, fsplit3, fjoin, fjoin3, feq_i, fpick, rewrite, suffices, enter, of_opd, returns, unit_lit, alloc_all, free_all, look_at, pass_all, sets, no, layouts, param, param_laws, RattleType, owns, InBlock, Ptr, mut_Tells, mut_vals, plain, types_at, closes, heard, nothing, opens, in_block_says, Goes-dropped, Goes-ref, Stays, ends_at, says, stay_dropped, stay_ref, walk_of}
use Rattle.read_shares.specs.Fraction.{fraction}
use Rattle.read_shares.specs.Parts.{IsSome, all_parts}
use Rattle.read_shares.specs.ReadShare.{share_owns, term}
use Rattle.read_shares.proofs.Lemmas.Fields.{typed, word}
use Rattle.read_shares.proofs.Lemmas.Lending.{packed}
use Rattle.read_shares.proofs.Lemmas.Tokens.{glue, some}
use Rattle.read_shares.specs.contracts.share.ReadShare as share
use Rattle.read_shares.proofs.share.ReadShare.TheLaws.{lowers}
use Rattle.read_shares.specs.contracts.share.ReadShare.join as f
use Rattle.read_shares.specs.contracts.share.ReadShare.join.Key.{name as #self}
use Rattle.read_shares.proofs.share.ReadShare.join.Statement.{statement}
use Rattle.read_shares.proofs.share.ReadShare.join.Code as code

pub join_spec : {M : Type 1} → statement M
join_spec 𝓤 𝓛 𝓜 𝓡 wired X L =
    let R : RattleType = param 0 X in let S : RattleType = share.the_row R in let RL = param_laws 0 X L in
    let 𝓣 = tables 𝓤 𝓛.H 𝓜 𝓡 𝓡.env in let inst = layouts (a_type ∷ []) (X, tt) in let fn = inst_fn inst code.function in
    let E = f.ended X in let c = f.clauses X 𝓛 𝓜.mem 𝓡.returns in let self = plain (λ _. S) in
    let stayed : Stays E.signature.params E.kept = (stay_ref (0 ∷ []) tt self, (stay_dropped self no, tt)) in let W = walk_of 𝓛 E stayed c in
    proved 𝓛 E stayed c 𝓜 𝓡 (Goes-ref 𝓛 2 0 tt self, (Goes-dropped 𝓛 2 self no (λ κs x w. refl), tt)) (#self inst) fn (code.unfolded 𝓤 𝓛.H 𝓜 𝓡 wired (X, tt))
    (λ κs. (mut_vals, ((λ e. word e.at ∷ []), tt))) (λ κs. (mut_Tells (named 0) κs.0 S, ((lowers R RL).val_is, tt))) (λ κs qs bounds a _ are.
    let κ = κs.0 in let b = a.0.ref_ptr.0 in let o = a.0.ref_ptr.1 in let d : S.Denot = a.0.now in let p : Ptr = d.at in let x : X.Denot = d.value in let n : ℕ = d.origin in let k : ℕ = d.parts in
    let e : S.Denot = a.1.0 in let j : ℕ = e.parts in let sum : S.Denot = record d { parts = k + j } in
    let y : W.Ghost = ((κs, qs, bounds, a, (mut_vals a.0, (word e.at ∷ [], tt))), tt) in
    qed 𝓛 (((‵ (flft κ qs.0) ⊛ ‵ (flft κs.1.0 qs.1.0) ⊛ ‵ ftrue) ⊛ ‵ (owns (types_at E.signature.params κs) a y.0.4)) ∷ raw (fact 𝓤 _) ∷ raw (fact 𝓤 (e.origin ≡ n)) ∷ raw (fact 𝓤 (k + j ≤ all_parts)) ∷ []) ∵
    keep ! (2 ∷ 3 ∷ 0 ∷ []) $ heard ! (e.origin ≡ n) (λ same. heard ! (k + j ≤ all_parts) (λ at_most. split ! $ split ! $
    move ! (2 ∷ []) $ fsplit ! $ fsplit3 ! $ move ! (3 ∷ []) $ fsplit ! $ keep ! (0 ∷ 3 ∷ 4 ∷ 5 ∷ 6 ∷ []) $
    -- [the other share; a name; the borrow; the token; the other tokens]
    fsplit ! $ drop ! $ fsplit ! $ move ! (1 ∷ []) $ fpick ! (λ more. drop ! $ fsplit ! $ move ! (1 ∷ []) $
    fsplit ! $ use1 𝓛 (raw (fact 𝓤 (InBlock e.at))) (in_block_says 𝓛 e.at) $ heard ! (InBlock e.at) (λ inside. drop ! $
    rewrite ! 0 (λ (m : ℕ). ‵ (flft (term m) (fraction j))) same refl $ move ! (1 ∷ 2 ∷ 3 ∷ []) $
    enter ! _ _ _ _ _ $ alloc_all ! (λ l. pass_all ! refl ((tt, tt), (typed e.at inside, tt)) $
    opens ! tt S b o (λ vs. move ! (1 ∷ []) $
    -- [the share; the cell; the open borrow; two names; the other share's token; the other tokens]
    fsplit ! $ move ! (1 ∷ []) $ fsplit ! $ move ! (1 ∷ []) $ fpick ! (λ many. drop ! $ fsplit ! $
    let both : IsSome (k + j) = some (k + j) (omega (arith, many.nonempty)) at_most in
    move ! (0 ∷ 7 ∷ []) $ use2 𝓛 (‵ (flft (term n) (fraction (k + j)))) (glue 𝓛 n k j many more both) $
    use2 𝓛 (‵ (share_owns R p x n (k + j))) (packed 𝓛 R RL.shr_laws p x n (k + j) both) $
    move ! (1 ∷ 0 ∷ []) $ fjoin ! $ move ! (1 ∷ 0 ∷ []) $ closes ! tt S sum vs b o $
    -- [a name; the borrow; the token; the other tokens]
    feq_i ! (List Val) (vptr b o ∷ []) (vptr b o ∷ []) refl $ fjoin3 ! $ nothing ! $ nothing ! $ fjoin ! $ move ! (1 ∷ 0 ∷ []) $ fjoin ! $ move ! (1 ∷ 2 ∷ []) $ join ! $
    sets ! (of_opd ! (unit_lit !)) refl (tt, tt) $ returns ! (look_at ! 0 refl) $ free_all ! refl $
    feq_i ! (List Val) (vunit ∷ []) (vunit ∷ []) refl $ keep ! (1 ∷ 2 ∷ 0 ∷ []) $
    suffices ! _ (ends_at 𝓛 E stayed c y vunit tt (sum, (tt, tt)) (tt, (tt, tt))) $ says ! refl $ done !))))))))
