-- `split_one` copies the pointer. The token is cut, and both shares can read the value.
use Rattle.read_shares.proofs.Lemmas.Names.{◌≡◌, ℕ, ◌-◌, ◌<◌, [], ◌∷◌, refl, sym, List, arith, proved, says_three, full_share, Fml, ftrue, flft, fact, tables, inst_fn, a_type, named, Val, vptr, ‵, raw, ◌⊛◌, ◌$◌, ◌∵◌, !, qed, done, move, keep, drop, use0, use1, use2, split, join, fsplit, fsplit3, fjoin, fjoin3, feq_i, fpick, rewrite, suffices, agg, look_in, sub, whole, and_then, enter, fld, load, no_more, of_opd, returns, stop, alloc_all, free_all, get, look_at, pass_all, sets, through, Is, shows, cell_at, layouts, param, param_laws, RattleType, owns, InBlock, Ptr, mut_Tells, mut_vals, plain, types_at, closes, heard, nothing, opens, peeks, lent_at, lent_at_shr_laws, Goes-ref, Stays, ends_at, stay_ref, walk_of}
use denote.SharingLaws.{contraction}
use Rattle.read_shares.specs.Fraction.{fraction}
use Rattle.read_shares.specs.Parts.{IsSome}
use Rattle.read_shares.specs.ReadShare.{share_owns, term}
use Rattle.read_shares.proofs.Lemmas.Fields.{Field, made, typed, typed_ptr, word}
use Rattle.read_shares.proofs.Lemmas.Lending.{lies, packed}
use Rattle.read_shares.proofs.Lemmas.Tokens.{cut, some}
use Rattle.read_shares.specs.contracts.share.ReadShare as share
use Rattle.read_shares.proofs.share.ReadShare.TheLaws.{lowers}
use Rattle.read_shares.specs.contracts.share.ReadShare.split_one as f
use Rattle.read_shares.specs.contracts.share.ReadShare.split_one.Key.{name as #self}
use Rattle.read_shares.proofs.share.ReadShare.split_one.Statement.{statement}
use Rattle.read_shares.proofs.share.ReadShare.split_one.Code as code

pub split_one_spec : {M : Type 1} → statement M
split_one_spec 𝓤 𝓛 𝓜 𝓡 wired X L =
    let R : RattleType = param 0 X in let S : RattleType = share.the_row R in let RL = param_laws 0 X L in let laws = RL.shr_laws in
    let 𝓣 = tables 𝓤 𝓛.H 𝓜 𝓡 𝓡.env in let inst = layouts (a_type ∷ []) (X, tt) in let fn = inst_fn inst code.function in
    let E = f.ended X in let c = f.clauses X 𝓛 𝓜.mem 𝓡.returns in
    let stayed : Stays E.signature.params E.kept = (stay_ref (0 ∷ []) tt (plain (λ _. S)), tt) in let W = walk_of 𝓛 E stayed c in
    proved 𝓛 E stayed c 𝓜 𝓡 (Goes-ref 𝓛 2 0 tt (plain (λ _. S)), tt) (#self inst) fn (code.unfolded 𝓤 𝓛.H 𝓜 𝓡 wired (X, tt))
    (λ κs. (mut_vals, tt)) (λ κs. (mut_Tells (named 0) κs.0 S, tt)) (λ κs qs bounds a _ are.
    let κ = κs.0 in let b = a.0.ref_ptr.0 in let o = a.0.ref_ptr.1 in let d : S.Denot = a.0.now in let p : Ptr = d.at in let x : X.Denot = d.value in let n : ℕ = d.origin in let k : ℕ = d.parts in
    let held : Fml = lent_at R p x (term n) in let left : S.Denot = record d { parts = k - 1 } in let one : S.Denot = record d { parts = 1 } in
    let y : W.Ghost = ((κs, qs, bounds, a, (mut_vals a.0, tt)), tt) in
    qed 𝓛 (((‵ (flft κ qs.0) ⊛ ‵ (flft κs.1.0 qs.1.0) ⊛ ‵ ftrue) ⊛ ‵ (owns (types_at E.signature.params κs) a y.0.4)) ∷ raw (fact 𝓤 _) ∷ raw (fact 𝓤 (1 < k)) ∷ []) ∵
    keep ! (2 ∷ 0 ∷ []) $ heard ! (1 < k) (λ more. split ! $ split ! $ move ! (2 ∷ []) $ fsplit ! $ fsplit3 ! $ keep ! (1 ∷ 2 ∷ 4 ∷ 5 ∷ []) $
    enter ! _ _ _ _ _ $ alloc_all ! (λ l. pass_all ! refl ((tt, tt), tt) $
    opens ! tt S b o (λ vs. move ! (1 ∷ []) $ peeks ! S (Is S) (shows 𝓛 S) d vs (λ is. let spelled : vs ≡ word p ∷ [] = (lowers R RL).val_is d vs is in
    -- [the field; the share; the cell; the open borrow; two names; the other tokens]
    fsplit ! $ move ! (1 ∷ []) $ fsplit ! $ move ! (1 ∷ []) $ fpick ! (λ many. drop ! $ fsplit ! $
    let rest : IsSome (k - 1) = some (k - 1) (omega (arith, more)) (omega (arith, many.at_most)) in let single : IsSome 1 = some 1 (omega arith) (omega arith) in
    use1 𝓛 (‵ (flft (term n) (fraction 1)) ⊛ ‵ (flft (term n) (fraction (k - 1)))) (cut 𝓛 n 1 (k - 1) k single rest many (omega (arith, more))) $ split ! $ move ! (2 ∷ []) $
    use1 𝓛 (raw (fact 𝓤 (InBlock p)) ⊛ ‵ held) (lies 𝓛 R laws p x (term n)) $ split ! $ heard ! (InBlock p) (λ inside.
    use1 𝓛 (‵ held ⊛ ‵ held) (contraction 𝓛 (lent_at R p x) (lent_at_shr_laws R laws p x) (term n)) $ split ! $
    move ! (2 ∷ 0 ∷ []) $ use2 𝓛 (‵ (share_owns R p x n 1)) (packed 𝓛 R laws p x n 1 single) $
    move ! (2 ∷ 1 ∷ []) $ use2 𝓛 (‵ (share_owns R p x n (k - 1))) (packed 𝓛 R laws p x n (k - 1) rest) $
    -- [what is left; what is split off; the field; the cell; the open borrow; two names; the other tokens]
    rewrite ! 3 (λ (ws : List Val). ‵ (cell_at full_share S.mir ws b o)) spelled refl $
    sets ! (of_opd ! (load ! (through ! refl (fld ! refl (stop !))) (look_in ! 3 (sub ! 0 refl (whole !))))) refl (typed_ptr p inside) $
    sets ! (agg ! (and_then ! (get ! refl) (no_more !))) refl (typed p inside) $
    rewrite ! 3 (λ (ws : List Val). ‵ (cell_at full_share S.mir ws b o)) (sym spelled) refl $
    move ! (2 ∷ 0 ∷ []) $ fjoin ! $ move ! (2 ∷ 0 ∷ 3 ∷ 4 ∷ 5 ∷ []) $ closes ! tt S left vs b o $
    -- [a name; the borrow; the token; what is split off; the other tokens]
    feq_i ! (List Val) (vptr b o ∷ []) (vptr b o ∷ []) refl $ fjoin3 ! $ nothing ! $ move ! (1 ∷ 0 ∷ []) $ fjoin ! $ move ! (1 ∷ 3 ∷ []) $ join ! $
    move ! (2 ∷ []) $ use0 𝓛 (‵ ((Field R).own_val (p, tt) (word p ∷ []))) (made R 𝓛 p) $ fjoin ! $
    returns ! (look_at ! 0 refl) $ free_all ! refl $ keep ! (1 ∷ 2 ∷ 0 ∷ []) $
    suffices ! _ (ends_at 𝓛 E stayed c y (word p) one (left, tt) (tt, tt)) $ says_three ! (many.at_most, refl, refl) $ done !)))))))
