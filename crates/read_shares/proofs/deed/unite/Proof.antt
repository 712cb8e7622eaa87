-- `unite` ends the lifetime by all of its token, and makes the box of the value that comes back.
use Rattle.read_shares.proofs.Lemmas.Names.{◌≡◌, ℕ, T, List, [], ◌∷◌, ◌++◌, refl, sym, ap, subst, proved_at, after, ftrue, fsep, flft, emp, id⊢, ◌⊑◌, fact, fact_i, tables, inst_fn, a_type, dcons, dnil, Val, vptr, Item, ‵, raw, ◌⊛◌, some, later, at_ret, ◌$◌, ◌∵◌, !, qed, done, move, keep, drop, use0, use1, use2, split, split3, join, fsplit, fsplit3, fjoin, fjoin3, feq_i, pick, await, rewrite, suffices, sub, whole, and_then, blocks, enter, exec, first, fld, no_more, of_opd, returns, stop, alloc_all, env, free_all, get, get_in, lands_last, look_at, pass_all, sets, no, Is, shows, bounded, param_laws, RattleType, InBlock, Ptr, ptr_val, plain, heard, nothing, only, peeks, in_block_says, lent_at, lent_at_shr_laws, Goes-dropped, Stays, ends_at, says_two, stay_dropped, walk_of}
use mir.Val.{WT, has_ty}
use prog.Wp.{WpFn}
use types.ByLocal.{is}
use types.Kit.{prop, regoal}
use denote.Triple.Call.{calls_at_last}
use denote.Triple.Clauses.{Lasts, lasts}
use denote.Triple.Spec.{triple_of}
use denote.Triple.Table.{framed}
use Rattle.core.proofs.alloc.Calls.{Goes-blank}
use Rattle.std_alloc.proofs.BoxSteps.Form as box
use Rattle.std_alloc.proofs.BoxSteps.Steps.{box_in, box_out}
use Rattle.std_alloc.specs.contracts.boxed.Box.from_raw as making
use Rattle.std_alloc.proofs.boxed.Box.from_raw.Met as making-thm
use Rattle.read_shares.specs.Fraction.{fraction}
use Rattle.read_shares.specs.Parts.{all_parts}
use Rattle.read_shares.specs.ReadShare.{term}
use Rattle.read_shares.proofs.Lemmas.Deeds.{D, deed_out, lying}
use Rattle.read_shares.proofs.Lemmas.Fields.{typed as typed_share, word}
use Rattle.read_shares.proofs.Lemmas.Lending.{comes_back}
use Rattle.read_shares.specs.contracts.share.ReadShare as share
use Rattle.read_shares.proofs.share.ReadShare.TheLaws.{lowers}
use Rattle.read_shares.specs.contracts.deed.unite as f
use Rattle.read_shares.specs.contracts.deed.unite.Key.{name as #self}
use Rattle.read_shares.proofs.deed.unite.Statement.{statement}
use Rattle.read_shares.proofs.deed.unite.Code as code

pub unite_spec : {M : Type 1} → statement M
unite_spec 𝓤 𝓛 𝓜 𝓡 wired X Z L LZ g d dd met md =
    let F : box.Bx = record { row = X; laws = L; al = record { row = Z; laws = LZ; g = g; d = d; drops = dd } } in
    let R : RattleType = box.R F in let B : RattleType = box.B F in let Deed : RattleType = D F in let S : RattleType = share.the_row R in let RL = param_laws 0 X L in
    let 𝓣 = tables 𝓤 𝓛.H 𝓜 𝓡 𝓡.env in let inst = bounded (a_type ∷ a_type ∷ []) (X, (Z, tt)) (dcons d (dcons dd dnil)) in let fn = inst_fn inst code.function in
    let E = f.ended X Z g d dd in let c = f.clauses X Z g d dd 𝓛 𝓜.mem 𝓡.returns in
    let stayed : Stays E.signature.params E.kept = (stay_dropped (plain (λ _. Deed)) no, (stay_dropped (plain (λ _. S)) no, tt)) in let W = walk_of 𝓛 E stayed c in
    let Making = triple_of 𝓛 (making.signature X Z g d dd) (making.spec X Z g d dd 𝓛 𝓜.mem 𝓡.returns) in let made = making.ended X Z g d dd in
    let known = making-thm.met 𝓤 𝓛 𝓜 𝓡 (code.calls-std_alloc::boxed::Box::from_raw 𝓡.env wired) X Z L LZ g d dd met md in
    proved_at 𝓛 E stayed c 𝓜 𝓡 (Goes-blank 𝓛 2 (plain (λ _. Deed)) no (λ κs x w. tt), (Goes-dropped 𝓛 2 (plain (λ _. S)) no (λ κs x w. refl), tt)) (#self inst) fn (code.unfolded 𝓤 𝓛.H 𝓜 𝓡 wired (X, (Z, tt)) d dd) (λ z are.
    let κs = z.0.0 in let qs = z.0.1 in let v : Deed.Denot = z.0.3.0 in let all : S.Denot = z.0.3.1.0 in let vs : List Val = z.0.4.0 in let us : List Val = z.0.4.1.0 in
    let a : Z.Denot = v.alloc in let x : X.Denot = v.value in let p : Ptr = v.at in let n : ℕ = v.origin in
    let alive : Item 𝓤 = ‵ (flft κs.0 qs.0) ⊛ ‵ (flft κs.1.0 qs.1.0) ⊛ ‵ ftrue in let inX = κs.0 ⊑ X.lives in let inZ = κs.1.0 ⊑ Z.lives in
    qed 𝓛 ((alive ⊛ ‵ (fsep (Deed.own_val v vs) (fsep (S.own_val all us) ftrue))) ∷ raw (fact 𝓤 inX) ∷ raw (fact 𝓤 inZ) ∷ raw (fact 𝓤 (all.origin ≡ n)) ∷ raw (fact 𝓤 (all.parts ≡ all_parts)) ∷ []) ∵
    move ! (1 ∷ 2 ∷ 3 ∷ 4 ∷ []) $ heard ! inX (λ in_x. heard ! inZ (λ in_z. heard ! (all.origin ≡ n) (λ same. heard ! (all.parts ≡ all_parts) (λ whole_share.
    split ! $ move ! (1 ∷ []) $ fsplit3 ! $ move ! (1 ∷ []) $ peeks ! S (Is S) (shows 𝓛 S) all us (λ told. let spelled' : us ≡ word all.at ∷ [] = (lowers R RL).val_is all us told in
    -- [the share; the deed; nothing; the tokens]
    fsplit ! $ drop ! $ fsplit ! $ move ! (1 ∷ []) $ drop ! $ fsplit ! $ move ! (1 ∷ []) $ fsplit ! $ use1 𝓛 (raw (fact 𝓤 (InBlock all.at))) (in_block_says 𝓛 all.at) $ heard ! (InBlock all.at) (λ inside. drop ! $
    rewrite ! 0 (λ (m : ℕ). ‵ (flft (term m) (fraction all.parts))) same refl $ rewrite ! 0 (λ (k : ℕ). ‵ (flft (term n) (fraction k))) whole_share refl $
    move ! (1 ∷ []) $ deed_out F ! v vs (λ b o hv at spelled fits. let w : Val = box.word F hv b o in let typed = box.box_typed F hv b o fits in
    -- [the handle; the right to free; the lender's right; the token of the term; nothing; the tokens]
    move ! (3 ∷ 2 ∷ []) $ use2 𝓛 (later (‵ (lying F p x))) (comes_back (lent_at R p x) (lent_at_shr_laws R RL.shr_laws p x) 𝓛 (lying F p x) n) $ keep ! (0 ∷ 2 ∷ 1 ∷ 4 ∷ []) $
    let y : Making.Ghost = ((κs, qs, tt, (a, (p, tt)), (hv ∷ [], (vptr b o ∷ [], tt))), x) in
    regoal ! (λ (ts : List Val). prop (WpFn 𝓤 𝓛.H 𝓣.C 𝓣.Λ fn (ts ++ (us ++ [])) (W.post z))) spelled refl $ regoal ! (λ (ts : List Val). prop (WpFn 𝓤 𝓛.H 𝓣.C 𝓣.Λ fn (w ∷ ts ++ []) (W.post z))) spelled' refl $
    enter ! _ _ _ _ _ $ alloc_all ! (λ l. pass_all ! refl (typed, (typed_share all.at inside, tt)) $ await ! tt $ fjoin ! $
    -- [the value with the right to free its block; the handle; the tokens]
    sets ! (of_opd ! (get_in ! (fld ! refl (stop !)) (sub ! 0 refl (whole !)))) refl (tt, tt) $
    sets ! (of_opd ! (get_in ! (fld ! refl (stop !)) (sub ! 1 refl (whole !)))) refl fits $
    first ! $ blocks ! $ sets ! (of_opd ! (get ! refl)) refl fits $
    use0 𝓛 (raw (fact 𝓤 inZ)) (fact_i 𝓤 inZ (emp 𝓤) in_z) $ join ! $ use0 𝓛 (raw (fact 𝓤 inX)) (fact_i 𝓤 inX (emp 𝓤) in_x) $ join ! $
    nothing ! $ feq_i ! (List Val) (vptr b o ∷ []) (ptr_val p ∷ []) (ap (λ (q : Ptr). ptr_val q ∷ []) (sym at)) $ move ! (3 ∷ 0 ∷ 1 ∷ []) $ fjoin3 ! $ move ! (2 ∷ 0 ∷ []) $ join ! $ join ! $ use1 𝓛 (raw (Making.pre y)) (id⊢ 𝓤 _) $
    calls_at_last ! (framed 𝓤 𝓛.H 𝓜 𝓣) Making known y (and_then ! (get ! refl) (and_then ! (get ! refl) (no_more !))) (λ u.
    use1 𝓛 (later (some (λ (r : B.Denot). (alive ⊛ ‵ (B.own_val r (u ∷ []))) ⊛ some (λ (ws : Lasts made κs (a, (p, tt))). ‵ (lasts made κs (a, (p, tt)) ws) ⊛ (raw (fact 𝓤 (r.value ≡ x)) ⊛ raw (fact 𝓤 (r.alloc ≡ a))))))) (id⊢ 𝓤 _) $
    await ! tt $ pick ! (λ r. split ! $ move ! (1 ∷ []) $ pick ! (λ _. split3 ! $ drop ! $ move ! (1 ∷ []) $ heard ! (r.alloc ≡ a) (λ handle. heard ! (r.value ≡ x) (λ value. split ! $ move ! (1 ∷ []) $
    box_out F ! r (u ∷ []) (λ b' o' hw at' spelled'' fits'. box_in F ! r b' o' r.value at' refl $
    let w' : Val = box.word F hw b' o' in let typed' = box.box_typed F hw b' o' fits' in let is_box : u ≡ w' = ap only spelled'' in
    lands_last ! refl (subst (λ (s : Val). T (has_ty (box.box_ty F) s) × WT s) (sym is_box) typed') $ exec ! 𝓣.C 𝓣.Λ (env fn.locals l) (after 3 fn.body) (at_ret _ (W.post z)) $
    sets ! (is ! (of_opd ! (get ! refl)) is_box) refl typed' $
    returns ! (look_at ! 0 refl) $ free_all ! refl $ keep ! (0 ∷ 1 ∷ []) $ nothing ! $ nothing ! $ fjoin ! $ nothing ! $ fjoin ! $ move ! (2 ∷ []) $
    suffices ! _ (ends_at 𝓛 E stayed c z w' r ((tt, (tt, tt)), (tt, tt)) (tt, (tt, tt))) $ says_two ! (value, handle) $ done !)))))))))))))))
