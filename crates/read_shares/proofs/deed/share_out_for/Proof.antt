-- `share_out_for` takes the box apart, and lends its value for the term's lifetime.
use Rattle.read_shares.proofs.Lemmas.Names.{◌≡◌, ℕ, List, [], ◌∷◌, ◌++◌, refl, ap, ◌∙◌, proved_at, says_four, ftrue, fsep, flft, sem, emp, id⊢, ◌⊑◌, fact, fact_i, tables, inst_fn, a_type, dcons, dnil, Val, Item, ‵, raw, ◌⊛◌, some, later, ◌$◌, ◌∵◌, !, qed, done, move, keep, drop, use0, use1, use2, split, split3, join, fsplit, fsplit3, fjoin, feq_l, fpick, pick, await, rewrite, suffices, agg, sub, whole, and_then, enter, fld, no_more, of_opd, returns, stop, alloc_all, free_all, get, get_in, lands_as, look_at, pass_all, sets, no, yes, Is, shows, bounded, param_laws, RattleType, Ptr, block_ptr, in_a_block, ptr_val, plain, heard, nothing, only, peeks, lent_at, lent_at_shr_laws, Goes-dropped, Stays, ends_at, stay_dropped, walk_of}
use base.Logic.{fst∗, never}
use mir.Syntax.{ty_ptr, ty_struct, tcons, tnil}
use mir.Val.{of_list, vnil, vstruct}
use prog.Wp.{WpFn}
use types.Kit.{prop, regoal, use3}
use denote.Builtin.{RawPtr}
use denote.RawPtr.{null_ptr}
use denote.Struct.Lending.{Lends-lies}
use denote.Struct.Tuple.{Tuple}
use denote.Triple.Call.{calls_at}
use denote.Triple.Clauses.{Lasts, lasts}
use denote.Triple.Spec.{triple_of}
use denote.Triple.Table.{framed}
use Rattle.core.proofs.alloc.Calls.{Goes-blank, handle_tells, token}
use Rattle.std_alloc.specs.Box.Ownership.{box_owns}
use Rattle.std_alloc.proofs.BoxSteps.Form as box
use Rattle.std_alloc.proofs.BoxSteps.Steps.{box_in, box_out}
use Rattle.std_alloc.proofs.Pairs.{pair_Typed, pair_of, pair_val}
use Rattle.std_alloc.specs.contracts.boxed.Box.into_raw_with_allocator as taking
use Rattle.std_alloc.proofs.boxed.Box.into_raw_with_allocator.Met as taking-thm
use Rattle.read_shares.specs.Parts.{all_parts}
use Rattle.read_shares.specs.ReadShare.{share_owns}
use Rattle.read_shares.proofs.Lemmas.Deeds.{D, deed_in, deed_of, freeing, lying}
use Rattle.read_shares.proofs.Lemmas.Fields.{Field, made, word}
use Rattle.read_shares.proofs.Lemmas.Lending.{Out, packed, shares_out}
use Rattle.read_shares.proofs.Lemmas.Tokens.{everything}
use Rattle.read_shares.specs.contracts.share.ReadShare as share
use Rattle.read_shares.specs.contracts.term.Term as term
use Rattle.read_shares.proofs.term.Term.TheLaws.{lowers}
use Rattle.read_shares.specs.contracts.deed.share_out_for as f
use Rattle.read_shares.specs.contracts.deed.share_out_for.Key.{name as #self}
use Rattle.read_shares.proofs.deed.share_out_for.Statement.{statement}
use Rattle.read_shares.proofs.deed.share_out_for.Code as code

pub share_out_for_spec : {M : Type 1} → statement M
share_out_for_spec 𝓤 𝓛 𝓜 𝓡 wired X Z L LZ g d dx dd met glue md =
    let F : box.Bx = record { row = X; laws = L; al = record { row = Z; laws = LZ; g = g; d = d; drops = dd } } in
    let R : RattleType = box.R F in let B : RattleType = box.B F in let Deed : RattleType = D F in let S : RattleType = share.the_row R in let Te : RattleType = term.the_row in let RL = param_laws 0 X L in
    let 𝓣 = tables 𝓤 𝓛.H 𝓜 𝓡 𝓡.env in let inst = bounded (a_type ∷ a_type ∷ []) (X, (Z, tt)) (dcons d (dcons dx (dcons dd dnil))) in let fn = inst_fn inst code.function in
    let E = f.ended X Z g d dx dd in let c = f.clauses X Z g d dx dd 𝓛 𝓜.mem 𝓡.returns in
    let stayed : Stays E.signature.params E.kept = (stay_dropped (plain (λ _. Te)) yes, (stay_dropped (plain (λ _. B)) no, tt)) in let W = walk_of 𝓛 E stayed c in
    let Taking = triple_of 𝓛 (taking.signature X Z g d dd dx) (taking.spec X Z g d dd dx 𝓛 𝓜.mem 𝓡.returns) in let taken = taking.ended X Z g d dd dx in
    let known = taking-thm.met 𝓤 𝓛 𝓜 𝓡 (code.calls-std_alloc::boxed::Box::into_raw_with_allocator 𝓡.env wired) X Z L LZ g d dd dx met md glue in
    proved_at 𝓛 E stayed c 𝓜 𝓡 (Goes-dropped 𝓛 2 (plain (λ _. Te)) yes (λ κs x w. refl), (Goes-blank 𝓛 2 (plain (λ _. B)) no (λ κs x w. tt), tt)) (#self inst) fn (code.unfolded 𝓤 𝓛.H 𝓜 𝓡 wired (X, (Z, tt)) d dx dd) (λ z are.
    let κs = z.0.0 in let qs = z.0.1 in let te : Te.Denot = z.0.3.0 in let v : B.Denot = z.0.3.1.0 in let ts : List Val = z.0.4.0 in let vs : List Val = z.0.4.1.0 in let n : ℕ = te.origin in let a : Z.Denot = v.alloc in let x : X.Denot = v.value in
    let alive : Item 𝓤 = ‵ (flft κs.0 qs.0) ⊛ ‵ (flft κs.1.0 qs.1.0) ⊛ ‵ ftrue in let inX = κs.0 ⊑ X.lives in let inZ = κs.1.0 ⊑ Z.lives in
    qed 𝓛 ((alive ⊛ ‵ (fsep (Te.own_val te ts) (fsep (B.own_val v vs) ftrue))) ∷ raw (fact 𝓤 inX) ∷ raw (fact 𝓤 inZ) ∷ ‵ ftrue ∷ []) ∵
    move ! (1 ∷ 2 ∷ []) $ heard ! inX (λ in_x. heard ! inZ (λ in_z. split ! $ move ! (1 ∷ []) $ fsplit3 ! $
    peeks ! Te (Is Te) (shows 𝓛 Te) te ts (λ told. let no_bytes : ts ≡ vstruct vnil ∷ [] = lowers.val_is te ts told in fsplit ! $ drop ! $ move ! (1 ∷ []) $
    -- [the box; all of the term's token; nothing; the tokens]
    box_out F ! v vs (λ b o hv at spelled fits. box_in F ! v b o x at refl $ keep ! (0 ∷ 3 ∷ 1 ∷ []) $
    let w : Val = box.word F hv b o in let typed = box.box_typed F hv b o fits in let y : Taking.Ghost = ((κs, qs, tt, (v, tt), (w ∷ [], tt)), tt) in
    regoal ! (λ (us : List Val). prop (WpFn 𝓤 𝓛.H 𝓣.C 𝓣.Λ fn (us ++ (vs ++ [])) (W.post z))) no_bytes refl $ regoal ! (λ (us : List Val). prop (WpFn 𝓤 𝓛.H 𝓣.C 𝓣.Λ fn (vstruct vnil ∷ us ++ []) (W.post z))) spelled refl $
    enter ! _ _ _ _ _ $ alloc_all ! (λ l. pass_all ! refl ((tt, tt), (typed, tt)) $ sets ! (of_opd ! (get ! refl)) refl typed $
    nothing ! $ move ! (1 ∷ 0 ∷ []) $ fjoin ! $ move ! (1 ∷ 0 ∷ []) $ join ! $ nothing ! $
    use0 𝓛 (raw (fact 𝓤 inZ)) (fact_i 𝓤 inZ (emp 𝓤) in_z) $ join ! $ use0 𝓛 (raw (fact 𝓤 inX)) (fact_i 𝓤 inX (emp 𝓤) in_x) $ join ! $ move ! (1 ∷ 0 ∷ []) $ join ! $ use1 𝓛 (raw (Taking.pre y)) (id⊢ 𝓤 _) $
    calls_at ! (framed 𝓤 𝓛.H 𝓜 𝓣) Taking known y (and_then ! (get ! refl) (no_more !)) (λ u. let Pair = Tuple (RawPtr ∷ box.P F ∷ []) in
    use1 𝓛 (later (some (λ (r : Ptr × Z.Denot). (alive ⊛ ‵ (Pair.own_val r (u ∷ []))) ⊛ some (λ (ws : Lasts taken κs (v, tt)). ‵ (lasts taken κs (v, tt) ws) ⊛ (raw (fact 𝓤 (r.1 ≡ a)) ⊛ ‵ (box_owns (token F.al a) R r.0 x)))))) (id⊢ 𝓤 _) $
    await ! tt $ pick ! (λ r. split ! $ move ! (1 ∷ []) $ pick ! (λ _. split3 ! $ drop ! $ heard ! (r.1 ≡ a) (λ same.
    in_a_block ! r.0 (λ p. box_owns (token F.al a) R p x) (fst∗ 𝓤 (never 𝓤) (sem 𝓛 (freeing F a null_ptr))) (λ b' o' at'. let p : Ptr = block_ptr b' o' in
    -- [the value; the right to free its block; the tokens and the pair; all of the term's token]
    fsplit ! $ move ! (2 ∷ []) $ split ! $ split ! $ move ! (5 ∷ 3 ∷ 0 ∷ []) $
    use3 𝓛 (later (‵ (Out (lent_at R p x) (lent_at_shr_laws R RL.shr_laws p x) 𝓛 (lying F p x) n) ⊛ ‵ (flft κs.0 qs.0)))
    (shares_out (lent_at R p x) (lent_at_shr_laws R RL.shr_laws p x) 𝓛 (lying F p x) n R.lives κs.0 qs.0 (Lends-lies 𝓛 R R.lives p x (RL.shares 𝓛 x)) in_x) $
    await ! tt $ split ! $ fsplit ! $ move ! (1 ∷ []) $ fsplit ! $ use2 𝓛 (‵ (share_owns R p x n all_parts)) (packed 𝓛 R RL.shr_laws p x n all_parts everything) $
    move ! (2 ∷ 3 ∷ []) $ join ! $ move ! (3 ∷ []) $
    -- [the pair; the tokens; the share; the lender's right; the right to free]
    fpick ! (λ vss. fsplit ! $ feq_l ! (λ is. fsplit ! $ feq_l ! (λ pointer. fsplit ! $ rewrite ! 0 (λ (s : Z.Denot). ‵ (Z.own_val s vss.1.0)) same refl $ handle_tells F.al ! a vss.1.0 (λ hw handle fits'.
    let w' : Val = box.word F hw b' o' in let typed' = box.box_typed F hw b' o' fits' in let deed : Deed.Denot = deed_of F p a x n in let all : S.Denot = record { at = p; value = x; origin = n; parts = all_parts } in let out : Val = pair_val w' (word p) in
    lands_as ! (ap only (is ∙ (λ j. vstruct (of_list ((pointer ∙ ap (λ (q : Ptr). ptr_val q ∷ []) at') j ++ (handle j ++ []))) ∷ []))) refl typed' $
    sets ! (of_opd ! (get_in ! (fld ! refl (stop !)) (sub ! 0 refl (whole !)))) refl (tt, tt) $
    sets ! (of_opd ! (get_in ! (fld ! refl (stop !)) (sub ! 1 refl (whole !)))) refl fits' $
    sets ! (of_opd ! (get ! refl)) refl fits' $
    sets ! (agg ! (and_then ! (get ! refl) (and_then ! (get ! refl) (no_more !)))) refl typed' $
    sets ! (agg ! (and_then ! (get ! refl) (no_more !))) refl (tt, (tt, tt)) $
    sets ! (agg ! (and_then ! (get ! refl) (and_then ! (get ! refl) (no_more !)))) refl (pair_Typed (box.box_ty F) (ty_struct [] (tcons ty_ptr tnil)) w' (word p) typed' (tt, (tt, tt))) $
    -- [the handle; nothing; the tokens; the share; the lender's right; the right to free]
    move ! (0 ∷ 4 ∷ 5 ∷ []) $ use3 𝓛 (‵ (Deed.own_val deed (w' ∷ []))) (deed_in F 𝓛 b' o' hw a x n) $
    move ! (3 ∷ []) $ use0 𝓛 (‵ ((Field R).own_val (p, tt) (word p ∷ []))) (made R 𝓛 p) $ fjoin ! $
    move ! (1 ∷ 0 ∷ []) $ use2 𝓛 (‵ ((Tuple (Deed ∷ S ∷ [])).own_val (deed, all) (out ∷ []))) (pair_of 𝓛 Deed S deed all w' (word p)) $
    returns ! (look_at ! 0 refl) $ free_all ! refl $ keep ! (0 ∷ 2 ∷ []) $ nothing ! $ nothing ! $ fjoin ! $ nothing ! $ fjoin ! $ move ! (2 ∷ []) $
    suffices ! _ (ends_at 𝓛 E stayed c z out (deed, all) (tt, ((tt, (tt, tt)), tt)) (tt, (tt, tt))) $ says_four ! ((refl, refl), (refl, refl), refl, refl) $ done !)))))))))))))))
