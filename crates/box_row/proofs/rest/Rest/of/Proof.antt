-- `of` takes the places apart, and all of them hold a value.
use Rattle.box_row.proofs.Lemmas.Names.{◌≡◌, ℕ, ◌+◌, ◌*◌, ◌^◌, ◌<◌, List, [], ◌∷◌, ◌++◌, refl, sym, ap, subst, ◌∙◌, arith, length, T, proved_at, after, says_three, ftrue, fsep, flft, emp, id⊢, ◌⊑◌, fact, fact_i, tables, inst_fn, a_type, WT, has_ty, Val, of_list, vstruct, WpFn, Item, ‵, raw, ◌⊛◌, some, later, prop, at_ret, ◌$◌, ◌∵◌, !, qed, done, move, keep, drop, use0, use1, use2, split, split3, join, fsplit, fsplit3, fjoin, feq_l, fpick, fpack, pick, await, regoal, rewrite, suffices, agg, sub, whole, and_then, blocks, enter, exec, first, fld, no_more, of_opd, returns, stop, alloc_all, env, free_all, get, get_in, is, lands_last, look_at, pass_all, sets, RawPtr, usize, no, layouts, param, RattleType, Ptr, block_ptr, plain, heard, nothing, only, calls_at_last, Lasts, lasts, triple_of, framed, Goes-dropped, Stays, ends_at, stay_dropped, walk_of}
use denote.Param.{layout}
use denote.RawPtr.{in_block}
use denote.Struct.Tuple.{Tuple}
use Rattle.core.specs.Mem.Slots.{IsFull, slots_filled, slots_items, slots_len, slots_ptr}
use Rattle.core.specs.Mem.Slots.Ownership.{bytes_of, owned, slots}
use Rattle.core.proofs.mem.Param.{El}
use Rattle.core.proofs.slots.Opens.{Sr, row_had, row_made, row_val, words_val}
use Rattle.core.specs.contracts.slots.Slots.into_raw_parts as taking
use Rattle.core.proofs.slots.Slots.into_raw_parts.Met as taking-thm
use prog.RawLaws.{size-raw}
use denote.Memory.{lone}
use Rattle.box_row.specs.Ownership.{Stands, rest_owns, step, values}
use Rattle.box_row.proofs.Lemmas.Fields.{Field, made, word}
use Rattle.box_row.proofs.Lemmas.Numbers.{first_is}
use Rattle.box_row.proofs.Lemmas.Values.{of_slots}
use Rattle.box_row.specs.contracts.rest.Rest as rest
use Rattle.box_row.specs.contracts.rest.Rest.of as f
use Rattle.box_row.specs.contracts.rest.Rest.of.Key.{name as #self}
use Rattle.box_row.proofs.rest.Rest.of.Statement.{statement}
use Rattle.box_row.proofs.rest.Rest.of.Code as code

pub of_spec : {M : Type 1} → statement M
of_spec 𝓤 𝓛 𝓜 𝓡 wired X L =
    let G : El = record { row = X; laws = L } in let R : RattleType = param 0 X in let S : RattleType = Sr G in let Rest : RattleType = rest.the_row R in
    let 𝓣 = tables 𝓤 𝓛.H 𝓜 𝓡 𝓡.env in let inst = layouts (a_type ∷ []) (X, tt) in let fn = inst_fn inst code.function in
    let E = f.ended X in let c = f.clauses X 𝓛 𝓜.mem 𝓡.returns in
    let stayed : Stays E.signature.params E.kept = (stay_dropped (plain (λ _. S)) no, tt) in let W = walk_of 𝓛 E stayed c in
    let Taking = triple_of 𝓛 (taking.signature X) (taking.spec X 𝓛 𝓜.mem 𝓡.returns) in let taken = taking.ended X in
    let known = taking-thm.met 𝓤 𝓛 𝓜 𝓡 (code.calls-core::slots::Slots::into_raw_parts 𝓡.env wired) X L in
    proved_at 𝓛 E stayed c 𝓜 𝓡 (Goes-dropped 𝓛 1 (plain (λ _. S)) no (λ κs x w. refl), tt) (#self inst) fn (code.unfolded 𝓤 𝓛.H 𝓜 𝓡 wired (X, tt)) (λ z are.
    let κs = z.0.0 in let qs = z.0.1 in let v : S.Denot = z.0.3.0 in let vs : List Val = z.0.4.0 in
    let n : ℕ = slots_len v in let xs = slots_items v in let fs = slots_filled v in let counts = v.ok in
    let alive : Item 𝓤 = ‵ (flft κs.0 qs.0) ⊛ ‵ ftrue in let inX = κs.0 ⊑ X.lives in
    qed 𝓛 ((alive ⊛ ‵ (fsep (S.own_val v vs) ftrue)) ∷ raw (fact 𝓤 inX) ∷ raw (fact 𝓤 (IsFull v)) ∷ []) ∵
    move ! (1 ∷ 2 ∷ []) $ heard ! inX (λ in_x. heard ! (IsFull v) (λ full. split ! $ move ! (1 ∷ []) $ fsplit ! $
    row_had G ! v vs (λ b o at spelled small fit. row_made G ! v b o at small fit $ keep ! (0 ∷ 2 ∷ []) $
    let p : Ptr = block_ptr b o in let w : Val = row_val b o n in let typed : T (has_ty (layout S) w) × WT w = (tt, (tt, (record { fits = small }, tt))) in
    let y : Taking.Ghost = ((κs, qs, tt, (v, tt), (w ∷ [], tt)), tt) in
    regoal ! (λ (us : List Val). prop (WpFn 𝓤 𝓛.H 𝓣.C 𝓣.Λ fn (us ++ []) (W.post z))) spelled refl $
    enter ! _ _ _ _ _ $ alloc_all ! (λ l. pass_all ! refl (typed, tt) $
    first ! $ blocks ! $ sets ! (of_opd ! (get ! refl)) refl typed $
    -- [the row; the tokens]
    nothing ! $ use0 𝓛 (raw (fact 𝓤 inX)) (fact_i 𝓤 inX (emp 𝓤) in_x) $ join ! $ nothing ! $ move ! (2 ∷ 0 ∷ []) $ fjoin ! $
    move ! (2 ∷ 0 ∷ []) $ join ! $ use2 𝓛 (raw (Taking.pre y)) (id⊢ 𝓤 _) $
    calls_at_last ! (framed 𝓤 𝓛.H 𝓜 𝓣) Taking known y (and_then ! (get ! refl) (no_more !)) (λ u. let Pair = Tuple (RawPtr ∷ usize ∷ []) in let Are = λ (r : Ptr × ℕ). (r.0 ≡ slots_ptr v) × (r.1 ≡ n) in
    use1 𝓛 (later (some (λ (r : Ptr × ℕ). (alive ⊛ ‵ (Pair.own_val r (u ∷ []))) ⊛ some (λ (ws : Lasts taken κs (v, tt)). ‵ (lasts taken κs (v, tt) ws) ⊛ (raw (fact 𝓤 (Are r)) ⊛ ‵ (owned R (slots_ptr v) n xs fs)))))) (id⊢ 𝓤 _) $
    await ! tt $ pick ! (λ r. split ! $ move ! (1 ∷ []) $ pick ! (λ _. split3 ! $ drop ! $ heard ! (Are r) (λ same. fsplit ! $ drop ! $
    rewrite ! 0 (λ (q : Ptr). ‵ (in_block q (slots R q xs fs))) at refl $
    use1 𝓛 (‵ (values R (bytes_of R) p xs)) (of_slots R 𝓛 p xs fs (sym counts.1 ∙ counts.0) (λ k low. full k (omega arith) (omega (arith, counts.1)))) $
    let same_number : n ≡ 0 + length xs = omega (arith, counts.0) in
    let bytes : step R ≡ bytes_of R = size-raw (lone R.mir) in rewrite ! 0 (λ (s : ℕ). ‵ (values R s p xs)) (sym bytes) refl $
    let stands : Stands (step R) p p 0 (length xs) = subst (λ (s : ℕ). Stands s p p 0 (length xs)) (sym bytes) (record { inside = tt; at = sym (first_is p (bytes_of R)); small = subst (λ (m : ℕ). m * bytes_of R < 2 ^ 63) same_number fit }) in
    nothing ! $ fpack ! (Stands (step R) p p 0 (length xs)) (λ _. ftrue) stands $ fjoin ! $
    -- [what the rest owns; the tokens and the pair]
    move ! (1 ∷ []) $ split ! $ move ! (1 ∷ []) $ fpick ! (λ vss. fsplit ! $ feq_l ! (λ pair. fsplit3 ! $ feq_l ! (λ pointer. fsplit ! $ feq_l ! (λ number. drop ! $ drop ! $
    let e : u ≡ w = ap only pair ∙ (λ i. vstruct (of_list (pointer i ++ (number i ++ [])))) ∙ (λ i. words_val ((same.0 ∙ at) i) (same.1 i)) in
    lands_last ! refl (subst (λ (s : Val). T (has_ty (layout Pair) s) × WT s) (sym e) typed) $ exec ! 𝓣.C 𝓣.Λ (env fn.locals l) (after 1 fn.body) (at_ret _ (W.post z)) $
    sets ! (is ! (of_opd ! (get ! refl)) e) refl typed $
    sets ! (of_opd ! (get_in ! (fld ! refl (stop !)) (sub ! 0 refl (whole !)))) refl (tt, tt) $
    sets ! (agg ! (and_then ! (get ! refl) (no_more !))) refl (tt, (tt, tt)) $
    -- [the tokens; what the rest owns]
    let new : Rest.Denot = record { at = p; row = p; index = 0; items = xs } in
    move ! (1 ∷ []) $ use0 𝓛 (‵ ((Field R).own_val (p, tt) (word p ∷ []))) (made R 𝓛 p) $ fjoin ! $
    returns ! (look_at ! 0 refl) $ free_all ! refl $ keep ! (0 ∷ 1 ∷ []) $ nothing ! $ nothing ! $ fjoin ! $ move ! (2 ∷ []) $
    suffices ! _ (ends_at 𝓛 E stayed c z (word p) new (tt, tt) (tt, tt)) $ says_three ! (sym at, refl, refl) $ done !)))))))))))))
