-- `put` takes the box apart, and its place is the first again.
use Rattle.box_row.proofs.Lemmas.Names.{◌≡◌, ℕ, ◌+◌, ◌-◌, ◌*◌, ◌^◌, ◌<◌, List, [], ◌∷◌, ◌++◌, refl, sym, ap, subst, ◌∙◌, arith, length, T, proved_at, after, says_two, ftrue, fsep, flft, sem, emp, id⊢, ◌⊑◌, ⊑_static, fact, fact_i, tables, inst_fn, a_type, dcons, dnil, named, WpFn, Val, of_list, vptr, vstruct, vunit, Item, ‵, raw, ◌⊛◌, some, later, prop, at_ret, ◌$◌, ◌∵◌, !, qed, done, move, keep, drop, use0, use1, use2, split, split3, join, fsplit, fsplit3, fjoin, fjoin3, feq_i, feq_l, fpick, fpack, pick, await, regoal, rewrite, suffices, store_in, sub, whole, and_then, enter, fld, no_more, of_opd, returns, stop, unit_lit, alloc_all, assigns, free_all, get, get_in, lands_as, look_at, pass_all, sets, through, RawPtr, no, Is, shows, cell_at, bounded, param, param_laws, RattleType, owns, Ptr, block_ptr, in_a_block, null_ptr, ptr_val, lies_at, plain, types_at, closes, heard, nothing, only, opens, peeks, calls_at, Lasts, lasts, triple_of, framed, Goes-ref, Stays, ends_at, stay_dropped, stay_ref, walk_of, ◌+ₚ◌}
use base.Fraction.{full_share}
use base.Logic.{fst∗, never}
use mir.Raw.{raw as bare}
use prog.RawLaws.{size-raw}
use denote.Struct.Tuple.{Tuple}
use Rattle.core.specs.Mem.Slots.Ownership.{bytes_of}
use Rattle.core.proofs.alloc.Calls.{Goes-blank, handle_tells, token}
use Rattle.std_alloc.specs.Box.Ownership.{box_owns}
use Rattle.std_alloc.proofs.BoxSteps.Form as box
use Rattle.std_alloc.proofs.BoxSteps.Steps.{box_in, box_out}
use Rattle.std_alloc.specs.contracts.boxed.Box.{the_row as box_row}
use Rattle.std_alloc.specs.contracts.boxed.Box.into_raw_with_allocator as taking
use Rattle.std_alloc.proofs.boxed.Box.into_raw_with_allocator.Met as taking-thm
use denote.Memory.{lone}
use Rattle.box_row.specs.Ownership.{Stands, step, values}
use Rattle.box_row.specs.Places.{IsAt}
use Rattle.box_row.specs.contracts.place.InRowAllocator.TheImpl.{dict, ghosts}
use Rattle.box_row.proofs.place.InRowAllocator.TheImpl.Met.{passed}
use Rattle.box_row.proofs.Destruct++none.drop.Code.{glues}
use Rattle.box_row.proofs.Lemmas.Fields.{Field, made, word}
use Rattle.box_row.proofs.Lemmas.Handles.{Here, Passed, boxed, drops, here, passed_laws}
use Rattle.box_row.proofs.Lemmas.Numbers.{next_is}
use Rattle.box_row.specs.contracts.rest.Rest as rest
use Rattle.box_row.proofs.rest.Rest.TheLaws.{lowers}
use Rattle.box_row.specs.contracts.rest.Rest.put as f
use Rattle.box_row.specs.contracts.rest.Rest.put.Key.{name as #self}
use Rattle.box_row.proofs.rest.Rest.put.Statement.{statement}
use Rattle.box_row.proofs.rest.Rest.put.Code as code

pub put_spec : {M : Type 1} → statement M
put_spec {M = M} 𝓤 𝓛 𝓜 𝓡 wired X L dx glue =
    let F : box.Bx = boxed X L in let R : RattleType = param 0 X in let B : RattleType = box.B F in let Boxed : RattleType = box_row R Here ghosts in let Rest : RattleType = rest.the_row R in let RL = param_laws 0 X L in
    let 𝓣 = tables 𝓤 𝓛.H 𝓜 𝓡 𝓡.env in let inst = bounded (a_type ∷ []) (X, tt) (dcons dx dnil) in let fn = inst_fn inst code.function in
    let E = f.ended X dx in let c = f.clauses X dx 𝓛 𝓜.mem 𝓡.returns in
    let stayed : Stays E.signature.params E.kept = (stay_ref (0 ∷ []) tt (plain (λ _. Rest)), (stay_dropped (plain (λ _. Boxed)) no, tt)) in let W = walk_of 𝓛 E stayed c in
    let Taking = triple_of 𝓛 (taking.signature X Passed ghosts dict drops dx) (taking.spec X Passed ghosts dict drops dx 𝓛 𝓜.mem 𝓡.returns) in let taken = taking.ended X Passed ghosts dict drops dx in
    let known = taking-thm.met 𝓤 𝓛 𝓜 𝓡 (code.calls-std_alloc::boxed::Box::into_raw_with_allocator 𝓡.env wired) X Passed L passed_laws ghosts dict drops dx
    (passed 𝓡.env (code.calls-box_row::place::InRowAllocator::allocate 𝓡.env wired) (code.calls-box_row::place::InRowAllocator::deallocate 𝓡.env wired) (code.calls-box_row::place::InRowAllocator::grow 𝓡.env wired) (code.calls-box_row::place::InRowAllocator::shrink 𝓡.env wired) M 𝓤 𝓛 𝓜 𝓡)
    (glues 𝓡.env (code.calls-box_row::Destruct++none::drop 𝓡.env wired) Passed passed_laws M 𝓤 𝓛 𝓜 𝓡) glue in
    proved_at 𝓛 E stayed c 𝓜 𝓡 (Goes-ref 𝓛 2 0 tt (plain (λ _. Rest)), (Goes-blank 𝓛 2 (plain (λ _. Boxed)) no (λ κs x w. tt), tt)) (#self inst) fn (code.unfolded 𝓤 𝓛.H 𝓜 𝓡 wired (X, tt) dx) (λ z are.
    let κs = z.0.0 in let qs = z.0.1 in let κ = κs.0 in let a = z.0.3.0 in let b : ℕ = a.ref_ptr.0 in let o : ℕ = a.ref_ptr.1 in let d : Rest.Denot = a.now in let v : B.Denot = z.0.3.1.0 in
    let us : List Val = z.0.4.0 in let vs : List Val = z.0.4.1.0 in let h : Here.Denot = v.alloc in let x : X.Denot = v.value in let s : ℕ = bytes_of R in
    let inX = κs.1.0 ⊑ X.lives in let inZ = κ ⊑ Here.lives in let Before = h ≡ here d.row (d.index - 1) in
    qed 𝓛 (((‵ (flft κ qs.0) ⊛ ‵ (flft κs.1.0 qs.1.0) ⊛ ‵ ftrue) ⊛ ‵ (owns (types_at E.signature.params κs) z.0.3 z.0.4)) ∷ raw (fact 𝓤 inX) ∷ raw (fact 𝓤 (0 < d.index)) ∷ raw (fact 𝓤 Before) ∷ []) ∵
    move ! (1 ∷ 2 ∷ 3 ∷ []) $ heard ! inX (λ in_x. heard ! (0 < d.index) (λ out. heard ! Before (λ before. split ! $ split ! $ move ! (2 ∷ []) $ fsplit ! $ fsplit3 ! $ feq_l ! (λ self_is. move ! (2 ∷ []) $ fsplit ! $
    -- [the box; nothing; a name; the borrow; the token; the other tokens]
    use1 𝓛 (‵ (B.own_val v vs)) (id⊢ 𝓤 _) $ box_out F ! v vs (λ b₁ o₁ hv at₁ spelled fits. box_in F ! v b₁ o₁ x at₁ refl $
    let w : Val = box.word F hv b₁ o₁ in let typed = box.box_typed F hv b₁ o₁ fits in
    regoal ! (λ (ts : List Val). prop (WpFn 𝓤 𝓛.H 𝓣.C 𝓣.Λ fn (us ++ (ts ++ [])) (W.post z))) spelled refl $ regoal ! (λ (ts : List Val). prop (WpFn 𝓤 𝓛.H 𝓣.C 𝓣.Λ fn (ts ++ (w ∷ [])) (W.post z))) self_is refl $
    enter ! _ _ _ _ _ $ alloc_all ! (λ l. pass_all ! refl ((tt, tt), (typed, tt)) $ sets ! (of_opd ! (get ! refl)) refl typed $
    let alive : Item 𝓤 = ‵ (flft κs.1.0 qs.1.0) ⊛ ‵ (flft κ qs.0) ⊛ ‵ ftrue in
    let y : Taking.Ghost = (((κs.1.0, (κ, tt)), (qs.1.0, (qs.0, tt)), tt, (v, tt), (w ∷ [], tt)), tt) in
    fjoin ! $ move ! (4 ∷ []) $ split ! $ move ! (5 ∷ 1 ∷ []) $ join ! $ move ! (1 ∷ 0 ∷ []) $ join ! $ join ! $
    nothing ! $ use0 𝓛 (raw (fact 𝓤 inZ)) (fact_i 𝓤 inZ (emp 𝓤) (⊑_static κ)) $ join ! $ use0 𝓛 (raw (fact 𝓤 inX)) (fact_i 𝓤 inX (emp 𝓤) in_x) $ join ! $ move ! (1 ∷ 0 ∷ []) $ join ! $ use1 𝓛 (raw (Taking.pre y)) (id⊢ 𝓤 _) $
    calls_at ! (framed 𝓤 𝓛.H 𝓜 𝓣) Taking known y (and_then ! (get ! refl) (no_more !)) (λ u. let Pair = Tuple (RawPtr ∷ box.P F ∷ []) in
    use1 𝓛 (later (some (λ (r : Ptr × Here.Denot). (alive ⊛ ‵ (Pair.own_val r (u ∷ []))) ⊛ some (λ (ws : Lasts taken (κs.1.0, (κ, tt)) (v, tt)). ‵ (lasts taken (κs.1.0, (κ, tt)) (v, tt) ws) ⊛ (raw (fact 𝓤 (r.1 ≡ h)) ⊛ ‵ (box_owns (token F.al h) R r.0 x)))))) (id⊢ 𝓤 _) $
    await ! tt $ pick ! (λ r. split ! $ move ! (1 ∷ []) $ pick ! (λ _. split3 ! $ drop ! $ heard ! (r.1 ≡ h) (λ same.
    in_a_block ! r.0 (λ p. box_owns (token F.al h) R p x) (fst∗ 𝓤 (never 𝓤) (sem 𝓛 (token F.al h (bare (box.τ F)) null_ptr))) (λ b₂ o₂ at₂. let p : Ptr = block_ptr b₂ o₂ in
    fsplit ! $ move ! (1 ∷ []) $ fpick ! (λ lies_here. drop ! $ move ! (1 ∷ []) $ split ! $ move ! (1 ∷ []) $
    -- [the pair; the tokens; the value; a name; the borrow]
    fpick ! (λ vss. fsplit ! $ feq_l ! (λ pair. fsplit ! $ feq_l ! (λ pointer. fsplit ! $ rewrite ! 0 (λ (k : Here.Denot). ‵ (Here.own_val k vss.1.0)) same refl $ handle_tells F.al ! h vss.1.0 (λ hw handle fits'. drop ! $ drop ! $
    lands_as ! (ap only (pair ∙ (λ j. vstruct (of_list ((pointer ∙ ap (λ (q : Ptr). ptr_val q ∷ []) at₂) j ++ (handle j ++ []))) ∷ []))) refl (box.box_typed F hw b₂ o₂ fits') $
    sets ! (of_opd ! (get_in ! (fld ! refl (stop !)) (sub ! 0 refl (whole !)))) refl (tt, tt) $
    sets ! (of_opd ! (get_in ! (fld ! refl (stop !)) (sub ! 1 refl (whole !)))) refl fits' $
    split3 ! $ move ! (4 ∷ 5 ∷ 1 ∷ []) $ opens ! tt Rest b o (λ ws. move ! (1 ∷ []) $ peeks ! Rest (Is Rest) (shows 𝓛 Rest) d ws (λ told. fsplit ! $ drop ! $ fsplit ! $ fpick ! (λ stood. drop ! $
    let bytes : step R ≡ s = size-raw (lone R.mir) in let stands : Stands s d.row d.at d.index (length d.items) = subst (λ (t : ℕ). Stands t d.row d.at d.index (length d.items)) bytes stood in
    rewrite ! 0 (λ (t : ℕ). ‵ (values R t d.at d.items)) bytes refl $
    -- [the values; the cell; the open borrow, in three; the other token; nothing; the value]
    let i : ℕ = d.index - 1 in let at : p ≡ d.row +ₚ (i * s) = lies_here ∙ (λ j. (before j).row +ₚ ((before j).index * size-raw (box.τ F) j)) in
    let follows : d.at ≡ p +ₚ s = stands.at ∙ ap (λ (m : ℕ). d.row +ₚ (m * s)) (omega (arith, out)) ∙ sym (next_is d.row i s) ∙ ap (λ (q : Ptr). q +ₚ s) (sym at) in
    let one_more : length (x ∷ d.items) ≡ length d.items + 1 = omega arith in
    let stands' : Stands (step R) d.row p i (length (x ∷ d.items)) = subst (λ (t : ℕ). Stands t d.row p i (length (x ∷ d.items))) (sym bytes) (record { inside = stands.inside; at = at; small = subst (λ (m : ℕ). m * s < 2 ^ 63) (omega (arith, out, one_more)) stands.small }) in
    rewrite ! 1 (λ (ts : List Val). ‵ (cell_at full_share Rest.mir ts b o)) ((lowers R RL).val_is d ws told) refl $
    rewrite ! 0 (λ (q : Ptr). ‵ (values R s q d.items)) follows refl $ move ! (7 ∷ 0 ∷ []) $ fjoin ! $ rewrite ! 0 (λ (t : ℕ). ‵ (values R t p (x ∷ d.items))) (sym bytes) refl $
    assigns ! (of_opd ! (get ! refl)) (through ! refl (fld ! refl (stop !))) (store_in ! 1 (sub ! 0 refl (whole !)) (tt, tt)) $
    sets ! (of_opd ! (unit_lit !)) refl (tt, tt) $
    let new : Rest.Denot = record { at = p; row = d.row; index = i; items = x ∷ d.items } in
    nothing ! $ fpack ! (Stands (step R) d.row p i (length (x ∷ d.items))) (λ _. ftrue) stands' $ fjoin ! $ use0 𝓛 (‵ ((Field R).own_val (p, tt) (word p ∷ []))) (made R 𝓛 p) $ fjoin ! $
    move ! (1 ∷ 0 ∷ []) $ closes ! tt Rest new (word p ∷ []) b o $
    -- [a name; the borrow; the token; the other token; nothing]
    returns ! (look_at ! 0 refl) $ free_all ! refl $
    feq_i ! (List Val) us (vptr b o ∷ []) self_is $ fjoin3 ! $ nothing ! $ nothing ! $ fjoin ! $ move ! (1 ∷ 0 ∷ []) $ fjoin ! $
    move ! (2 ∷ 3 ∷ []) $ join ! $ move ! (2 ∷ 0 ∷ []) $ join ! $ feq_i ! (List Val) (vunit ∷ []) (vunit ∷ []) refl $ move ! (1 ∷ 2 ∷ 0 ∷ []) $
    suffices ! _ (ends_at 𝓛 E stayed c z vunit tt (new, ((tt, (tt, tt)), tt)) (tt, (tt, tt))) $ says_two ! (refl, (refl, refl)) $ done !))))))))))))))))))))
