-- `take` makes a box of the first value, in its place.
use Rattle.box_row.proofs.Lemmas.Names.{◌≡◌, ℕ, ◌+◌, ◌-◌, ◌*◌, ◌^◌, ◌<◌, List, [], ◌∷◌, refl, sym, ap, subst, ◌∙◌, arith, length, T, proved, after, says_three, ftrue, fsep, flft, emp, id⊢, ◌⊑◌, ⊑_static, fact, fact_i, tables, inst_fn, a_type, named, WT, has_ty, Val, vptr, Item, ‵, raw, ◌⊛◌, some, later, at_ret, ◌$◌, ◌∵◌, !, qed, done, move, keep, drop, use0, use1, use2, split, split3, join, fsplit, fsplit3, fjoin, fjoin3, feq_i, fpick, fpack, pick, await, rewrite, suffices, agg, look_in, store_in, sub, whole, and_then, bin, blocks, enter, exec, first, fld, lit, load, no_more, of_opd, returns, size_lit, stop, alloc_all, assigns, env, free_all, get, is, lands_last, look_at, pass_all, sets, through, Is, shows, cell_at, layouts, param, param_laws, RattleType, owns, InBlock, Ptr, at_block, block_of, block_ptr, count_of, ptr_val, lies_at, mut_Tells, mut_vals, plain, types_at, closes, heard, nothing, only, opens, peeks, calls_at_last, Lasts, lasts, triple_of, framed, Goes-ref, Stays, ends_at, stay_ref, walk_of, ◌+ₚ◌}
use base.Fraction.{full_share}
use mir.Raw.{raw as bare}
use prog.Memory.{size}
use prog.RawLaws.{size-raw}
use Rattle.core.specs.Mem.Slots.Ownership.{bytes_of}
use Rattle.std_alloc.specs.Box.Ownership.{box_owns}
use Rattle.std_alloc.proofs.BoxSteps.Form as box
use Rattle.std_alloc.proofs.BoxSteps.Steps.{box_in, box_out}
use Rattle.std_alloc.specs.contracts.boxed.Box.from_raw as making
use Rattle.std_alloc.proofs.boxed.Box.from_raw.Met as making-thm
use denote.Memory.{lone}
use Rattle.box_row.specs.Ownership.{Stands, rest_owns, step, values}
use Rattle.box_row.specs.Places.{IsAt, is_at}
use Rattle.box_row.specs.contracts.place.InRowAllocator.TheImpl.{dict, ghosts}
use Rattle.box_row.proofs.place.InRowAllocator.TheImpl.Met.{passed}
use Rattle.box_row.proofs.Destruct++none.drop.Code.{glues}
use Rattle.box_row.proofs.Lemmas.Fields.{Field, made, word}
use Rattle.box_row.proofs.Lemmas.Handles.{Here, Passed, blank, boxed, drops, handle_made, here, passed_laws}
use Rattle.box_row.proofs.Lemmas.Numbers.{next_is, stays_inside, uncons}
use Rattle.box_row.specs.contracts.rest.Rest as rest
use Rattle.box_row.proofs.rest.Rest.TheLaws.{lowers}
use Rattle.box_row.specs.contracts.rest.Rest.take as f
use Rattle.box_row.specs.contracts.rest.Rest.take.Key.{name as #self}
use Rattle.box_row.proofs.rest.Rest.take.Statement.{statement}
use Rattle.box_row.proofs.rest.Rest.take.Code as code

pub take_spec : {M : Type 1} → statement M
take_spec {M = M} 𝓤 𝓛 𝓜 𝓡 wired X L =
    let F : box.Bx = boxed X L in let R : RattleType = param 0 X in let B : RattleType = box.B F in let Rest : RattleType = rest.the_row R in let RL = param_laws 0 X L in
    let 𝓣 = tables 𝓤 𝓛.H 𝓜 𝓡 𝓡.env in let inst = layouts (a_type ∷ []) (X, tt) in let fn = inst_fn inst code.function in
    let E = f.ended X in let c = f.clauses X 𝓛 𝓜.mem 𝓡.returns in
    let stayed : Stays E.signature.params E.kept = (stay_ref (0 ∷ []) tt (plain (λ _. Rest)), tt) in let W = walk_of 𝓛 E stayed c in
    let Making = triple_of 𝓛 (making.signature X Passed ghosts dict drops) (making.spec X Passed ghosts dict drops 𝓛 𝓜.mem 𝓡.returns) in let made' = making.ended X Passed ghosts dict drops in
    let known = making-thm.met 𝓤 𝓛 𝓜 𝓡 (code.calls-std_alloc::boxed::Box::from_raw 𝓡.env wired) X Passed L passed_laws ghosts dict drops
    (passed 𝓡.env (code.calls-box_row::place::InRowAllocator::allocate 𝓡.env wired) (code.calls-box_row::place::InRowAllocator::deallocate 𝓡.env wired) (code.calls-box_row::place::InRowAllocator::grow 𝓡.env wired) (code.calls-box_row::place::InRowAllocator::shrink 𝓡.env wired) M 𝓤 𝓛 𝓜 𝓡)
    (glues 𝓡.env (code.calls-box_row::Destruct++none::drop 𝓡.env wired) Passed passed_laws M 𝓤 𝓛 𝓜 𝓡) in
    proved 𝓛 E stayed c 𝓜 𝓡 (Goes-ref 𝓛 2 0 tt (plain (λ _. Rest)), tt) (#self inst) fn (code.unfolded 𝓤 𝓛.H 𝓜 𝓡 wired (X, tt))
    (λ κs. (mut_vals, tt)) (λ κs. (mut_Tells (named 0) κs.0 Rest, tt)) (λ κs qs bounds a _ are.
    let κ = κs.0 in let b : ℕ = a.0.ref_ptr.0 in let o : ℕ = a.0.ref_ptr.1 in let d : Rest.Denot = a.0.now in let inX = κs.1.0 ⊑ X.lives in let inZ = κ ⊑ Here.lives in
    let s : ℕ = bytes_of R in let b' : ℕ = block_of d.at in let o' : ℕ = count_of d.at in let p : Ptr = block_ptr b' o' in
    let y : W.Ghost = ((κs, qs, bounds, a, (mut_vals a.0, tt)), tt) in
    qed 𝓛 (((‵ (flft κ qs.0) ⊛ ‵ (flft κs.1.0 qs.1.0) ⊛ ‵ ftrue) ⊛ ‵ (owns (types_at E.signature.params κs) a y.0.4)) ∷ raw (fact 𝓤 inX) ∷ raw (fact 𝓤 (0 < length d.items)) ∷ []) ∵
    move ! (1 ∷ 2 ∷ []) $ heard ! inX (λ in_x. heard ! (0 < length d.items) (λ has. split ! $ split ! $ move ! (2 ∷ []) $ fsplit ! $ fsplit3 ! $ keep ! (1 ∷ 2 ∷ 4 ∷ 5 ∷ []) $
    let all = uncons d.items has in let x : X.Denot = all.0 in let xs : List X.Denot = all.1 in
    enter ! _ _ _ _ _ $ alloc_all ! (λ l. pass_all ! refl ((tt, tt), tt) $
    opens ! tt Rest b o (λ vs. move ! (1 ∷ []) $ peeks ! Rest (Is Rest) (shows 𝓛 Rest) d vs (λ told.
    -- [the field; what the rest owns; the cell; the open borrow, in three; the other tokens]
    fsplit ! $ drop ! $ fsplit ! $ fpick ! (λ stood. drop ! $
    let bytes : step R ≡ s = size-raw (lone R.mir) in let stands : Stands s d.row d.at d.index (length d.items) = subst (λ (t : ℕ). Stands t d.row d.at d.index (length d.items)) bytes stood in
    rewrite ! 0 (λ (t : ℕ). ‵ (values R t d.at d.items)) bytes refl $ rewrite ! 0 (λ (ys : List X.Denot). ‵ (values R s d.at ys)) all.2 refl $ fsplit ! $
    let inside : InBlock d.at = subst InBlock (sym stands.at) (stays_inside d.row (d.index * s) stands.inside) in let at : d.at ≡ p = at_block d.at inside in
    let long : length d.items ≡ length xs + 1 = ap length all.2 ∙ omega arith in
    let fit : (d.index + 1 + length xs) * s < 2 ^ 63 = subst (λ (m : ℕ). m * s < 2 ^ 63) (omega (arith, long)) stands.small in
    let tiny : s < 2 ^ 64 = omega (arith, fit) in let once : 1 * s < 2 ^ 64 = omega (arith, tiny) in
    let q : Ptr = block_ptr b' (o' + s) in let Cell = λ (ws : List Val). ‵ (cell_at full_share Rest.mir ws b o) in
    let spelled : vs ≡ word p ∷ [] = (lowers R RL).val_is d vs told ∙ ap (λ (r : Ptr). word r ∷ []) at in
    rewrite ! 0 (λ (r : Ptr). ‵ (lies_at R full_share r x)) at refl $ rewrite ! 1 (λ (r : Ptr). ‵ (values R s (r +ₚ s) xs)) at refl $ rewrite ! 2 Cell spelled refl $
    -- [the value; the others; the cell; the open borrow, in three; the other tokens]
    sets ! (of_opd ! (load ! (through ! refl (fld ! refl (stop !))) (look_in ! 2 (sub ! 0 refl (whole !))))) refl (tt, tt) $
    first ! $ blocks ! $
    sets ! (bin ! (lit ! tt) (size_lit ! (record { fits = tiny })) (record { fits = once })) refl (tt, record { fits = once }) $
    sets ! (is ! (bin ! (get ! refl) (get ! refl) tt) (ap (vptr b') (omega arith))) refl (tt, tt) $
    assigns ! (of_opd ! (get ! refl)) (through ! refl (fld ! refl (stop !))) (store_in ! 2 (sub ! 0 refl (whole !)) (tt, tt)) $
    sets ! (agg ! (no_more !)) refl (tt, tt) $
    let new : Rest.Denot = record { at = q; row = d.row; index = d.index + 1; items = xs } in
    let further : q ≡ d.row +ₚ ((d.index + 1) * s) = ap (λ (r : Ptr). r +ₚ s) (sym at ∙ stands.at) ∙ next_is d.row d.index s in
    let stands' : Stands (step R) d.row q (d.index + 1) (length xs) = subst (λ (t : ℕ). Stands t d.row q (d.index + 1) (length xs)) (sym bytes) (record { inside = stands.inside; at = further; small = fit }) in
    move ! (1 ∷ []) $ rewrite ! 0 (λ (t : ℕ). ‵ (values R t q xs)) (sym bytes) refl $ nothing ! $ fpack ! (Stands (step R) d.row q (d.index + 1) (length xs)) (λ _. ftrue) stands' $ fjoin ! $ use0 𝓛 (‵ ((Field R).own_val (q, tt) (word q ∷ []))) (made R 𝓛 q) $ fjoin ! $
    move ! (2 ∷ 0 ∷ 3 ∷ 4 ∷ 5 ∷ []) $ closes ! tt Rest new (word q ∷ []) b o $
    -- [a name; the borrow; the token; the value; the other tokens]
    let h : Here.Denot = here d.row d.index in let IsHere = IsAt d.row d.index (bare (box.τ F)) p in
    let placed : IsHere = sym at ∙ stands.at ∙ ap (λ (m : ℕ). d.row +ₚ (d.index * m)) (sym (size-raw (box.τ F))) in
    let alive : Item 𝓤 = ‵ (flft κs.1.0 qs.1.0) ⊛ ‵ (flft κ qs.0) ⊛ ‵ ftrue in
    let z : Making.Ghost = (((κs.1.0, (κ, tt)), (qs.1.0, (qs.0, tt)), tt, (h, (p, tt)), (blank ∷ [], (vptr b' o' ∷ [], tt))), x) in
    move ! (3 ∷ []) $ nothing ! $ fpack ! IsHere (λ _. ftrue) placed $ move ! (1 ∷ 0 ∷ []) $ fjoin ! $
    use0 𝓛 (raw (fact 𝓤 inZ)) (fact_i 𝓤 inZ (emp 𝓤) (⊑_static κ)) $ join ! $ use0 𝓛 (raw (fact 𝓤 inX)) (fact_i 𝓤 inX (emp 𝓤) in_x) $ join ! $
    nothing ! $ feq_i ! (List Val) (vptr b' o' ∷ []) (ptr_val p ∷ []) refl $ use0 𝓛 (‵ (Here.own_val h (blank ∷ []))) (handle_made 𝓛 h) $ fjoin3 ! $
    -- [what the call takes; what it asks; a name; the borrow; the token; the other tokens]
    move ! (5 ∷ []) $ split ! $ move ! (6 ∷ 1 ∷ []) $ join ! $ move ! (1 ∷ 0 ∷ []) $ join ! $ join ! $ join ! $ use1 𝓛 (raw (Making.pre z)) (id⊢ 𝓤 _) $
    calls_at_last ! (framed 𝓤 𝓛.H 𝓜 𝓣) Making known z (and_then ! (get ! refl) (and_then ! (get ! refl) (no_more !))) (λ u.
    use1 𝓛 (later (some (λ (r : B.Denot). (alive ⊛ ‵ (B.own_val r (u ∷ []))) ⊛ some (λ (ws : Lasts made' (κs.1.0, (κ, tt)) (h, (p, tt))). ‵ (lasts made' (κs.1.0, (κ, tt)) (h, (p, tt)) ws) ⊛ (raw (fact 𝓤 (r.value ≡ x)) ⊛ raw (fact 𝓤 (r.alloc ≡ h))))))) (id⊢ 𝓤 _) $
    await ! tt $ pick ! (λ r. split ! $ move ! (1 ∷ []) $ pick ! (λ _. split3 ! $ drop ! $ heard ! (r.value ≡ x) (λ value. heard ! (r.alloc ≡ h) (λ place. split ! $ move ! (1 ∷ []) $
    box_out F ! r (u ∷ []) (λ b'' o'' hw at' spelled' fits. box_in F ! r b'' o'' r.value at' refl $
    let w : Val = box.word F hw b'' o'' in let typed = box.box_typed F hw b'' o'' fits in let is_box : u ≡ w = ap only spelled' in
    lands_last ! refl (subst (λ (v : Val). T (has_ty (box.box_ty F) v) × WT v) (sym is_box) typed) $ exec ! 𝓣.C 𝓣.Λ (env fn.locals l) (after 2 fn.body) (at_ret _ (W.post y)) $
    sets ! (is ! (of_opd ! (get ! refl)) is_box) refl typed $
    returns ! (look_at ! 0 refl) $ free_all ! refl $
    -- [the box; the tokens; a name; the borrow]
    move ! (1 ∷ []) $ split3 ! $ move ! (0 ∷ 2 ∷ []) $ join ! $ move ! (1 ∷ 0 ∷ []) $ join ! $
    move ! (2 ∷ 3 ∷ []) $ feq_i ! (List Val) (vptr b o ∷ []) (vptr b o ∷ []) refl $ fjoin3 ! $ nothing ! $ move ! (1 ∷ 0 ∷ []) $ fjoin ! $ move ! (1 ∷ []) $
    suffices ! _ (ends_at 𝓛 E stayed c y w r (new, tt) (tt, tt)) $
    says_three ! (all.2 ∙ ap (λ (v : X.Denot). v ∷ xs) (sym value), place, (refl, refl)) $ done !)))))))))))))
