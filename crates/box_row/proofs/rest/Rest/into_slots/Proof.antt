-- `into_slots` makes a row of places, which all hold a value.
use Rattle.box_row.proofs.Lemmas.Names.{◌≡◌, ℕ, ◌+◌, ◌*◌, ◌^◌, ◌<◌, List, [], ◌∷◌, refl, sym, ap, subst, ◌∙◌, arith, w64, length, T, proved, after, ftrue, fsep, flft, emp, id⊢, ◌⊑◌, fact, fact_i, tables, inst_fn, a_type, WT, has_ty, Val, vint, vptr, WpFn, Item, ‵, raw, ◌⊛◌, some, later, at_ret, ◌$◌, ◌∵◌, !, qed, done, move, keep, drop, use0, use1, use2, split, join, fsplit, fjoin, fjoin3, feq_i, flt_i, fpick, pick, await, rewrite, suffices, sub, whole, and_then, blocks, enter, exec, first, fld, no_more, of_opd, returns, stop, alloc_all, env, free_all, get, get_in, is, lands_last, look_at, pass_all, sets, usize, no, yes, layouts, param, param_laws, uint_Tells, uint_vals, RattleType, owns, InBlock, Ptr, at_block, block_of, block_ptr, count_of, ptr_val, plain, types_at, heard, nothing, only, calls_at_last, Lasts, lasts, triple_of, framed, Goes-dropped, Stays, ends_at, stay_dropped, walk_of, ◌+ₚ◌}
use mathlib.Core.Bool.{Bool, false, true}
use lib.ListN.{get_or, get_or-replicate, length-replicate, replicate}
use denote.Param.{layout}
use Rattle.core.specs.Mem.Slots.{IsFull, slots_filled, slots_items, slots_len, slots_ptr}
use Rattle.core.specs.Mem.Slots.Ownership.{bytes_of, slots}
use Rattle.core.proofs.mem.Param.{El}
use Rattle.core.proofs.slots.Opens.{Sr, row_had, row_made, row_val}
use Rattle.core.specs.contracts.slots.Slots.from_raw_parts as making
use Rattle.core.proofs.slots.Slots.from_raw_parts.Met as making-thm
use prog.RawLaws.{size-raw}
use denote.Memory.{lone}
use Rattle.box_row.specs.Ownership.{Stands, step, values}
use Rattle.core.proofs.slots.Bodies.{says_four}
use Rattle.box_row.proofs.Lemmas.Fields.{typed, word}
use Rattle.box_row.proofs.Lemmas.Numbers.{first_is, stays_inside}
use Rattle.box_row.proofs.Lemmas.Values.{to_slots}
use Rattle.box_row.specs.contracts.rest.Rest as rest
use Rattle.box_row.proofs.rest.Rest.TheLaws.{lowers}
use Rattle.box_row.specs.contracts.rest.Rest.into_slots as f
use Rattle.box_row.specs.contracts.rest.Rest.into_slots.Key.{name as #self}
use Rattle.box_row.proofs.rest.Rest.into_slots.Statement.{statement}
use Rattle.box_row.proofs.rest.Rest.into_slots.Code as code

pub into_slots_spec : {M : Type 1} → statement M
into_slots_spec 𝓤 𝓛 𝓜 𝓡 wired X L =
    let G : El = record { row = X; laws = L } in let R : RattleType = param 0 X in let S : RattleType = Sr G in let Rest : RattleType = rest.the_row R in let RL = param_laws 0 X L in
    let 𝓣 = tables 𝓤 𝓛.H 𝓜 𝓡 𝓡.env in let inst = layouts (a_type ∷ []) (X, tt) in let fn = inst_fn inst code.function in
    let E = f.ended X in let c = f.clauses X 𝓛 𝓜.mem 𝓡.returns in
    let stayed : Stays E.signature.params E.kept = (stay_dropped (plain (λ _. Rest)) no, (stay_dropped (plain (λ _. usize)) yes, tt)) in let W = walk_of 𝓛 E stayed c in
    let Making = triple_of 𝓛 (making.signature X) (making.spec X 𝓛 𝓜.mem 𝓡.returns) in let made = making.ended X in
    let known = making-thm.met 𝓤 𝓛 𝓜 𝓡 (code.calls-core::slots::Slots::from_raw_parts 𝓡.env wired) X L in
    proved 𝓛 E stayed c 𝓜 𝓡 (Goes-dropped 𝓛 1 (plain (λ _. Rest)) no (λ κs x w. refl), (Goes-dropped 𝓛 1 (plain (λ _. usize)) yes (λ κs x w. refl), tt)) (#self inst) fn (code.unfolded 𝓤 𝓛.H 𝓜 𝓡 wired (X, tt))
    (λ κs. ((λ d. word d.at ∷ []), (uint_vals w64, tt))) (λ κs. ((lowers R RL).val_is, (uint_Tells w64, tt))) (λ κs qs bounds a _ are.
    let d : Rest.Denot = a.0 in let n : ℕ = a.1.0 in let xs : List X.Denot = d.items in let b : ℕ = block_of d.at in let o : ℕ = count_of d.at in let p : Ptr = block_ptr b o in
    let fs : List Bool = replicate (length xs) true in let small : n < 2 ^ 64 = are.1.0.1 in let vs : List Val = word d.at ∷ [] in
    let alive : Item 𝓤 = ‵ (flft κs.0 qs.0) ⊛ ‵ ftrue in let inX = κs.0 ⊑ X.lives in
    let z : W.Ghost = ((κs, qs, bounds, a, (vs, (vint w64 n ∷ [], tt))), tt) in
    qed 𝓛 ((alive ⊛ ‵ (owns (types_at E.signature.params κs) a z.0.4)) ∷ raw (fact 𝓤 inX) ∷ raw (fact 𝓤 (d.index ≡ 0)) ∷ raw (fact 𝓤 (n ≡ length xs)) ∷ []) ∵
    move ! (1 ∷ 2 ∷ 3 ∷ []) $ heard ! inX (λ in_x. heard ! (d.index ≡ 0) (λ none. heard ! (n ≡ length xs) (λ all. split ! $ move ! (1 ∷ []) $
    fsplit ! $ fsplit ! $ drop ! $ fsplit ! $ fpick ! (λ stood. keep ! (1 ∷ 3 ∷ []) $
    let bytes : step R ≡ bytes_of R = size-raw (lone R.mir) in let stands : Stands (bytes_of R) d.row d.at d.index (length xs) = subst (λ (s : ℕ). Stands s d.row d.at d.index (length xs)) bytes stood in
    -- [the values; the tokens]
    let inside : InBlock d.at = subst InBlock (sym stands.at) (stays_inside d.row (d.index * bytes_of R) stands.inside) in let at : d.at ≡ p = at_block d.at inside in
    let begins : d.at ≡ d.row = stands.at ∙ ap (λ (i : ℕ). d.row +ₚ (i * bytes_of R)) none ∙ first_is d.row (bytes_of R) in
    let number : d.index + length xs ≡ n = omega (arith, none, all) in let fit : n * bytes_of R < 2 ^ 63 = subst (λ (m : ℕ). m * bytes_of R < 2 ^ 63) number stands.small in
    let flags : n ≡ length fs = all ∙ sym (length-replicate (length xs) true) in
    rewrite ! 0 (λ (s : ℕ). ‵ (values R s d.at xs)) bytes refl $ rewrite ! 0 (λ (q : Ptr). ‵ (values R (bytes_of R) q xs)) at refl $ use1 𝓛 (‵ (slots R p xs fs)) (to_slots R 𝓛 p xs) $
    enter ! _ _ _ _ _ $ alloc_all ! (λ l. pass_all ! refl (typed d.at inside, ((tt, record { fits = small }), tt)) $
    sets ! (is ! (of_opd ! (get_in ! (fld ! refl (stop !)) (sub ! 0 refl (whole !)))) (ap ptr_val at)) refl (tt, tt) $ first ! $ blocks ! $
    let Sized = (n ≡ length xs) × (n ≡ length fs) in
    let y : Making.Ghost = ((κs, qs, tt, (p, (n, tt)), (vptr b o ∷ [], (vint w64 n ∷ [], tt))), (xs, fs)) in
    flt_i ! (n * bytes_of R) (2 ^ 63) fit $ fjoin ! $ use0 𝓛 (raw (fact 𝓤 Sized)) (fact_i 𝓤 Sized (emp 𝓤) (all, flags)) $ join ! $ use0 𝓛 (raw (fact 𝓤 inX)) (fact_i 𝓤 inX (emp 𝓤) in_x) $ join ! $
    nothing ! $ flt_i ! n (2 ^ 64) small $ feq_i ! (List Val) (vint w64 n ∷ []) (vint w64 n ∷ []) refl $ fjoin ! $ feq_i ! (List Val) (vptr b o ∷ []) (vptr b o ∷ []) refl $ fjoin3 ! $
    move ! (2 ∷ 0 ∷ []) $ join ! $ join ! $ use1 𝓛 (raw (Making.pre y)) (id⊢ 𝓤 _) $
    calls_at_last ! (framed 𝓤 𝓛.H 𝓜 𝓣) Making known y (and_then ! (get ! refl) (and_then ! (get ! refl) (no_more !))) (λ u.
    let Are = λ (r : S.Denot). (slots_ptr r ≡ p) × (slots_len r ≡ n) × (slots_items r ≡ xs) × (slots_filled r ≡ fs) in
    use1 𝓛 (later (some (λ (r : S.Denot). (alive ⊛ ‵ (S.own_val r (u ∷ []))) ⊛ some (λ (ws : Lasts made κs (p, (n, tt))). ‵ (lasts made κs (p, (n, tt)) ws) ⊛ raw (fact 𝓤 (Are r)))))) (id⊢ 𝓤 _) $
    await ! tt $ pick ! (λ r. split ! $ move ! (1 ∷ []) $ pick ! (λ _. split ! $ drop ! $ heard ! (Are r) (λ same. split ! $ move ! (1 ∷ []) $
    row_had G ! r (u ∷ []) (λ b' o' at' spelled small' fit'. row_made G ! r b' o' at' small' fit' $
    let w : Val = row_val b' o' r.len in let good : T (has_ty (layout S) w) × WT w = (tt, (tt, (record { fits = small' }, tt))) in let e : u ≡ w = ap only spelled in
    let full : IsFull r = λ k low high. let near : k < length xs = subst (λ (m : ℕ). k < m) (same.1 ∙ all) high in ap (λ (gs : List Bool). get_or gs k false) same.3 ∙ get_or-replicate (length xs) k true false near in
    lands_last ! refl (subst (λ (s : Val). T (has_ty (layout S) s) × WT s) (sym e) good) $ exec ! 𝓣.C 𝓣.Λ (env fn.locals l) (after 2 fn.body) (at_ret _ (W.post z)) $
    sets ! (is ! (of_opd ! (get ! refl)) e) refl good $
    returns ! (look_at ! 0 refl) $ free_all ! refl $ keep ! (0 ∷ 1 ∷ []) $ nothing ! $ nothing ! $ fjoin ! $ nothing ! $ fjoin ! $ move ! (2 ∷ []) $
    suffices ! _ (ends_at 𝓛 E stayed c z w r (tt, (tt, tt)) (tt, (tt, tt))) $ says_four ! (same.0 ∙ sym at ∙ begins, same.1, same.2, full) $ done !)))))))))))
