-- `put` writes the first word of the room that is left.
use Rattle.raw_region.proofs.Lemmas.Steps.{◌≡◌, refl, sym, ap, ◌∙◌, List, [], ◌∷◌, ℕ, suc, ◌+◌, ◌-◌, ◌*◌, ◌<◌, ◌^◌, arith, length, proved, full_share, id⊢, ftrue, froom, fsep, w64, ty_int, ty_array, Val, vptr, vint, tables, fact, ‵, raw, ◌⊛◌, at_ret, ◌$◌, ◌∵◌, !, qed, done, move, use1, use2, split, join, fsplit, fjoin, feq_i, feq_l, flt_i, flt_l, rewrite, suffices, agg, enter, of_opd, lit, bin, init, stop, fld, no_more, and_then, assigns_last, first, blocks, exec, returns, alloc_all, pass_all, free_all, look_at, get, get_in, through, sets, env, sub, whole, Array, u64, yes, Ptr, block_ptr, in_a_block, plain, nothing, heard, Stays, walk_of, says, stay_dropped, Goes-dropped, ends_at}
use Rattle.raw_region.proofs.Lemmas.Steps.{drop as let_go}
use mathlib.Core.List.{◌++◌}
use Rattle.std.proofs.lemmas.List.{length-append}
use mir.Val.{vstruct, vcons, vnil}
use prog.Wp.{WpFn}
use types.ByLocal.{is}
use types.Kit.{prop, regoal}
use denote.ArrayMemory.{Array-apart, Array-whole}
use denote.Index.{row}
use denote.Memory.{part_at}
use denote.Plain.{uint_in, uint_vals, uint_Tells}
use denote.RawPtr.{lies_at, room_for}
use denote.Shadow.{pure_i}
use Rattle.core.proofs.alloc.Calls.{Goes-blank}
use Rattle.raw_region.specs.Cutting.{end_of}
use Rattle.raw_region.specs.FillingSteps.{room_filled}
use Rattle.raw_region.specs.contracts.filling.Filling.put as f
use Rattle.raw_region.proofs.filling.Filling.put.Statement.{statement}
use Rattle.raw_region.proofs.filling.Filling.put.Code as code
use Rattle.raw_region.specs.contracts.filling.Filling as F
use Rattle.raw_region.proofs.filling.Filling.TheLaws.{lowers}
use Rattle.raw_region.proofs.Lemmas.Fillings.{FillingFields, fields_of, row_more}

abbrev stayed : Stays f.ended.signature.params f.ended.kept
stayed = (stay_dropped (plain (λ _. F.the_row)) yes, (stay_dropped (plain (λ _. u64)) yes, tt))

pub put_spec : {M : Type 1} → statement M
put_spec 𝓤 𝓛 𝓜 𝓡 wired =
    let c = f.clauses 𝓛 𝓜.mem 𝓡.returns in let W = walk_of 𝓛 f.ended stayed c in let 𝓣 = tables 𝓤 𝓛.H 𝓜 𝓡 𝓡.env in
    proved 𝓛 f.ended stayed c 𝓜 𝓡 (Goes-blank 𝓛 0 (plain (λ _. F.the_row)) yes (λ κs x w. tt), (Goes-dropped 𝓛 0 (plain (λ _. u64)) yes (λ κs x w. refl), tt))
    f.Key.name code.function (code.unfolded 𝓤 𝓛.H 𝓜 𝓡 wired)
    (λ κs. ((λ d. lowers.lowered d ∷ []), (uint_vals w64, tt))) (λ κs. (lowers.val_is, (uint_Tells w64, tt))) (λ κs qs bounds a _ are.
    let d = a.0 in let n = d.len in let i = d.done in let ws = d.words in let x = a.1.0 in let x_fits = are.1.0.1 in
    let y : W.Ghost = ((κs, qs, bounds, a, (lowers.lowered d ∷ [], (uint_vals w64 x, tt))), tt) in
    qed 𝓛 ((‵ ftrue ⊛ ‵ (F.the_row.own_val d (lowers.lowered d ∷ [])) ⊛ ‵ (u64.own_val x (uint_vals w64 x)) ⊛ ‵ ftrue) ∷ raw (fact 𝓤 (i < n)) ∷ []) ∵
    move ! (1 ∷ []) $ heard ! (i < n) (λ inside. split ! $ let_go ! $ split ! $ move ! (1 ∷ []) $ let_go ! $
    fsplit ! $ let_go ! $ fsplit ! $ flt_l ! (λ small. fsplit ! $ move ! (1 ∷ []) $ fsplit ! $ move ! (2 ∷ []) $
    -- [the words; the room; the right]
    in_a_block ! d.at (λ p. lies_at (Array u64 i) full_share p ws) (id⊢ 𝓤 _) (λ b o e.
    rewrite ! 1 (λ (p : Ptr). ‵ (room_for (ty_array (ty_int w64) (n - i)) (end_of p i))) e refl $
    use1 𝓛 (‵ (fsep _ (row u64 full_share ws b o))) (Array-apart 𝓛 u64 full_share tt i ws b o) $ fsplit ! $ feq_l ! (λ long.
    let fits : n < 2 ^ 64 = omega (arith, small) in let i_fits : i < 2 ^ 64 = omega (arith, small, inside) in let next : i + 1 < 2 ^ 64 = omega (arith, small, inside) in let bytes : i * 8 < 2 ^ 64 = omega (arith, small, inside) in
    let left : n - i ≡ suc (n - suc i) = omega (arith, inside) in let less : n - suc i ≡ n - (i + 1) = omega arith in let behind : o + i * 8 + 8 ≡ o + (i + 1) * 8 = omega arith in
    let there : i * 8 + o ≡ o + i * 8 = omega arith in let more : List ℕ = ws ++ x ∷ [] in let longer : length more ≡ i + 1 = length-append ws (x ∷ []) ∙ ap (λ k. k + 1) long in
    let made : F.the_row.Denot = record { at = block_ptr b o; len = n; done = i + 1; words = more; deed = d.deed } in let cell : Val = vstruct (vcons (vptr b o) (vcons (vint w64 n) (vcons (vint w64 (i + 1)) vnil))) in
    move ! (1 ∷ []) $ rewrite ! 0 (λ (m : ℕ). ‵ (froom (ty_array (ty_int w64) m) b (o + i * 8))) left refl $
    use1 𝓛 (‵ (froom (ty_int w64) b (o + i * 8)) ⊛ ‵ (froom (ty_array (ty_int w64) (n - suc i)) b (o + i * 8 + 8))) (𝓛.laws.room_uncons (ty_int w64) (n - suc i) b (o + i * 8)) $ split ! $
    -- [the place; the room after it; the words; the right]
    regoal ! (λ (p : Ptr). prop (WpFn 𝓤 𝓛.H 𝓣.C 𝓣.Λ code.function (lowers.lowered (record d { at = p }) ∷ vint w64 x ∷ []) (W.post y))) e refl $
    enter ! _ _ _ _ _ $ alloc_all ! (λ l. pass_all ! refl ((tt, (tt, (record { fits = fits }, (record { fits = i_fits }, tt)))), ((tt, record { fits = x_fits }), tt)) $
    sets ! (of_opd ! (get_in ! (fld ! refl (stop !)) (sub ! 0 refl (whole !)))) refl (tt, tt) $
    sets ! (of_opd ! (get_in ! (fld ! refl (stop !)) (sub ! 1 refl (whole !)))) refl (tt, record { fits = fits }) $
    sets ! (of_opd ! (get_in ! (fld ! refl (stop !)) (sub ! 2 refl (whole !)))) refl (tt, record { fits = i_fits }) $
    first ! $ blocks ! $
    sets ! (bin ! (get ! refl) (lit ! tt) (record { fits = bytes })) refl (tt, record { fits = bytes }) $
    sets ! (is ! (bin ! (get ! refl) (get ! refl) tt) (ap (λ (k : ℕ). vptr b k) there)) refl (tt, tt) $
    assigns_last ! (of_opd ! (get ! refl)) (through ! refl (stop !)) (init ! 0 refl (tt, record { fits = x_fits })) $
    exec ! 𝓣.C 𝓣.Λ (env code.Mir.locals l) code.Mir.t-5 (at_ret _ (W.post y)) $
    sets ! (bin ! (get ! refl) (lit ! tt) (record { fits = next })) refl (tt, record { fits = next }) $
    sets ! (agg ! (and_then ! (get ! refl) (and_then ! (get ! refl) (and_then ! (get ! refl) (no_more !))))) refl (tt, (tt, (record { fits = fits }, (record { fits = next }, tt)))) $
    returns ! (look_at ! 0 refl) $ free_all ! refl $
    use1 𝓛 (‵ (part_at u64 full_share x b (o + i * 8))) (uint_in 𝓛 full_share w64 x b (o + i * 8)) $
    rewrite ! 0 (λ (k : ℕ). ‵ (part_at u64 full_share x b (o + k * 8))) (sym long) refl $ move ! (2 ∷ 0 ∷ []) $
    use2 𝓛 (‵ (row u64 full_share more b o)) (row_more 𝓛 ws x b o) $
    -- [the words; the room after them; the right]
    move ! (1 ∷ []) $ rewrite ! 0 (λ (m : ℕ). ‵ (froom (ty_array (ty_int w64) m) b (o + i * 8 + 8))) less refl $
    rewrite ! 0 (λ (k : ℕ). ‵ (froom (ty_array (ty_int w64) (n - (i + 1))) b k)) behind refl $ move ! (0 ∷ 2 ∷ []) $ fjoin ! $ move ! (1 ∷ []) $
    feq_i ! ℕ (length more) (i + 1) longer $ fjoin ! $ use1 𝓛 (‵ (lies_at (Array u64 (i + 1)) full_share (block_ptr b o) more)) (Array-whole 𝓛 u64 full_share (i + 1) more b o) $ fjoin ! $
    flt_i ! n (2 ^ 60) small $ fjoin ! $
    pure_i ! (FillingFields.own_val (fields_of made) (cell ∷ [])) (λ vss. (tt, (tt, ((tt, tt), ((tt, tt), tt))))) ((vptr b o ∷ [], (vint w64 n ∷ [], (vint w64 (i + 1) ∷ [], tt))), (refl, (refl, ((refl, fits), ((refl, next), tt))))) $ fjoin ! $
    suffices ! _ (ends_at 𝓛 f.ended stayed c y cell made (tt, (tt, tt)) (tt, (tt, tt))) $ says ! (record { room = ap (λ (p : Ptr). room_filled (record d { at = p })) (sym e); done = refl; words = refl }) $
    nothing ! $ nothing ! $ join ! $ nothing ! $ join ! $ nothing ! $ done !))))))
