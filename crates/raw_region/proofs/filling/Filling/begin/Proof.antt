-- `begin` moves the two fields, and cuts off room for no word.
use Rattle.raw_region.proofs.Lemmas.Steps.{◌≡◌, refl, sym, ap, List, [], ◌∷◌, ℕ, ◌+◌, ◌-◌, ◌*◌, ◌<◌, ◌^◌, arith, length, lit<, proved, full_share, id⊢, ftrue, froom, w64, ty_int, ty_array, Val, vptr, vint, tables, ‵, ◌⊛◌, ◌$◌, ◌∵◌, !, qed, done, keep, drop, use0, use1, split, join, fsplit, fjoin, feq_i, flt_i, flt_l, rewrite, suffices, agg, enter, of_opd, lit, stop, fld, no_more, and_then, returns, alloc_all, pass_all, free_all, look_at, get, get_in, sets, sub, whole, Array, u64, yes, Ptr, block_ptr, in_a_block, plain, nothing, Stays, walk_of, says, stay_dropped, ends_at}
use mir.Val.{vstruct, vcons, vnil}
use prog.Wp.{WpFn}
use types.Kit.{prop, regoal}
use denote.ArrayMemory.{Array-whole}
use denote.Index.{row}
use denote.RawPtr.{lies_at, room_for}
use denote.Shadow.{pure_i}
use Rattle.core.proofs.alloc.Calls.{Goes-blank}
use Rattle.raw_region.specs.contracts.filling.Filling.begin as f
use Rattle.raw_region.proofs.filling.Filling.begin.Statement.{statement}
use Rattle.raw_region.proofs.filling.Filling.begin.Code as code
use Rattle.raw_region.specs.contracts.filling.Filling as F
use Rattle.raw_region.specs.contracts.room.Room as R
use Rattle.raw_region.proofs.room.Room.TheLaws.{lowers}
use Rattle.raw_region.proofs.Lemmas.Fillings.{FillingFields, fields_of}

abbrev stayed : Stays f.ended.signature.params f.ended.kept
stayed = (stay_dropped (plain (λ _. R.the_row)) yes, tt)

pub begin_spec : {M : Type 1} → statement M
begin_spec 𝓤 𝓛 𝓜 𝓡 wired =
    let c = f.clauses 𝓛 𝓜.mem 𝓡.returns in let W = walk_of 𝓛 f.ended stayed c in let 𝓣 = tables 𝓤 𝓛.H 𝓜 𝓡 𝓡.env in
    proved 𝓛 f.ended stayed c 𝓜 𝓡 (Goes-blank 𝓛 0 (plain (λ _. R.the_row)) yes (λ κs x w. tt), tt) f.Key.name code.function (code.unfolded 𝓤 𝓛.H 𝓜 𝓡 wired)
    (λ κs. ((λ d. lowers.lowered d ∷ []), tt)) (λ κs. (lowers.val_is, tt)) (λ κs qs bounds a _ are.
    let d = a.0 in let n = d.len in let y : W.Ghost = ((κs, qs, bounds, a, (lowers.lowered d ∷ [], tt)), tt) in
    qed 𝓛 ((‵ ftrue ⊛ ‵ (R.the_row.own_val d (lowers.lowered d ∷ [])) ⊛ ‵ ftrue) ∷ ‵ ftrue ∷ []) ∵
    split ! $ drop ! $ split ! $ keep ! (0 ∷ []) $ fsplit ! $ drop ! $ fsplit ! $ flt_l ! (λ small. fsplit ! $
    in_a_block ! d.at (λ p. room_for (ty_array (ty_int w64) n) p) (id⊢ 𝓤 _) (λ b o e.
    let fits : n < 2 ^ 64 = omega arith in let here : o ≡ o + 0 * 8 = omega arith in let all : n ≡ n - 0 = omega arith in let none : List ℕ = [] in
    let made : F.the_row.Denot = record { at = block_ptr b o; len = n; done = 0; words = none; deed = d.deed } in let cell : Val = vstruct (vcons (vptr b o) (vcons (vint w64 n) (vcons (vint w64 0) vnil))) in
    rewrite ! 0 (λ (m : ℕ). ‵ (froom (ty_array (ty_int w64) m) b o)) all refl $ rewrite ! 0 (λ (k : ℕ). ‵ (froom (ty_array (ty_int w64) (n - 0)) b k)) here refl $ fjoin ! $
    use0 𝓛 (‵ (row u64 full_share none b o)) (id⊢ 𝓤 _) $ feq_i ! ℕ (length none) 0 refl $ fjoin ! $
    use1 𝓛 (‵ (lies_at (Array u64 0) full_share (block_ptr b o) none)) (Array-whole 𝓛 u64 full_share 0 none b o) $ fjoin ! $ flt_i ! n (2 ^ 60) small $ fjoin ! $
    regoal ! (λ (p : Ptr). prop (WpFn 𝓤 𝓛.H 𝓣.C 𝓣.Λ code.function (lowers.lowered (record d { at = p }) ∷ []) (W.post y))) e refl $
    enter ! _ _ _ _ _ $ alloc_all ! (λ l. pass_all ! refl ((tt, (tt, (record { fits = fits }, tt))), tt) $
    sets ! (of_opd ! (get_in ! (fld ! refl (stop !)) (sub ! 0 refl (whole !)))) refl (tt, tt) $
    sets ! (of_opd ! (get_in ! (fld ! refl (stop !)) (sub ! 1 refl (whole !)))) refl (tt, record { fits = fits }) $
    sets ! (agg ! (and_then ! (get ! refl) (and_then ! (get ! refl) (and_then ! (lit ! tt) (no_more !))))) refl (tt, (tt, (record { fits = fits }, (record { fits = lit< tt }, tt)))) $
    returns ! (look_at ! 0 refl) $ free_all ! refl $
    pure_i ! (FillingFields.own_val (fields_of made) (cell ∷ [])) (λ vss. (tt, (tt, ((tt, tt), ((tt, tt), tt))))) ((vptr b o ∷ [], (vint w64 n ∷ [], (vint w64 0 ∷ [], tt))), (refl, (refl, ((refl, fits), ((refl, lit< tt), tt))))) $ fjoin ! $
    suffices ! _ (ends_at 𝓛 f.ended stayed c y cell made (tt, tt) (tt, tt)) $ says ! (record { room = ap (λ (p : Ptr). record d { at = p }) (sym e); done = refl; words = refl }) $
    nothing ! $ nothing ! $ join ! $ nothing ! $ done !))))
