-- `join` glues two rooms that lie side by side.
use Rattle.raw_region.proofs.Lemmas.Steps.{◌≡◌, refl, sym, ap, ◌∙◌, [], ◌∷◌, ◌+◌, ◌*◌, ◌<◌, ◌^◌, arith, proved, id⊢, ftrue, w64, Val, vptr, vint, tables, fact, ‵, raw, ◌⊛◌, ◌$◌, ◌∵◌, !, qed, done, move, drop, use2, split, join, fsplit, fjoin, flt_i, flt_l, rewrite, suffices, agg, enter, of_opd, bin, stop, fld, no_more, and_then, returns, alloc_all, pass_all, free_all, look_at, get, get_in, sets, sub, whole, yes, Ptr, block_ptr, in_a_block, plain, nothing, heard, Stays, walk_of, says, stay_dropped, ends_at}
use mir.Val.{vstruct, vcons, vnil}
use prog.Wp.{WpFn}
use types.Kit.{prop, regoal}
use denote.RawPtr.{room_for}
use base.Fml.{froom}
use mir.Syntax.{ty_int, ty_array}
use denote.Shadow.{pure_i}
use Rattle.core.proofs.alloc.Calls.{Goes-blank}
use Rattle.raw_region.specs.Cutting.{CanJoin, end_of}
use Rattle.raw_region.specs.contracts.room.Room.join as f
use Rattle.raw_region.proofs.room.Room.join.Statement.{statement}
use Rattle.raw_region.proofs.room.Room.join.Code as code
use Rattle.raw_region.specs.contracts.room.Room as B
use Rattle.raw_region.proofs.room.Room.TheLaws.{lowers}
use Rattle.raw_region.proofs.Lemmas.Rooms.{RoomFields, fields_of, room-join}

abbrev stayed : Stays f.ended.signature.params f.ended.kept
stayed = (stay_dropped (plain (λ _. B.the_row)) yes, (stay_dropped (plain (λ _. B.the_row)) yes, tt))

pub join_spec : {M : Type 1} → statement M
join_spec 𝓤 𝓛 𝓜 𝓡 wired =
    let c = f.clauses 𝓛 𝓜.mem 𝓡.returns in let W = walk_of 𝓛 f.ended stayed c in let 𝓣 = tables 𝓤 𝓛.H 𝓜 𝓡 𝓡.env in
    proved 𝓛 f.ended stayed c 𝓜 𝓡 (Goes-blank 𝓛 0 (plain (λ _. B.the_row)) yes (λ κs x w. tt), (Goes-blank 𝓛 0 (plain (λ _. B.the_row)) yes (λ κs x w. tt), tt))
    f.Key.name code.function (code.unfolded 𝓤 𝓛.H 𝓜 𝓡 wired)
    (λ κs. ((λ d. lowers.lowered d ∷ []), ((λ d. lowers.lowered d ∷ []), tt))) (λ κs. (lowers.val_is, (lowers.val_is, tt))) (λ κs qs bounds a _ are.
    let d = a.0 in let u = a.1.0 in let n = d.len in let m = u.len in
    let y : W.Ghost = ((κs, qs, bounds, a, (lowers.lowered d ∷ [], (lowers.lowered u ∷ [], tt))), tt) in
    qed 𝓛 ((‵ ftrue ⊛ ‵ (B.the_row.own_val d (lowers.lowered d ∷ [])) ⊛ ‵ (B.the_row.own_val u (lowers.lowered u ∷ [])) ⊛ ‵ ftrue) ∷ raw (fact 𝓤 (CanJoin d u)) ∷ []) ∵
    move ! (1 ∷ []) $ heard ! (CanJoin d u) (λ can. split ! $ drop ! $ split ! $ move ! (1 ∷ []) $ split ! $ move ! (1 ∷ []) $ drop ! $
    -- [the second block; the first block]
    fsplit ! $ drop ! $ fsplit ! $ flt_l ! (λ more_small. fsplit ! $ move ! (1 ∷ []) $ drop ! $ move ! (1 ∷ []) $
    fsplit ! $ drop ! $ fsplit ! $ flt_l ! (λ small. fsplit ! $
    -- [the first room; the right; the second room]
    in_a_block ! d.at (λ p. room_for (ty_array (ty_int w64) n) p) (id⊢ 𝓤 _) (λ b o e.
    let e' : u.at ≡ block_ptr b (o + n * 8) = can.at ∙ ap (λ (p : Ptr). end_of p n) e in
    rewrite ! 2 (λ (p : Ptr). ‵ (room_for (ty_array (ty_int w64) m) p)) e' refl $ move ! (0 ∷ 2 ∷ []) $
    use2 𝓛 (‵ (froom (ty_array (ty_int w64) (n + m)) b o)) (room-join 𝓛 n m b o) $
    fjoin ! $ flt_i ! (n + m) (2 ^ 60) can.fits $ fjoin ! $
    let fits : n < 2 ^ 64 = omega arith in let more_fits : m < 2 ^ 64 = omega arith in let all : n + m < 2 ^ 64 = omega (arith, can.fits) in
    let made : B.the_row.Denot = record { at = block_ptr b o; len = n + m; deed = d.deed } in let cell : Val = vstruct (vcons (vptr b o) (vcons (vint w64 (n + m)) vnil)) in
    regoal ! (λ (p : Ptr). prop (WpFn 𝓤 𝓛.H 𝓣.C 𝓣.Λ code.function (lowers.lowered (record d { at = p }) ∷ lowers.lowered u ∷ []) (W.post y))) e refl $
    regoal ! (λ (p : Ptr). prop (WpFn 𝓤 𝓛.H 𝓣.C 𝓣.Λ code.function (lowers.lowered (record d { at = block_ptr b o }) ∷ lowers.lowered (record u { at = p }) ∷ []) (W.post y))) e' refl $
    enter ! _ _ _ _ _ $ alloc_all ! (λ l. pass_all ! refl ((tt, (tt, (record { fits = fits }, tt))), ((tt, (tt, (record { fits = more_fits }, tt))), tt)) $
    sets ! (of_opd ! (get_in ! (fld ! refl (stop !)) (sub ! 0 refl (whole !)))) refl (tt, tt) $
    sets ! (of_opd ! (get_in ! (fld ! refl (stop !)) (sub ! 1 refl (whole !)))) refl (tt, record { fits = fits }) $
    sets ! (of_opd ! (get_in ! (fld ! refl (stop !)) (sub ! 1 refl (whole !)))) refl (tt, record { fits = more_fits }) $
    sets ! (bin ! (get ! refl) (get ! refl) (record { fits = all })) refl (tt, record { fits = all }) $
    sets ! (agg ! (and_then ! (get ! refl) (and_then ! (get ! refl) (no_more !)))) refl (tt, (tt, (record { fits = all }, tt))) $
    returns ! (look_at ! 0 refl) $ free_all ! refl $
    pure_i ! (RoomFields.own_val (fields_of made) (cell ∷ [])) (λ vss. (tt, (tt, ((tt, tt), tt)))) ((vptr b o ∷ [], (vint w64 (n + m) ∷ [], tt)), (refl, (refl, ((refl, all), tt)))) $ fjoin ! $
    suffices ! _ (ends_at 𝓛 f.ended stayed c y cell made (tt, (tt, tt)) (tt, (tt, tt))) $ says ! (record { at = sym e; len = refl; deed = refl }) $
    nothing ! $ nothing ! $ join ! $ nothing ! $ join ! $ nothing ! $ done !))))))
