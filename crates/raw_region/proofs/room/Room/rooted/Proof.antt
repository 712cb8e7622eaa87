-- `rooted` takes the room apart, and makes the same room and its root of the fields.
use Rattle.raw_region.proofs.Lemmas.Steps.{refl, sym, ap, [], ◌∷◌, ◌<◌, ◌^◌, arith, proved, id⊢, ftrue, w64, Val, vptr, vint, tables, ‵, ◌⊛◌, ◌$◌, ◌∵◌, !, qed, done, keep, move, drop, use2, split, join, fsplit, fjoin, flt_i, flt_l, suffices, agg, enter, of_opd, stop, fld, no_more, and_then, returns, alloc_all, pass_all, free_all, look_at, get, get_in, sets, sub, whole, yes, Ptr, block_ptr, in_a_block, plain, nothing, Stays, walk_of, says, stay_dropped, ends_at}
use mir.Val.{vstruct, vcons, vnil}
use prog.Wp.{WpFn}
use types.Kit.{prop, regoal}
use denote.RawPtr.{room_for}
use mir.Syntax.{ty_int, ty_array}
use denote.Shadow.{pure_i}
use denote.Struct.Tuple.{Tuple}
use Rattle.core.proofs.alloc.Calls.{Goes-blank}
use Rattle.std_alloc.proofs.Pairs.{pair_val, pair_of}
use Rattle.raw_region.specs.contracts.room.Room.rooted as f
use Rattle.raw_region.proofs.room.Room.rooted.Statement.{statement}
use Rattle.raw_region.proofs.room.Room.rooted.Code as code
use Rattle.raw_region.specs.contracts.room.Room as B
use Rattle.raw_region.specs.contracts.room.Root as Root
use Rattle.raw_region.proofs.room.Room.TheLaws.{lowers}
use Rattle.raw_region.proofs.Lemmas.Rooms.{RoomFields, fields_of}

abbrev stayed : Stays f.ended.signature.params f.ended.kept
stayed = (stay_dropped (plain (λ _. B.the_row)) yes, tt)

pub rooted_spec : {M : Type 1} → statement M
rooted_spec 𝓤 𝓛 𝓜 𝓡 wired =
    let c = f.clauses 𝓛 𝓜.mem 𝓡.returns in let W = walk_of 𝓛 f.ended stayed c in let 𝓣 = tables 𝓤 𝓛.H 𝓜 𝓡 𝓡.env in
    proved 𝓛 f.ended stayed c 𝓜 𝓡 (Goes-blank 𝓛 0 (plain (λ _. B.the_row)) yes (λ κs x w. tt), tt) f.Key.name code.function (code.unfolded 𝓤 𝓛.H 𝓜 𝓡 wired)
    (λ κs. ((λ d. lowers.lowered d ∷ []), tt)) (λ κs. (lowers.val_is, tt)) (λ κs qs bounds a _ are.
    let d = a.0 in let n = d.len in let y : W.Ghost = ((κs, qs, bounds, a, (lowers.lowered d ∷ [], tt)), tt) in
    qed 𝓛 ((‵ ftrue ⊛ ‵ (B.the_row.own_val d (lowers.lowered d ∷ [])) ⊛ ‵ ftrue) ∷ ‵ ftrue ∷ []) ∵
    split ! $ drop ! $ split ! $ keep ! (0 ∷ []) $ fsplit ! $ drop ! $ fsplit ! $ flt_l ! (λ small. fsplit ! $
    in_a_block ! d.at (λ p. room_for (ty_array (ty_int w64) n) p) (id⊢ 𝓤 _) (λ b o e.
    let fits : n < 2 ^ 64 = omega arith in
    let same : B.the_row.Denot = record { at = block_ptr b o; len = n; deed = d.deed } in let cell : Val = vstruct (vcons (vptr b o) (vcons (vint w64 n) vnil)) in
    let root : Root.the_row.Denot = record { at = block_ptr b o } in let root_cell : Val = vstruct (vcons (vptr b o) vnil) in let pair = pair_val cell root_cell in
    fjoin ! $ flt_i ! n (2 ^ 60) small $ fjoin ! $
    pure_i ! (RoomFields.own_val (fields_of same) (cell ∷ [])) (λ vss. (tt, (tt, ((tt, tt), tt)))) ((vptr b o ∷ [], (vint w64 n ∷ [], tt)), (refl, (refl, ((refl, fits), tt)))) $ fjoin ! $
    pure_i ! (Root.the_row.own_val root (root_cell ∷ [])) (λ vss. (tt, (tt, tt))) ((vptr b o ∷ [], tt), (refl, (refl, tt))) $ move ! (1 ∷ 0 ∷ []) $
    use2 𝓛 (‵ ((Tuple (B.the_row ∷ Root.the_row ∷ [])).own_val (same, root) (pair ∷ []))) (pair_of 𝓛 B.the_row Root.the_row same root cell root_cell) $
    regoal ! (λ (p : Ptr). prop (WpFn 𝓤 𝓛.H 𝓣.C 𝓣.Λ code.function (lowers.lowered (record d { at = p }) ∷ []) (W.post y))) e refl $
    enter ! _ _ _ _ _ $ alloc_all ! (λ l. pass_all ! refl ((tt, (tt, (record { fits = fits }, tt))), tt) $
    sets ! (of_opd ! (get_in ! (fld ! refl (stop !)) (sub ! 0 refl (whole !)))) refl (tt, tt) $
    sets ! (of_opd ! (get_in ! (fld ! refl (stop !)) (sub ! 1 refl (whole !)))) refl (tt, record { fits = fits }) $
    sets ! (agg ! (and_then ! (get ! refl) (and_then ! (get ! refl) (no_more !)))) refl (tt, (tt, (record { fits = fits }, tt))) $
    sets ! (agg ! (and_then ! (get ! refl) (no_more !))) refl (tt, (tt, tt)) $
    sets ! (agg ! (and_then ! (get ! refl) (and_then ! (get ! refl) (no_more !)))) refl (tt, ((tt, (record { fits = fits }, tt)), ((tt, tt), tt))) $
    returns ! (look_at ! 0 refl) $ free_all ! refl $
    suffices ! _ (ends_at 𝓛 f.ended stayed c y pair (same, root) (tt, tt) (tt, tt)) $ says ! (ap (λ (p : Ptr). record d { at = p }) (sym e), sym e) $
    nothing ! $ nothing ! $ join ! $ nothing ! $ done !))))
