-- `cut` parts a room, and makes a room of each part.
use Rattle.raw_region.proofs.Lemmas.Steps.{◌≡◌, refl, sym, ap, [], ◌∷◌, ℕ, ◌+◌, ◌-◌, ◌*◌, ◌≤◌, ◌<◌, ◌^◌, arith, proved, id⊢, ftrue, w64, Val, vptr, vint, tables, fact, ‵, raw, ◌⊛◌, at_ret, ◌$◌, ◌∵◌, !, qed, done, move, use1, use2, split, join, fsplit, fjoin, flt_i, flt_l, suffices, agg, enter, of_opd, lit, bin, stop, fld, no_more, and_then, first, blocks, exec, returns, alloc_all, pass_all, free_all, look_at, get, get_in, sets, sets_last, env, sub, whole, usize, yes, Ptr, block_ptr, in_a_block, plain, nothing, heard, Stays, walk_of, says, stay_dropped, Goes-dropped, ends_at}
use Rattle.raw_region.proofs.Lemmas.Steps.{drop as let_go}
use Rattle.core.specs.declared.option.Option.TheVariants.{None as Nothing}
use mir.Val.{vstruct, vcons, vnil}
use prog.Wp.{WpFn}
use types.ByLocal.{is}
use types.Kit.{prop, regoal}
use denote.Plain.{uint_vals, uint_Tells}
use denote.RawPtr.{room_for}
use base.Fml.{froom}
use mir.Syntax.{ty_int, ty_array}
use denote.Shadow.{pure_i}
use denote.Struct.Tuple.{Tuple}
use Rattle.core.proofs.alloc.Calls.{Goes-blank}
use Rattle.std_alloc.proofs.Pairs.{pair_val, pair_of}
use Rattle.raw_region.specs.contracts.room.Room.cut as f
use Rattle.raw_region.proofs.room.Room.cut.Statement.{statement}
use Rattle.raw_region.proofs.room.Room.cut.Code as code
use Rattle.raw_region.specs.contracts.room.Room as B
use Rattle.raw_region.proofs.room.Room.TheLaws.{lowers}
use Rattle.raw_region.specs.Cutting.{end_of}
use Rattle.raw_region.proofs.Lemmas.Rooms.{RoomFields, fields_of, room-cut}

abbrev stayed : Stays f.ended.signature.params f.ended.kept
stayed = (stay_dropped (plain (λ _. B.the_row)) yes, (stay_dropped (plain (λ _. usize)) yes, tt))

pub cut_spec : {M : Type 1} → statement M
cut_spec 𝓤 𝓛 𝓜 𝓡 wired =
    let c = f.clauses 𝓛 𝓜.mem 𝓡.returns in let W = walk_of 𝓛 f.ended stayed c in let 𝓣 = tables 𝓤 𝓛.H 𝓜 𝓡 𝓡.env in
    proved 𝓛 f.ended stayed c 𝓜 𝓡 (Goes-blank 𝓛 0 (plain (λ _. B.the_row)) yes (λ κs x w. tt), (Goes-dropped 𝓛 0 (plain (λ _. usize)) yes (λ κs x w. refl), tt))
    f.Key.name code.function (code.unfolded 𝓤 𝓛.H 𝓜 𝓡 wired)
    (λ κs. ((λ d. lowers.lowered d ∷ []), (uint_vals w64, tt))) (λ κs. (lowers.val_is, (uint_Tells w64, tt))) (λ κs qs bounds a _ are.
    let d = a.0 in let n = a.1.0 in let len = d.len in let m = len - n in let n_fits = are.1.0.1 in
    let y : W.Ghost = ((κs, qs, bounds, a, (lowers.lowered d ∷ [], (uint_vals w64 n, tt))), tt) in
    qed 𝓛 ((‵ ftrue ⊛ ‵ (B.the_row.own_val d (lowers.lowered d ∷ [])) ⊛ ‵ (usize.own_val n (uint_vals w64 n)) ⊛ ‵ ftrue) ∷ raw (fact 𝓤 (n ≤ len)) ∷ []) ∵
    move ! (1 ∷ []) $ heard ! (n ≤ len) (λ inside. split ! $ let_go ! $ split ! $ move ! (1 ∷ []) $ let_go ! $
    fsplit ! $ let_go ! $ fsplit ! $ flt_l ! (λ small. fsplit ! $
    -- [the room; the right]
    in_a_block ! d.at (λ p. room_for (ty_array (ty_int w64) len) p) (id⊢ 𝓤 _) (λ b o e.
    use1 𝓛 (‵ (froom (ty_array (ty_int w64) n) b o) ⊛ ‵ (froom (ty_array (ty_int w64) m) b (o + n * 8))) (room-cut 𝓛 n m len b o (omega (arith, inside))) $ split ! $
    let fits : len < 2 ^ 64 = omega arith in let m_fits : m < 2 ^ 64 = omega (arith, small) in let bytes : n * 8 < 2 ^ 64 = omega (arith, small, inside) in
    let front : B.the_row.Denot = record { at = block_ptr b o; len = n; deed = d.deed } in let front_cell : Val = vstruct (vcons (vptr b o) (vcons (vint w64 n) vnil)) in
    let above : B.the_row.Denot = record { at = block_ptr b (o + n * 8); len = m; deed = Nothing } in let above_cell : Val = vstruct (vcons (vptr b (o + n * 8)) (vcons (vint w64 m) vnil)) in
    -- the second room
    move ! (1 ∷ []) $ nothing ! $ move ! (1 ∷ 0 ∷ []) $ fjoin ! $ flt_i ! m (2 ^ 60) (omega (arith, small)) $ fjoin ! $
    pure_i ! (RoomFields.own_val (fields_of above) (above_cell ∷ [])) (λ vss. (tt, (tt, ((tt, tt), tt)))) ((vptr b (o + n * 8) ∷ [], (vint w64 m ∷ [], tt)), (refl, (refl, ((refl, m_fits), tt)))) $ fjoin ! $
    -- the first room
    move ! (1 ∷ 2 ∷ []) $ fjoin ! $ flt_i ! n (2 ^ 60) (omega (arith, small, inside)) $ fjoin ! $
    pure_i ! (RoomFields.own_val (fields_of front) (front_cell ∷ [])) (λ vss. (tt, (tt, ((tt, tt), tt)))) ((vptr b o ∷ [], (vint w64 n ∷ [], tt)), (refl, (refl, ((refl, n_fits), tt)))) $ fjoin ! $
    use2 𝓛 (‵ ((Tuple (B.the_row ∷ B.the_row ∷ [])).own_val (front, above) (pair_val front_cell above_cell ∷ []))) (pair_of 𝓛 B.the_row B.the_row front above front_cell above_cell) $
    regoal ! (λ (p : Ptr). prop (WpFn 𝓤 𝓛.H 𝓣.C 𝓣.Λ code.function (lowers.lowered (record d { at = p }) ∷ vint w64 n ∷ []) (W.post y))) e refl $
    enter ! _ _ _ _ _ $ alloc_all ! (λ l. pass_all ! refl ((tt, (tt, (record { fits = fits }, tt))), ((tt, record { fits = n_fits }), tt)) $
    sets ! (of_opd ! (get_in ! (fld ! refl (stop !)) (sub ! 0 refl (whole !)))) refl (tt, tt) $
    sets ! (of_opd ! (get_in ! (fld ! refl (stop !)) (sub ! 1 refl (whole !)))) refl (tt, record { fits = fits }) $
    let there : n * 8 + o ≡ o + n * 8 = omega arith in let pair = pair_val front_cell above_cell in
    first ! $ blocks ! $
    sets ! (bin ! (get ! refl) (lit ! tt) (record { fits = bytes })) refl (tt, record { fits = bytes }) $
    sets_last ! (is ! (bin ! (get ! refl) (get ! refl) tt) (ap (λ (k : ℕ). vptr b k) there)) refl (tt, tt) $
    exec ! 𝓣.C 𝓣.Λ (env code.Mir.locals l) code.Mir.t-4 (at_ret _ (W.post y)) $
    sets ! (of_opd ! (get ! refl)) refl (tt, tt) $
    sets ! (agg ! (and_then ! (get ! refl) (and_then ! (get ! refl) (no_more !)))) refl (tt, (tt, (record { fits = n_fits }, tt))) $
    sets ! (bin ! (get ! refl) (get ! refl) inside) refl (tt, record { fits = m_fits }) $
    sets ! (agg ! (and_then ! (get ! refl) (and_then ! (get ! refl) (no_more !)))) refl (tt, (tt, (record { fits = m_fits }, tt))) $
    sets ! (agg ! (and_then ! (get ! refl) (and_then ! (get ! refl) (no_more !)))) refl (tt, ((tt, (record { fits = n_fits }, tt)), ((tt, (record { fits = m_fits }, tt)), tt))) $
    returns ! (look_at ! 0 refl) $ free_all ! refl $
    suffices ! _ (ends_at 𝓛 f.ended stayed c y pair (front, above) (tt, (tt, tt)) (tt, (tt, tt))) $
    says ! (record { at = sym e; above_at = ap (λ (p : Ptr). end_of p n) (sym e); len = refl; above_len = refl; deed = refl; above_deed = refl }) $
    nothing ! $ nothing ! $ join ! $ nothing ! $ join ! $ nothing ! $ done !)))))
