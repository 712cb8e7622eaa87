-- `into_room` makes a room, at the place that the number says, of what the part owns.
use Rattle.raw_region.proofs.Lemmas.Steps.{◌≡◌, refl, sym, ap, ◌∙◌, [], ◌∷◌, ℕ, ◌+◌, ◌*◌, ◌<◌, ◌^◌, arith, proved, id⊢, ftrue, w64, Val, vptr, vint, tables, fact, ‵, raw, ◌⊛◌, at_ret, ◌$◌, ◌∵◌, !, qed, done, move, split, join, fsplit, fjoin, flt_i, rewrite, suffices, agg, enter, of_opd, lit, bin, stop, fld, no_more, and_then, first, blocks, exec, returns, alloc_all, pass_all, free_all, look_at, get, get_in, sets, sets_last, env, sub, whole, usize, yes, Ptr, block_ptr, in_a_block, plain, nothing, heard, Stays, walk_of, says, stay_dropped, Goes-dropped, ends_at}
use Rattle.raw_region.proofs.Lemmas.Steps.{drop as let_go}
use Rattle.core.specs.declared.option.Option.TheVariants.{None as Nothing}
use mir.Val.{vstruct, vcons, vnil}
use prog.Wp.{WpFn}
use types.ByLocal.{is}
use types.Kit.{prop, regoal}
use denote.Plain.{uint_vals, uint_Tells}
use denote.RawPtr.{room_for}
use base.Fml.{froom}
use mir.Syntax.{ty_int, ty_array}
use denote.Shadow.{pure_i}
use Rattle.core.proofs.alloc.Calls.{Goes-blank}
use Rattle.raw_region.specs.contracts.part.Part.into_room as f
use Rattle.raw_region.proofs.part.Part.into_room.Statement.{statement}
use Rattle.raw_region.proofs.part.Part.into_room.Code as code
use Rattle.raw_region.specs.contracts.part.Part as P
use Rattle.raw_region.specs.contracts.room.Room as R
use Rattle.raw_region.specs.contracts.room.Root as Root
use Rattle.raw_region.proofs.part.Part.TheLaws.{lowers}
use Rattle.raw_region.proofs.room.Root.TheLaws.{lowers as root_lowers}
use Rattle.raw_region.specs.Cutting.{end_of}
use Rattle.raw_region.specs.Frame.{place_of, IsPart}
use Rattle.raw_region.specs.PartRoom.{held_by}
use Rattle.raw_region.proofs.Lemmas.Rooms.{RoomFields, fields_of, begins}

abbrev stayed : Stays f.ended.signature.params f.ended.kept
stayed = (stay_dropped (plain (λ _. P.the_row)) yes, (stay_dropped (plain (λ _. Root.the_row)) yes, (stay_dropped (plain (λ _. usize)) yes, (stay_dropped (plain (λ _. usize)) yes, tt))))

pub into_room_spec : {M : Type 1} → statement M
into_room_spec 𝓤 𝓛 𝓜 𝓡 wired =
    let c = f.clauses 𝓛 𝓜.mem 𝓡.returns in let W = walk_of 𝓛 f.ended stayed c in let 𝓣 = tables 𝓤 𝓛.H 𝓜 𝓡 𝓡.env in
    proved 𝓛 f.ended stayed c 𝓜 𝓡
    (Goes-blank 𝓛 0 (plain (λ _. P.the_row)) yes (λ κs x w. tt), (Goes-dropped 𝓛 0 (plain (λ _. Root.the_row)) yes (λ κs x w. refl), (Goes-dropped 𝓛 0 (plain (λ _. usize)) yes (λ κs x w. refl), (Goes-dropped 𝓛 0 (plain (λ _. usize)) yes (λ κs x w. refl), tt))))
    f.Key.name code.function (code.unfolded 𝓤 𝓛.H 𝓜 𝓡 wired)
    (λ κs. ((λ d. lowers.lowered d ∷ []), ((λ r. root_lowers.lowered r ∷ []), (uint_vals w64, (uint_vals w64, tt))))) (λ κs. (lowers.val_is, (root_lowers.val_is, (uint_Tells w64, (uint_Tells w64, tt))))) (λ κs qs bounds a _ are.
    let d = a.0 in let r = a.1.0 in let index = a.1.1.0 in let size = a.1.1.1.0 in let m = index * size in
    let index_fits = are.1.1.0.1 in let size_fits = are.1.1.1.0.1 in
    let y : W.Ghost = ((κs, qs, bounds, a, (lowers.lowered d ∷ [], (root_lowers.lowered r ∷ [], (uint_vals w64 index, (uint_vals w64 size, tt))))), tt) in
    qed 𝓛 ((‵ ftrue ⊛ ‵ (P.the_row.own_val d (lowers.lowered d ∷ [])) ⊛ ‵ (Root.the_row.own_val r (root_lowers.lowered r ∷ [])) ⊛ ‵ (usize.own_val index (uint_vals w64 index)) ⊛ ‵ (usize.own_val size (uint_vals w64 size)) ⊛ ‵ ftrue)
    ∷ (raw (fact 𝓤 (IsPart (place_of r.at size index) (held_by d))) ⊛ raw (fact 𝓤 (m + size < 2 ^ 60))) ∷ []) ∵
    move ! (1 ∷ []) $ split ! $ heard ! (IsPart (place_of r.at size index) (held_by d)) (λ part. heard ! (m + size < 2 ^ 60) (λ low. split ! $ let_go ! $ split ! $ move ! (1 ∷ []) $ let_go ! $
    fsplit ! $ let_go ! $ fsplit ! $ let_go ! $ fsplit ! $
    -- [the room; the right]
    rewrite ! 0 (λ (n : ℕ). ‵ (room_for (ty_array (ty_int w64) n) d.at)) part.len refl $
    in_a_block ! d.at (λ p. room_for (ty_array (ty_int w64) size) p) (id⊢ 𝓤 _) (λ b end is_end.
    let start = begins r.at m b end (sym part.at ∙ is_end) in let o = start.0 in
    rewrite ! 0 (λ (k : ℕ). ‵ (froom (ty_array (ty_int w64) size) b k)) (start.2) refl $
    let bytes : m * 8 < 2 ^ 64 = omega (arith, low) in let m_fits : m < 2 ^ 64 = omega (arith, low) in let there : m * 8 + o ≡ o + m * 8 = omega arith in
    let at : d.at ≡ block_ptr b (o + m * 8) = part.at ∙ ap (λ (p : Ptr). end_of p m) start.1 in
    let made : R.the_row.Denot = record { at = block_ptr b (o + m * 8); len = size; deed = Nothing } in let cell : Val = vstruct (vcons (vptr b (o + m * 8)) (vcons (vint w64 size) vnil)) in
    fjoin ! $ flt_i ! size (2 ^ 60) (omega (arith, low)) $ fjoin ! $
    pure_i ! (RoomFields.own_val (fields_of made) (cell ∷ [])) (λ vss. (tt, (tt, ((tt, tt), tt)))) ((vptr b (o + m * 8) ∷ [], (vint w64 size ∷ [], tt)), (refl, (refl, ((refl, size_fits), tt)))) $ fjoin ! $
    regoal ! (λ (p : Ptr). prop (WpFn 𝓤 𝓛.H 𝓣.C 𝓣.Λ code.function (lowers.lowered d ∷ root_lowers.lowered (record { at = p }) ∷ vint w64 index ∷ vint w64 size ∷ []) (W.post y))) start.1 refl $
    enter ! _ _ _ _ _ $ alloc_all ! (λ l. pass_all ! refl ((tt, tt), ((tt, (tt, tt)), ((tt, record { fits = index_fits }), ((tt, record { fits = size_fits }), tt)))) $
    first ! $ blocks ! $
    sets ! (bin ! (get ! refl) (get ! refl) (record { fits = m_fits })) refl (tt, record { fits = m_fits }) $
    sets ! (bin ! (get ! refl) (lit ! tt) (record { fits = bytes })) refl (tt, record { fits = bytes }) $
    sets_last ! (is ! (bin ! (get_in ! (fld ! refl (stop !)) (sub ! 0 refl (whole !))) (get ! refl) tt) (ap (λ (k : ℕ). vptr b k) there)) refl (tt, tt) $
    exec ! 𝓣.C 𝓣.Λ (env code.Mir.locals l) code.Mir.t-2 (at_ret _ (W.post y)) $
    sets ! (of_opd ! (get ! refl)) refl (tt, tt) $
    sets ! (agg ! (and_then ! (get ! refl) (and_then ! (get ! refl) (no_more !)))) refl (tt, (tt, (record { fits = size_fits }, tt))) $
    returns ! (look_at ! 0 refl) $ free_all ! refl $
    suffices ! _ (ends_at 𝓛 f.ended stayed c y cell made (tt, (tt, (tt, (tt, tt)))) (tt, (tt, (tt, (tt, tt))))) $
    says ! (ap (λ (p : Ptr). held_by (record { at = p; len = size })) (sym at) ∙ ap (λ (n : ℕ). held_by (record { at = d.at; len = n })) (sym part.len)) $
    nothing ! $ nothing ! $ join ! $ nothing ! $ join ! $ nothing ! $ join ! $ nothing ! $ join ! $ nothing ! $ done !)))))
