-- `allocate` asks for the room.
use Rattle.raw_region.proofs.Lemmas.Steps.{refl, [], ◌∷◌, ◌*◌, ◌≤◌, ◌<◌, ◌^◌, arith, lit<, proved, id⊢, ftrue, flft, named, w64, Val, vptr, vint, tables, fact, ‵, raw, ◌⊛◌, some, later, at_ret, ◌$◌, ◌∵◌, !, qed, done, move, keep, drop, use0, use1, split, join, fjoin, flt_i, pick, await, suffices, agg, whole, enter, of_opd, lit, bin, stop, fld, no_more, and_then, first, exec, returns, alloc_all, pass_all, free_all, look_at, get, get_in, sets, sets_last, env, u64, usize, RefOf, yes, block_ptr, ShrRef, shr_vals, shr_Tells, plain, nothing, heard, Stays, walk_of, says, stay_dropped, Goes-dropped, ends_at}
use mathlib.Core.Bool.{true, false}
use contract.Monad.{fact_i}
use contract.Running.{tables_of}
use mir.Syntax.{Body}
use mir.Val.{vstruct, vcons, vnil}
use prog.Wp.{Wp, at_return, after_seq}
use types.Kit.{any_q}
use types.Match.{live, vrt, in_variant}
use types.Run.{switches_on}
use types.ByLocal.{get_tag, lands_as}
use denote.Laws.{Is}
use denote.Plain.{uint_vals, uint_Tells, uint_Makes}
use denote.Shadow.{pure_i}
use denote.Steps.{owned}
use denote.Struct.Declared as Declared
use denote.Struct.Struct.{Struct, Struct-Makes}
use denote.Triple.Call.{calls_at}
use denote.Triple.Clauses.{lasts}
use denote.Triple.Spec.{triple_of}
use denote.Triple.Table.{framed}
use Rattle.raw_region.specs.Block.{may_free}
use Rattle.core.specs.declared.option.Option.TheVariants.{Some as Just}
use Rattle.core.specs.Allocator.{HasLayout, array_of, block_if_ok}
use Rattle.core.specs.contracts.alloc.AllocError as AE
use Rattle.core.specs.contracts.result.Result as RS
use Rattle.core.specs.declared.result.Result.TheVariants.{Ok, Err}
use Rattle.core.proofs.alloc.Calls.{Answer, Answer-typed}
use Rattle.core.proofs.alloc.Shapes.{head, arm_body}
use Rattle.std_alloc.proofs.ResultValues.{ok_of, err_of}
use Rattle.std_heap.specs.contracts.Global as G
use Rattle.std_heap.specs.contracts.GlobalAllocator.allocate as g
use Rattle.std_heap.proofs.GlobalAllocator.allocate.Met.{met}
use Rattle.raw_region.specs.contracts.room.Room.allocate as f
use Rattle.raw_region.proofs.room.Room.allocate.Statement.{statement}
use Rattle.raw_region.proofs.room.Room.allocate.Code as code
use Rattle.raw_region.specs.contracts.room.Room as B
use Rattle.raw_region.proofs.Lemmas.Rooms.{RoomFields, fields_of}
use Rattle.raw_region.proofs.Lemmas.Heap.{layout_of, told}

abbrev stayed : Stays f.ended.signature.params f.ended.kept
stayed = (stay_dropped (RefOf (0 ∷ []) tt (plain (λ _. G.the_row)) (λ _. tt)) yes, (stay_dropped (plain (λ _. usize)) yes, tt))

-- the two arms of the `match`
abbrev both : Body
both = head code.Mir.t-3

abbrev made : Body
made = arm_body 0 both

pub allocate_spec : {M : Type 1} → statement M
unfolding tables_of
allocate_spec 𝓤 𝓛 𝓜 𝓡 wired =
    let c = f.clauses 𝓛 𝓜.mem 𝓡.returns in let W = walk_of 𝓛 f.ended stayed c in let 𝓣 = tables 𝓤 𝓛.H 𝓜 𝓡 𝓡.env in
    proved 𝓛 f.ended stayed c 𝓜 𝓡 (Goes-dropped 𝓛 1 (RefOf (0 ∷ []) tt (plain (λ _. G.the_row)) (λ _. tt)) yes (λ κs x w. refl), (Goes-dropped 𝓛 1 (plain (λ _. usize)) yes (λ κs x w. refl), tt))
    f.Key.name code.function (code.unfolded 𝓤 𝓛.H 𝓜 𝓡 wired)
    (λ κs. (shr_vals, (uint_vals w64, tt))) (λ κs. (shr_Tells (named 0) κs.0 G.the_row, (uint_Tells w64, tt))) (λ κs qs bounds a _ are.
    let κ = κs.0 in let q = qs.0 in let heap = a.0 in let n = a.1.0 in let τ = array_of u64 n in let fits = are.1.0.1 in
    let y : W.Ghost = ((κs, qs, bounds, a, (shr_vals heap, (uint_vals w64 n, tt))), tt) in
    qed 𝓛 (((‵ (flft κ q) ⊛ ‵ ftrue) ⊛ ‵ ((ShrRef (named 0) κ G.the_row).own_val heap (shr_vals heap)) ⊛ ‵ (usize.own_val n (uint_vals w64 n)) ⊛ ‵ ftrue) ∷ (raw (fact 𝓤 (1 ≤ n)) ⊛ raw (fact 𝓤 (n < 2 ^ 60))) ∷ []) ∵
    move ! (1 ∷ []) $ split ! $ heard ! (1 ≤ n) (λ nonempty. heard ! (n < 2 ^ 60) (λ most. let small : n * 8 < 2 ^ 63 = omega arith in split ! $ split ! $ move ! (2 ∷ []) $ split ! $ keep ! (0 ∷ 2 ∷ []) $
    -- [the handle; the token]
    let bytes : n * 8 < 2 ^ 64 = omega arith in
    let D = triple_of 𝓛 g.signature (g.spec 𝓛 𝓜.mem 𝓡.returns) in
    let z : D.Ghost = (((κ, tt), (q, tt), tt, (heap, (n * 8, (8, tt))), (shr_vals heap, (vint w64 (n * 8) ∷ [], (vint w64 8 ∷ [], tt)))), τ) in
    enter ! _ _ _ _ _ $ alloc_all ! (λ l. pass_all ! refl ((tt, tt), ((tt, record { fits = fits }), tt)) $
    let E = env code.Mir.locals l in
    let K = after_seq 𝓤 𝓛.H (Wp 𝓤 𝓛.H 𝓣.C 𝓣.Λ E code.Mir.t-4 (at_return 𝓤 𝓛.H E (W.post y))) (at_return 𝓤 𝓛.H E (W.post y)) in
    sets ! (bin ! (get ! refl) (lit ! tt) (record { fits = bytes })) refl (tt, record { fits = bytes }) $
    use0 𝓛 (raw (fact 𝓤 (HasLayout τ (n * 8) 8))) (fact_i 𝓤 (HasLayout τ (n * 8) 8) _ (layout_of n bytes)) $
    nothing ! $ owned ! usize _ (uint_Makes 𝓛 w64) 8 _ (refl, lit< tt) $ join ! $ owned ! usize _ (uint_Makes 𝓛 w64) (n * 8) _ (refl, bytes) $ join ! $
    move ! (2 ∷ 0 ∷ []) $ join ! $ nothing ! $ move ! (3 ∷ 0 ∷ []) $ join ! $ join ! $ join ! $ use1 𝓛 (raw (D.pre z)) (id⊢ 𝓤 _) $
    calls_at ! (framed 𝓤 𝓛.H 𝓜 𝓣) D (met 𝓤 𝓛 𝓜 𝓡 (code.calls-std_heap::GlobalAllocator::allocate 𝓡.env wired)) z
    (and_then ! (get ! refl) (and_then ! (get ! refl) (and_then ! (lit ! tt) (no_more !)))) (λ v.
    use1 𝓛 (later (some (λ (r : Answer.Denot). ((‵ (flft κ q) ⊛ ‵ ftrue) ⊛ ‵ (Answer.own_val r (v ∷ []))) ⊛
    some (λ (ws : Unit {0} × (Unit {0} × (Unit {0} × Unit {0}))). ‵ (lasts g.ended z.0.0 z.0.3 ws) ⊛ ‵ (block_if_ok may_free τ r))))) (id⊢ 𝓤 _) $
    await ! tt $ pick ! (λ r. split ! $ split ! $ split ! $ move ! (3 ∷ []) $ pick ! (λ ws. split ! $ drop ! $ move ! (3 ∷ 0 ∷ []) $
    told ! τ v r
    (λ b o e.
    let d : B.the_row.Denot = record { at = block_ptr b o; len = n; deed = Just (block_ptr b o, n) } in
    let cell : Val = vstruct (vcons (vptr b o) (vcons (vint w64 n) vnil)) in let some_block : Val = live 0 (vcons cell vnil) in
    lands_as ! e refl (Answer-typed true b o) $ first ! $ switches_on ! (get_tag ! (vrt ! refl (fld ! refl (stop !))) (whole !)) $ exec ! 𝓣.C 𝓣.Λ E made (any_q K) $
    sets ! (of_opd ! (get_in ! (vrt ! refl (fld ! refl (stop !))) (in_variant ! 0 0 refl refl (whole !)))) refl (tt, tt) $
    sets ! (of_opd ! (get ! refl)) refl (tt, tt) $
    sets ! (agg ! (and_then ! (get ! refl) (and_then ! (get ! refl) (no_more !)))) refl (tt, (tt, (record { fits = fits }, tt))) $
    sets_last ! (agg ! (and_then ! (lit ! tt) (and_then ! (get ! refl) (no_more !)))) refl (tt, (record { fits = lit< tt }, ((tt, (record { fits = fits }, tt)), tt))) $
    exec ! 𝓣.C 𝓣.Λ E code.Mir.t-4 (at_ret E (W.post y)) $
    sets ! (of_opd ! (get ! refl)) refl (tt, (record { fits = lit< tt }, ((tt, (record { fits = fits }, tt)), tt))) $
    returns ! (look_at ! 0 refl) $ free_all ! refl $ keep ! (0 ∷ 1 ∷ 2 ∷ []) $
    fjoin ! $ flt_i ! n (2 ^ 60) most $ fjoin ! $
    pure_i ! (RoomFields.own_val (fields_of d) (cell ∷ [])) (λ vss. (tt, (tt, ((tt, tt), tt)))) ((vptr b o ∷ [], (vint w64 n ∷ [], tt)), (refl, (refl, ((refl, fits), tt)))) $ fjoin ! $
    use1 𝓛 (‵ ((RS.the_row B.the_row AE.the_row).own_val (Ok d) (some_block ∷ []))) (ok_of 𝓛 B.the_row AE.the_row d cell) $
    suffices ! _ (ends_at 𝓛 f.ended stayed c y some_block (Ok d) (tt, (tt, tt)) (tt, (tt, tt))) $ says ! (refl, refl) $
    nothing ! $ nothing ! $ join ! $ nothing ! $ join ! $ nothing ! $ move ! (3 ∷ 0 ∷ []) $ join ! $ done !)
    (λ e.
    let no_block : Val = live 1 (vcons (vstruct vnil) vnil) in let Refusal = Struct (Declared.shape AE.the_type) in
    lands_as ! e refl (Answer-typed false 0 0) $ first ! $ switches_on ! (get_tag ! (vrt ! refl (fld ! refl (stop !))) (whole !)) $ exec ! 𝓣.C 𝓣.Λ E (arm_body 1 both) (any_q K) $
    sets ! (of_opd ! (get_in ! (vrt ! refl (fld ! refl (stop !))) (in_variant ! 1 0 refl refl (whole !)))) refl (tt, tt) $
    sets_last ! (agg ! (and_then ! (lit ! tt) (and_then ! (get ! refl) (no_more !)))) refl (tt, (record { fits = lit< tt }, (tt, tt))) $
    exec ! 𝓣.C 𝓣.Λ E code.Mir.t-4 (at_ret E (W.post y)) $
    sets ! (of_opd ! (get ! refl)) refl (tt, (record { fits = lit< tt }, (tt, tt))) $
    returns ! (look_at ! 0 refl) $ free_all ! refl $ keep ! (0 ∷ []) $
    owned ! Refusal (Is Refusal) (Struct-Makes 𝓛 (Declared.shape AE.the_type) tt) tt (vstruct vnil ∷ []) (tt, (refl, tt)) $
    use1 𝓛 (‵ ((RS.the_row B.the_row AE.the_row).own_val (Err (record {})) (no_block ∷ []))) (err_of 𝓛 B.the_row AE.the_row (record {}) (vstruct vnil)) $
    suffices ! _ (ends_at 𝓛 f.ended stayed c y no_block (Err (record {})) (tt, (tt, tt)) (tt, (tt, tt))) $ says ! tt $
    nothing ! $ nothing ! $ join ! $ nothing ! $ join ! $ nothing ! $ move ! (3 ∷ 0 ∷ []) $ join ! $ done !))))))))
