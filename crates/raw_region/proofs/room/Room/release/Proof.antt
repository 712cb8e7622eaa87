-- `release` gives the words up, and gives the room back with the right to free it.
use Rattle.raw_region.proofs.Lemmas.Steps.{refl, ap, List, [], ◌∷◌, ◌*◌, ◌<◌, ◌^◌, arith, lit<, proved, id⊢, ftrue, flft, named, w64, Val, vint, vunit, tables, fact, ‵, raw, ◌⊛◌, some, later, at_ret, ◌$◌, ◌∵◌, !, qed, done, move, keep, drop, use0, use1, split, join, group, fsplit, fjoin, feq_i, feq_l, flt_l, pick, await, suffices, sub, whole, enter, of_opd, lit, unit_lit, bin, stop, fld, no_more, and_then, first, blocks, exec, returns, alloc_all, pass_all, free_all, look_at, get, get_in, sets, env, u64, usize, RefOf, yes, ShrRef, shr_vals, shr_Tells, plain, nothing, Stays, walk_of, stay_dropped, Goes-dropped, ends_at}
use mathlib.Core.Path.{◌≡◌, subst, sym}
use denote.Steps.{heard}
use lib.Dec.{T}
use base.Fml.{froom}
use mir.Val.{vptr}
use prog.Wp.{WpFn}
use types.Kit.{prop, regoal, rewrite}
use denote.RawPtr.{Ptr, block_ptr, in_a_block}
use contract.Monad.{fact_i}
use mir.Syntax.{ty_unit}
use mir.Val.{has_ty, WT}
use types.ByLocal.{lands_last}
use denote.Builtin.{unit}
use denote.Plain.{uint_Makes}
use denote.RawPtr.{rawptr_vals, room_for}
use mir.Syntax.{ty_int, ty_array}
use denote.Steps.{only, owned}
use denote.Triple.Call.{calls_at_last}
use denote.Triple.Clauses.{lasts}
use denote.Triple.Spec.{triple_of}
use denote.Triple.Table.{framed}
use Rattle.core.specs.declared.option.Option.TheVariants.{Some as Just}
use Rattle.raw_region.specs.Block.{Deed, may_free, right}
use Rattle.core.proofs.alloc.Calls.{Goes-blank}
use Rattle.core.specs.Allocator.{HasLayout, array_of}
use Rattle.std_heap.specs.contracts.Global as G
use Rattle.std_heap.specs.contracts.GlobalAllocator.deallocate as g
use Rattle.std_heap.proofs.GlobalAllocator.deallocate.Met.{met}
use Rattle.raw_region.specs.contracts.room.Room.release as f
use Rattle.raw_region.proofs.room.Room.release.Statement.{statement}
use Rattle.raw_region.proofs.room.Room.release.Code as code
use Rattle.raw_region.specs.contracts.room.Room as B
use Rattle.raw_region.proofs.room.Room.TheLaws.{lowers}
use Rattle.raw_region.proofs.Lemmas.Heap.{layout_of}

abbrev stayed : Stays f.ended.signature.params f.ended.kept
stayed = (stay_dropped (plain (λ _. B.the_row)) yes, (stay_dropped (RefOf (0 ∷ []) tt (plain (λ _. G.the_row)) (λ _. tt)) yes, tt))

pub release_spec : {M : Type 1} → statement M
release_spec 𝓤 𝓛 𝓜 𝓡 wired =
    let c = f.clauses 𝓛 𝓜.mem 𝓡.returns in let W = walk_of 𝓛 f.ended stayed c in let 𝓣 = tables 𝓤 𝓛.H 𝓜 𝓡 𝓡.env in
    proved 𝓛 f.ended stayed c 𝓜 𝓡 (Goes-blank 𝓛 1 (plain (λ _. B.the_row)) yes (λ κs x w. tt), (Goes-dropped 𝓛 1 (RefOf (0 ∷ []) tt (plain (λ _. G.the_row)) (λ _. tt)) yes (λ κs x w. refl), tt))
    f.Key.name code.function (code.unfolded 𝓤 𝓛.H 𝓜 𝓡 wired)
    (λ κs. ((λ d. lowers.lowered d ∷ []), (shr_vals, tt))) (λ κs. (lowers.val_is, (shr_Tells (named 0) κs.0 G.the_row, tt))) (λ κs qs bounds a _ are.
    let κ = κs.0 in let q = qs.0 in let d = a.0 in let heap = a.1.0 in let n = d.len in let τ = array_of u64 n in
    let y : W.Ghost = ((κs, qs, bounds, a, (lowers.lowered d ∷ [], (shr_vals heap, tt))), tt) in
    qed 𝓛 (((‵ (flft κ q) ⊛ ‵ ftrue) ⊛ ‵ (B.the_row.own_val d (lowers.lowered d ∷ [])) ⊛ ‵ ((ShrRef (named 0) κ G.the_row).own_val heap (shr_vals heap)) ⊛ ‵ ftrue) ∷ raw (fact 𝓤 (d.deed ≡ Just (d.at, d.len))) ∷ []) ∵
    move ! (1 ∷ []) $ heard ! (d.deed ≡ Just (d.at, d.len)) (λ is. split ! $ split ! $ move ! (2 ∷ []) $ split ! $ move ! (1 ∷ []) $ split ! $ keep ! (2 ∷ 0 ∷ 3 ∷ []) $
    fsplit ! $ drop ! $ fsplit ! $ flt_l ! (λ most. fsplit ! $ in_a_block ! d.at (λ p. room_for (ty_array (ty_int w64) n) p) (id⊢ 𝓤 _) (λ b o e.
    rewrite ! 1 (λ (z : Deed). ‵ (right z)) is refl $ rewrite ! 1 (λ (p : Ptr). ‵ (may_free τ p)) e refl $ use1 𝓛 (‵ (froom τ b o)) (𝓛.laws.room-raw (ty_array (ty_int w64) n) b o) $ fjoin ! $
    regoal ! (λ (p : Ptr). prop (WpFn 𝓤 𝓛.H 𝓣.C 𝓣.Λ code.function (lowers.lowered (record d { at = p }) ∷ vptr heap.ref_ptr.0 heap.ref_ptr.1 ∷ []) (W.post y))) e refl $
    -- [the room and the right to free it; the handle; the token]
    let bytes : n * 8 < 2 ^ 64 = omega arith in let fits : n < 2 ^ 64 = omega arith in
    let D = triple_of 𝓛 g.signature (g.spec 𝓛 𝓜.mem 𝓡.returns) in
    let z : D.Ghost = (((κ, tt), (q, tt), tt, (heap, (block_ptr b o, (n * 8, (8, tt)))), (shr_vals heap, (rawptr_vals (block_ptr b o), (vint w64 (n * 8) ∷ [], (vint w64 8 ∷ [], tt))))), τ) in
    enter ! _ _ _ _ _ $ alloc_all ! (λ l. pass_all ! refl ((tt, (tt, (record { fits = fits }, tt))), ((tt, tt), tt)) $
    sets ! (of_opd ! (get_in ! (fld ! refl (stop !)) (sub ! 0 refl (whole !)))) refl (tt, tt) $
    sets ! (of_opd ! (get_in ! (fld ! refl (stop !)) (sub ! 1 refl (whole !)))) refl (tt, record { fits = fits }) $
    first ! $ blocks ! $
    sets ! (of_opd ! (get ! refl)) refl (tt, tt) $
    sets ! (bin ! (get ! refl) (lit ! tt) (record { fits = bytes })) refl (tt, record { fits = bytes }) $
    use0 𝓛 (raw (fact 𝓤 (HasLayout τ (n * 8) 8))) (fact_i 𝓤 (HasLayout τ (n * 8) 8) _ (layout_of n bytes)) $ join ! $
    nothing ! $ owned ! usize _ (uint_Makes 𝓛 w64) 8 _ (refl, lit< tt) $ join ! $ owned ! usize _ (uint_Makes 𝓛 w64) (n * 8) _ (refl, bytes) $ join ! $
    feq_i ! (List Val) (rawptr_vals (block_ptr b o)) _ refl $ join ! $ move ! (2 ∷ 0 ∷ []) $ join ! $
    nothing ! $ move ! (3 ∷ 0 ∷ []) $ join ! $ join ! $ join ! $ use1 𝓛 (raw (D.pre z)) (id⊢ 𝓤 _) $
    calls_at_last ! (framed 𝓤 𝓛.H 𝓜 𝓣) D (met 𝓤 𝓛 𝓜 𝓡 (code.calls-std_heap::GlobalAllocator::deallocate 𝓡.env wired)) z
    (and_then ! (get ! refl) (and_then ! (get ! refl) (and_then ! (get ! refl) (and_then ! (lit ! tt) (no_more !))))) (λ v.
    use1 𝓛 (later (some (λ (r : Unit {0}). ((‵ (flft κ q) ⊛ ‵ ftrue) ⊛ ‵ (unit.own_val r (v ∷ []))) ⊛
    some (λ (ws : Unit {0} × (Unit {0} × (Unit {0} × (Unit {0} × Unit {0})))). ‵ (lasts g.ended z.0.0 z.0.3 ws) ⊛ ‵ ftrue)))) (id⊢ 𝓤 _) $
    await ! tt $ pick ! (λ r. split ! $ split ! $ split ! $ move ! (2 ∷ []) $ feq_l ! (λ is_unit.
    lands_last ! refl (subst (λ (u : Val). T (has_ty ty_unit u) × WT u) (sym (ap only is_unit)) (tt, tt)) $
    exec ! 𝓣.C 𝓣.Λ (env code.Mir.locals l) code.Mir.t-4 (at_ret _ (W.post y)) $
    sets ! (of_opd ! (unit_lit !)) refl (tt, tt) $ returns ! (look_at ! 0 refl) $ free_all ! refl $ keep ! (0 ∷ []) $
    suffices ! _ (ends_at 𝓛 f.ended stayed c y vunit tt (tt, (tt, tt)) (tt, (tt, tt))) $
    feq_i ! (List Val) (vunit ∷ []) (vunit ∷ []) refl $ nothing ! $ nothing ! $ join ! $ nothing ! $ join ! $ nothing ! $ move ! (3 ∷ 0 ∷ []) $ join ! $ group ! 3 $ nothing ! $ move ! (1 ∷ 0 ∷ []) $ done !))))))))
