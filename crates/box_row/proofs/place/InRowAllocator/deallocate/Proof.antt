-- It frees nothing.
use Rattle.box_row.proofs.Lemmas.Names.{List, [], ◌∷◌, refl, w64, proved, ftrue, flft, tables, named, Val, vint, vunit, ‵, raw, ◌⊛◌, ◌$◌, ◌∵◌, !, qed, done, move, keep, split, join, fjoin, feq_i, suffices, enter, of_opd, returns, unit_lit, alloc_all, free_all, look_at, pass_all, sets, RawPtr, RefOf, usize, yes, uint_Tells, uint_vals, owns, rawptr_Tells, rawptr_vals, shr_Tells, shr_vals, plain, types_at, nothing, Goes-dropped, Stays, ends_at, stay_dropped, walk_of}
use Rattle.std_alloc.proofs.RcSteps.{Ptr-Good}
use Rattle.box_row.specs.contracts.place.InRow.{the_row}
use Rattle.box_row.specs.contracts.place.InRowAllocator.deallocate as f
use Rattle.box_row.specs.contracts.place.InRowAllocator.deallocate.Key.{name as #self}
use Rattle.box_row.proofs.place.InRowAllocator.deallocate.Statement.{statement}
use Rattle.box_row.proofs.place.InRowAllocator.deallocate.Code as code

pub deallocate_spec : {M : Type 1} → statement M
deallocate_spec 𝓤 𝓛 𝓜 𝓡 wired =
    let E = f.ended in let c = f.clauses 𝓛 𝓜.mem 𝓡.returns in let self = RefOf (0 ∷ []) tt (plain (λ _. the_row)) (λ _. tt) in let pointer = plain (λ _. RawPtr) in let number = plain (λ _. usize) in
    let stayed : Stays E.signature.params E.kept = (stay_dropped self yes, (stay_dropped pointer yes, (stay_dropped number yes, (stay_dropped number yes, tt)))) in let W = walk_of 𝓛 E stayed c in
    let counts = Goes-dropped 𝓛 1 number yes (λ κs x w. refl) in
    proved 𝓛 E stayed c 𝓜 𝓡 (Goes-dropped 𝓛 1 self yes (λ κs x w. refl), (Goes-dropped 𝓛 1 pointer yes (λ κs x w. refl), (counts, (counts, tt)))) #self code.function (code.unfolded 𝓤 𝓛.H 𝓜 𝓡 wired)
    (λ κs. (shr_vals, (rawptr_vals, (uint_vals w64, (uint_vals w64, tt))))) (λ κs. (shr_Tells (named 0) κs.0 the_row, (rawptr_Tells, (uint_Tells w64, (uint_Tells w64, tt))))) (λ κs qs bounds a τ are.
    let p = a.1.0 in let size = a.1.1.0 in let align = a.1.1.1.0 in
    let y : W.Ghost = ((κs, qs, bounds, a, (shr_vals a.0, (rawptr_vals p, (vint w64 size ∷ [], (vint w64 align ∷ [], tt))))), τ) in
    qed 𝓛 (((‵ (flft κs.0 qs.0) ⊛ ‵ ftrue) ⊛ ‵ (owns (types_at E.signature.params κs) a y.0.4)) ∷ raw ((c κs a).requires τ) ∷ []) ∵
    split ! $ keep ! (0 ∷ []) $
    enter ! _ _ _ _ _ $ alloc_all ! (λ l. pass_all ! refl ((tt, tt), (Ptr-Good p, ((tt, record { fits = are.1.1.0.1 }), ((tt, record { fits = are.1.1.1.0.1 }), tt)))) $
    sets ! (of_opd ! (unit_lit !)) refl (tt, tt) $
    returns ! (look_at ! 0 refl) $ free_all ! refl $
    suffices ! _ (ends_at 𝓛 E stayed c y vunit tt (tt, (tt, (tt, (tt, tt)))) (tt, (tt, (tt, (tt, tt))))) $
    nothing ! $ feq_i ! (List Val) (vunit ∷ []) (vunit ∷ []) refl $
    nothing ! $ nothing ! $ fjoin ! $ nothing ! $ fjoin ! $ nothing ! $ fjoin ! $ nothing ! $ fjoin ! $ join ! $ move ! (2 ∷ []) $ join ! $ done !))
