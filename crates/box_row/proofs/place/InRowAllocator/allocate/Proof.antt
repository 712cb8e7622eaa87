-- It has no block to give.
use Rattle.box_row.proofs.Lemmas.Names.{[], ◌∷◌, refl, w64, proved, ftrue, flft, tables, named, vint, ‵, raw, ◌⊛◌, ◌$◌, ◌∵◌, !, qed, done, move, keep, use0, split, join, fjoin, suffices, agg, and_then, enter, lit, no_more, returns, alloc_all, free_all, get, look_at, pass_all, sets, RefOf, usize, yes, uint_Tells, uint_vals, owns, shr_Tells, shr_vals, plain, types_at, nothing, Goes-dropped, Stays, ends_at, stay_dropped, walk_of}
use mathlib.Core.Bool.{false}
use Rattle.core.proofs.alloc.Calls.{Answer, Answer-err, Answer-typed, answer_val}
use Rattle.core.specs.declared.result.Result.TheVariants.{Err}
use Rattle.box_row.specs.contracts.place.InRow.{the_row}
use Rattle.box_row.specs.contracts.place.InRowAllocator.allocate as f
use Rattle.box_row.specs.contracts.place.InRowAllocator.allocate.Key.{name as #self}
use Rattle.box_row.proofs.place.InRowAllocator.allocate.Statement.{statement}
use Rattle.box_row.proofs.place.InRowAllocator.allocate.Code as code

pub allocate_spec : {M : Type 1} → statement M
allocate_spec 𝓤 𝓛 𝓜 𝓡 wired =
    let E = f.ended in let c = f.clauses 𝓛 𝓜.mem 𝓡.returns in let self = RefOf (0 ∷ []) tt (plain (λ _. the_row)) (λ _. tt) in let number = plain (λ _. usize) in
    let stayed : Stays E.signature.params E.kept = (stay_dropped self yes, (stay_dropped number yes, (stay_dropped number yes, tt))) in let W = walk_of 𝓛 E stayed c in
    let counts = Goes-dropped 𝓛 1 number yes (λ κs x w. refl) in
    proved 𝓛 E stayed c 𝓜 𝓡 (Goes-dropped 𝓛 1 self yes (λ κs x w. refl), (counts, (counts, tt))) #self code.function (code.unfolded 𝓤 𝓛.H 𝓜 𝓡 wired)
    (λ κs. (shr_vals, (uint_vals w64, (uint_vals w64, tt)))) (λ κs. (shr_Tells (named 0) κs.0 the_row, (uint_Tells w64, (uint_Tells w64, tt)))) (λ κs qs bounds a τ are.
    let size = a.1.0 in let align = a.1.1.0 in let refused = answer_val false 0 0 in
    let y : W.Ghost = ((κs, qs, bounds, a, (shr_vals a.0, (vint w64 size ∷ [], (vint w64 align ∷ [], tt)))), τ) in
    qed 𝓛 (((‵ (flft κs.0 qs.0) ⊛ ‵ ftrue) ⊛ ‵ (owns (types_at E.signature.params κs) a y.0.4)) ∷ raw ((c κs a).requires τ) ∷ []) ∵
    split ! $ keep ! (0 ∷ []) $
    enter ! _ _ _ _ _ $ alloc_all ! (λ l. pass_all ! refl ((tt, tt), ((tt, record { fits = are.1.0.1 }), ((tt, record { fits = are.1.1.0.1 }), tt))) $
    sets ! (agg ! (no_more !)) refl (tt, tt) $
    sets ! (agg ! (and_then ! (lit ! tt) (and_then ! (get ! refl) (no_more !)))) refl (Answer-typed false 0 0) $
    returns ! (look_at ! 0 refl) $ free_all ! refl $
    suffices ! _ (ends_at 𝓛 E stayed c y refused (Err (record {})) (tt, (tt, (tt, tt))) (tt, (tt, (tt, tt)))) $
    nothing ! $ use0 𝓛 (‵ (Answer.own_val (Err (record {})) (refused ∷ []))) (Answer-err 𝓛) $
    nothing ! $ nothing ! $ fjoin ! $ nothing ! $ fjoin ! $ nothing ! $ fjoin ! $ join ! $ move ! (2 ∷ []) $ join ! $ done !))
