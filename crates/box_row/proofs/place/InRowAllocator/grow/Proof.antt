-- It makes no block of another size, and hands the old one back.
use Rattle.box_row.proofs.Lemmas.Names.{[], ◌∷◌, ◌⊑◌, refl, w64, proved, fact, ftrue, flft, inst_fn, a_type, named, vint, Item, ‵, raw, ◌⊛◌, ◌$◌, ◌∵◌, !, qed, done, move, keep, use0, split, join, fjoin, suffices, agg, and_then, enter, lit, no_more, returns, alloc_all, free_all, get, look_at, pass_all, sets, layouts, param, RawPtr, RefOf, usize, yes, uint_Tells, uint_vals, owns, rawptr_Tells, rawptr_vals, shr_Tells, shr_vals, plain, types_at, heard, nothing, Goes-dropped, Stays, ends_at, stay_dropped, walk_of}
use mathlib.Core.Bool.{false}
use Rattle.core.specs.Allocator.{block_with_items}
use Rattle.core.proofs.alloc.Calls.{Answer, Answer-err, Answer-typed, answer_val}
use Rattle.core.proofs.alloc.Resizes.{Grows}
use Rattle.core.specs.declared.result.Result.TheVariants.{Err}
use Rattle.std_alloc.proofs.RcSteps.{Ptr-Good}
use Rattle.box_row.specs.Places.{is_at}
use Rattle.box_row.specs.contracts.place.InRow.{the_row}
use Rattle.box_row.specs.contracts.place.InRowAllocator.grow as f
use Rattle.box_row.specs.contracts.place.InRowAllocator.grow.Key.{name as #self}
use Rattle.box_row.proofs.place.InRowAllocator.grow.Statement.{statement}
use Rattle.box_row.proofs.place.InRowAllocator.grow.Code as code

pub grow_spec : {M : Type 1} → statement M
grow_spec 𝓤 𝓛 𝓜 𝓡 wired X _ =
    let inst = layouts (a_type ∷ []) (X, tt) in
    let E = f.ended X in let c = f.clauses X 𝓛 𝓜.mem 𝓡.returns in let self = RefOf (0 ∷ []) tt (plain (λ _. the_row)) (λ _. tt) in let pointer = plain (λ _. RawPtr) in let number = plain (λ _. usize) in
    let stayed : Stays E.signature.params E.kept = (stay_dropped self yes, (stay_dropped pointer yes, (stay_dropped number yes, (stay_dropped number yes, (stay_dropped number yes, tt))))) in let W = walk_of 𝓛 E stayed c in
    let counts = Goes-dropped 𝓛 2 number yes (λ κs x w. refl) in
    proved 𝓛 E stayed c 𝓜 𝓡 (Goes-dropped 𝓛 2 self yes (λ κs x w. refl), (Goes-dropped 𝓛 2 pointer yes (λ κs x w. refl), (counts, (counts, (counts, tt))))) (#self inst) (inst_fn inst code.function) (code.unfolded 𝓤 𝓛.H 𝓜 𝓡 wired (X, tt))
    (λ κs. (shr_vals, (rawptr_vals, (uint_vals w64, (uint_vals w64, (uint_vals w64, tt)))))) (λ κs. (shr_Tells (named 0) κs.0 the_row, (rawptr_Tells, (uint_Tells w64, (uint_Tells w64, (uint_Tells w64, tt)))))) (λ κs qs bounds a xs are.
    let p = a.1.0 in let len = a.1.1.0 in let old = a.1.1.1.0 in let new = a.1.1.1.1.0 in let refused = answer_val false 0 0 in
    let inX = κs.1.0 ⊑ X.lives in let sizes = Grows X len old new in
    let block : Item 𝓤 = ‵ (block_with_items (λ τ q. is_at a.0.now.row a.0.now.index τ q) (param 0 X) p len old xs) in
    let y : W.Ghost = ((κs, qs, bounds, a, (shr_vals a.0, (rawptr_vals p, (vint w64 len ∷ [], (vint w64 old ∷ [], (vint w64 new ∷ [], tt)))))), xs) in
    qed 𝓛 (((‵ (flft κs.0 qs.0) ⊛ ‵ (flft κs.1.0 qs.1.0) ⊛ ‵ ftrue) ⊛ ‵ (owns (types_at E.signature.params κs) a y.0.4)) ∷ (raw (fact 𝓤 inX) ⊛ raw (fact 𝓤 sizes) ⊛ block) ∷ []) ∵
    move ! (1 ∷ []) $ split ! $ heard ! inX (λ _. split ! $ heard ! sizes (λ _. move ! (1 ∷ []) $ split ! $ keep ! (0 ∷ 2 ∷ []) $
    enter ! _ _ _ _ _ $ alloc_all ! (λ l. pass_all ! refl ((tt, tt), (Ptr-Good p, ((tt, record { fits = are.1.1.0.1 }), ((tt, record { fits = are.1.1.1.0.1 }), ((tt, record { fits = are.1.1.1.1.0.1 }), tt))))) $
    sets ! (agg ! (no_more !)) refl (tt, tt) $
    sets ! (agg ! (and_then ! (lit ! tt) (and_then ! (get ! refl) (no_more !)))) refl (Answer-typed false 0 0) $
    returns ! (look_at ! 0 refl) $ free_all ! refl $
    suffices ! _ (ends_at 𝓛 E stayed c y refused (Err (record {})) (tt, (tt, (tt, (tt, (tt, tt))))) (tt, (tt, (tt, (tt, (tt, tt)))))) $
    use0 𝓛 (‵ (Answer.own_val (Err (record {})) (refused ∷ []))) (Answer-err 𝓛) $
    nothing ! $ nothing ! $ fjoin ! $ nothing ! $ fjoin ! $ nothing ! $ fjoin ! $ nothing ! $ fjoin ! $ nothing ! $ fjoin ! $ join ! $ move ! (1 ∷ 0 ∷ []) $ join ! $ done !))))
