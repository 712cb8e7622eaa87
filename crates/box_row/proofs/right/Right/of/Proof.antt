-- The lease goes into the struct.
use Rattle.box_row.proofs.Lemmas.Names.{List, [], ◌∷◌, refl, proved, ftrue, fsep, flft, tables, inst_fn, a_type, Val, vcons, vnil, vstruct, ‵, raw, ◌⊛◌, ◌$◌, ◌∵◌, !, qed, done, move, keep, split, fsplit, fjoin, feq_i, fpack, suffices, agg, and_then, enter, no_more, of_opd, returns, alloc_all, free_all, get, look_at, pass_all, sets, no, layouts, param, param_laws, RattleType, owns, plain, types_at, nothing, Goes-dropped, Stays, ends_at, says, stay_dropped, walk_of}
use denote.RattleType.{Valss}
use denote.Struct.Owning.{shape}
use denote.Struct.Struct.{as_fields, within}
use denote.Param.{layout}
use Rattle.core.proofs.slots.Lease.TheLaws as lease-laws
use Rattle.std_heap.specs.contracts.Global as heap
use Rattle.std_heap.specs.contracts.GlobalAllocator.TheImpl.{ghosts}
use Rattle.std_heap.proofs.Global.TheLaws as heap-laws
use Rattle.box_row.proofs.Lemmas.Leases.{Held, Leased, good, held, leased}
use Rattle.box_row.specs.contracts.right.Right as right
use Rattle.box_row.specs.contracts.right.Right.of as f
use Rattle.box_row.specs.contracts.right.Right.of.Key.{name as #self}
use Rattle.box_row.proofs.right.Right.of.Statement.{statement}
use Rattle.box_row.proofs.right.Right.of.Code as code

pub of_spec : {M : Type 1} → statement M
of_spec 𝓤 𝓛 𝓜 𝓡 wired X L =
    let R : RattleType = param 0 X in let Lease : RattleType = Leased X L in let Right : RattleType = Held X L in
    let 𝓣 = tables 𝓤 𝓛.H 𝓜 𝓡 𝓡.env in let inst = layouts (a_type ∷ []) (X, tt) in let fn = inst_fn inst code.function in
    let E = f.ended X in let c = f.clauses X 𝓛 𝓜.mem 𝓡.returns in
    let stayed : Stays E.signature.params E.kept = (stay_dropped (plain (λ _. Lease)) no, tt) in let W = walk_of 𝓛 E stayed c in
    let told = (lease-laws.lowers R heap.the_row ghosts (param_laws 0 X L) heap-laws.the_row_laws).val_is in
    proved 𝓛 E stayed c 𝓜 𝓡 (Goes-dropped 𝓛 1 (plain (λ _. Lease)) no (λ κs x w. refl), tt) (#self inst) fn (code.unfolded 𝓤 𝓛.H 𝓜 𝓡 wired (X, tt))
    (λ κs. ((λ d. leased X L d ∷ []), tt)) (λ κs. (told, tt)) (λ κs qs bounds a _ are.
    let d : Lease.Denot = a.0 in let v : Val = leased X L d in let new : Right.Denot = record { lease = d } in let u : Val = held X L new in let typed = good X L 𝓛 d are.0 in
    let y : W.Ghost = ((κs, qs, bounds, a, (v ∷ [], tt)), tt) in
    qed 𝓛 (((‵ (flft κs.0 qs.0) ⊛ ‵ ftrue) ⊛ ‵ (owns (types_at E.signature.params κs) a y.0.4)) ∷ raw ((c κs a).requires tt) ∷ []) ∵
    split ! $ keep ! (1 ∷ 0 ∷ []) $ feq_i ! (List Val) (u ∷ []) (u ∷ []) refl $ fjoin ! $
    fpack ! (Valss (Lease ∷ [])) (within (shape (right.the_type R)) (d, tt) (u ∷ [])) (v ∷ [], tt) $ nothing ! $ move ! (1 ∷ 0 ∷ []) $ fjoin ! $
    enter ! _ _ _ _ _ $ alloc_all ! (λ l. pass_all ! refl (typed, tt) $
    sets ! (of_opd ! (get ! refl)) refl typed $
    sets ! (agg ! (and_then ! (get ! refl) (no_more !))) refl (as_fields (layout Lease ∷ []) (v ∷ []) (typed, tt)) $
    returns ! (look_at ! 0 refl) $ free_all ! refl $ keep ! (0 ∷ 1 ∷ []) $ nothing ! $ nothing ! $ fjoin ! $ move ! (2 ∷ []) $
    suffices ! _ (ends_at 𝓛 E stayed c y u new (tt, tt) (tt, tt)) $ says ! refl $ done !))
