-- The lease comes out of the struct.
use Rattle.box_row.proofs.Lemmas.Names.{List, [], ◌∷◌, refl, proved, ftrue, flft, tables, inst_fn, a_type, Val, ‵, raw, ◌⊛◌, ◌$◌, ◌∵◌, !, qed, done, move, keep, drop, split, fsplit, fjoin, feq_l, fpick, rewrite, suffices, sub, whole, enter, fld, of_opd, returns, stop, alloc_all, free_all, get, get_in, look_at, pass_all, sets, no, Is, shows, layouts, param, param_laws, RattleType, owns, plain, types_at, nothing, peeks, Stays, ends_at, says, stay_dropped, walk_of}
use mathlib.Core.Path.{subst}
use Rattle.core.proofs.alloc.Calls.{Goes-blank}
use Rattle.core.proofs.slots.Lease.TheLaws as lease-laws
use Rattle.std_heap.specs.contracts.Global as heap
use Rattle.std_heap.specs.contracts.GlobalAllocator.TheImpl.{ghosts}
use Rattle.std_heap.proofs.Global.TheLaws as heap-laws
use Rattle.box_row.proofs.Lemmas.Leases.{Held, Leased, good, held, held_good, leased}
use Rattle.box_row.proofs.right.Right.TheLaws as right-laws
use Rattle.box_row.specs.contracts.right.Right.into_lease as f
use Rattle.box_row.specs.contracts.right.Right.into_lease.Key.{name as #self}
use Rattle.box_row.proofs.right.Right.into_lease.Statement.{statement}
use Rattle.box_row.proofs.right.Right.into_lease.Code as code

pub into_lease_spec : {M : Type 1} → statement M
into_lease_spec 𝓤 𝓛 𝓜 𝓡 wired X L =
    let R : RattleType = param 0 X in let Lease : RattleType = Leased X L in let Right : RattleType = Held X L in let RL = param_laws 0 X L in
    let 𝓣 = tables 𝓤 𝓛.H 𝓜 𝓡 𝓡.env in let inst = layouts (a_type ∷ []) (X, tt) in let fn = inst_fn inst code.function in
    let E = f.ended X in let c = f.clauses X 𝓛 𝓜.mem 𝓡.returns in
    let stayed : Stays E.signature.params E.kept = (stay_dropped (plain (λ _. Right)) no, tt) in let W = walk_of 𝓛 E stayed c in
    let told = (lease-laws.lowers R heap.the_row ghosts RL heap-laws.the_row_laws).val_is in
    proved 𝓛 E stayed c 𝓜 𝓡 (Goes-blank 𝓛 1 (plain (λ _. Right)) no (λ κs x w. tt), tt) (#self inst) fn (code.unfolded 𝓤 𝓛.H 𝓜 𝓡 wired (X, tt))
    (λ κs. ((λ d. held X L d ∷ []), tt)) (λ κs. ((right-laws.lowers R RL).val_is, tt)) (λ κs qs bounds a _ are.
    let d : Right.Denot = a.0 in let x : Lease.Denot = d.lease in let u : Val = held X L d in let v : Val = leased X L x in
    let y : W.Ghost = ((κs, qs, bounds, a, (u ∷ [], tt)), tt) in
    qed 𝓛 (((‵ (flft κs.0 qs.0) ⊛ ‵ ftrue) ⊛ ‵ (owns (types_at E.signature.params κs) a y.0.4)) ∷ raw ((c κs a).requires tt) ∷ []) ∵
    split ! $ keep ! (1 ∷ 0 ∷ []) $ fsplit ! $ fsplit ! $ fpick ! (λ vss. fsplit ! $ drop ! $ fsplit ! $
    peeks ! Lease (Is Lease) (shows 𝓛 Lease) x vss.0 (λ is. let spelled = told x vss.0 is in let typed = good X L 𝓛 x (subst (Is Lease x) spelled is) in
    rewrite ! 0 (λ (ws : List Val). ‵ (Lease.own_val x ws)) spelled refl $ keep ! (0 ∷ 4 ∷ []) $
    enter ! _ _ _ _ _ $ alloc_all ! (λ l. pass_all ! refl (held_good X L 𝓛 d are.0, tt) $
    sets ! (of_opd ! (get_in ! (fld ! refl (stop !)) (sub ! 0 refl (whole !)))) refl typed $
    sets ! (of_opd ! (get ! refl)) refl typed $
    returns ! (look_at ! 0 refl) $ free_all ! refl $ keep ! (0 ∷ 1 ∷ []) $ nothing ! $ nothing ! $ fjoin ! $ move ! (2 ∷ []) $
    suffices ! _ (ends_at 𝓛 E stayed c y v x ((tt, tt), tt) (tt, tt)) $ says ! refl $ done !))))
