-- `foresee` makes a value of no bytes, with the list that its caller picked.
use Rattle.std.proofs.Common.{◌≡◌, [], ◌∷◌, refl}
use Rattle.std.proofs.raw_atomic.Walks.{proved, leaves}
use base.Fml.{Fml}
use base.Logic.{SProp, emp}
use contract.Monad.{fact, fact_i}
use contract.Running.{tables}
use denote.Param.{bounded, param}
use denote.RattleType.{RattleType, owns}
use denote.Shadow.{makes_shadow}
use denote.Signature.{types_at, type_at}
use denote.Steps.{nothing}
use denote.Triple.Entry.{alive}
use denote.Triple.Walked.{walk_of}
use mir.MapTy.{inst_fn}
use mir.Syntax.{a_type, dcons, dnil}
use mir.Val.{Val, vstruct, vcons, vnil}
use types.ByLocal.{alloc_all, pass_all, free_all, look_at, get, sets}
use types.Kit.{‵, raw, ◌⊛◌, ◌$◌, ◌∵◌, !, qed, by, keep, split, use0}
use types.Part.{agg}
use types.Run.{no_more, and_then, returns, enter}
use Rattle.claim_board.specs.contracts.rule.foreseen.Foreseen as Foreseen
use Rattle.claim_board.specs.contracts.rule.foreseen.foresee as f
use Rattle.claim_board.proofs.rule.foreseen.foresee.Statement.{statement}
use Rattle.claim_board.proofs.rule.foreseen.foresee.Code as code

pub foresee_spec : {M : Type 1} → statement M
foresee_spec 𝓤 𝓛 𝓜 𝓡 wired X E LX LE g d met =
    let 𝓣 = tables 𝓤 𝓛.H 𝓜 𝓡 𝓡.env in let T = f.ended X E g d in let c = f.clauses X E g d 𝓛 𝓜.mem 𝓡.returns in
    let inst = bounded (a_type ∷ a_type ∷ []) (X, (E, tt)) (dcons d dnil) in let fn = inst_fn inst code.function in let R : RattleType = Foreseen.the_row (param 0 X) in
    proved 𝓛 T tt c 𝓜 𝓡 tt (f.Key.name inst) fn (code.unfolded 𝓤 𝓛.H 𝓜 𝓡 wired (X, (E, tt)) d) (λ κs. tt) (λ κs. tt) (λ κs qs bounds a gh are.
    let v : Val = vstruct (vcons (vstruct vnil) vnil) in let r : R.Denot = record { marker = record {}; items = g.items } in
    let y : (walk_of 𝓛 T tt c).Ghost = ((κs, qs, bounds, a, tt), gh) in let Post : Val → SProp 𝓤 = (walk_of 𝓛 T tt c).post y in
    let Owned : Fml = (type_at T.signature.result κs).own_val r (v ∷ []) in let Told : Type 0 = r.items ≡ g.items in
    qed 𝓛 ((raw (alive 𝓛 T.signature κs qs) ⊛ ‵ (owns (types_at T.signature.params κs) a tt)) ∷ raw ((c κs a).requires gh) ∷ []) ∵ split ! $ keep ! (0 ∷ []) $
    use0 𝓛 (‵ Owned) (makes_shadow 𝓛 Owned ((λ vss. (tt, ((λ uss. (tt, tt)), tt))), tt) (((vstruct vnil ∷ [], tt), (refl, ((tt, (refl, tt)), tt))), tt)) $
    enter ! 𝓣.C 𝓣.Λ fn [] Post $ alloc_all ! (λ l. pass_all ! refl tt $
    sets ! (agg ! (no_more !)) refl (tt, tt) $ sets ! (agg ! (and_then ! (get ! refl) (no_more !))) refl (tt, (tt, tt)) $
    use0 𝓛 (raw (fact 𝓤 Told)) (fact_i 𝓤 Told (emp 𝓤) refl) $ nothing ! $
    returns ! (look_at ! 0 refl) $ free_all ! refl $ keep ! (3 ∷ 0 ∷ 2 ∷ 1 ∷ []) $ by ! (leaves 𝓛 T tt c y v r tt tt)))
