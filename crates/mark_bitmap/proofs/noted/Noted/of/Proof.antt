-- `of` makes a value of no bytes, whose ghost field is what the reference shows.
use Rattle.std.proofs.Common.{[], ◌∷◌, refl}
use Rattle.std.proofs.raw_atomic.Walks.{proved}
use contract.Running.{tables}
use mir.Syntax.{named}
use mir.Val.{vnil, vstruct}
use types.Kit.{‵, raw, ◌⊛◌, ◌$◌, ◌∵◌, !, qed, done, keep, move, split, join, fjoin, use0, suffices}
use types.Logic.{Logic, sem}
use types.Part.{agg}
use types.Run.{enter, no_more, returns}
use types.ByLocal.{alloc_all, pass_all, free_all, look_at, sets}
use base.Logic.{ent, emp}
use seplogic.Ra.Ura.{Ura}
use denote.Builtin.{RefOf}
use denote.Exit.{yes}
use denote.RattleType.{RattleType, owns}
use denote.Ref.{shr_Tells, shr_vals}
use denote.Shadow.{pure_i}
use denote.Signature.{plain, types_at, named_lft}
use denote.Steps.{nothing}
use denote.Struct.Owning.{shape}
use denote.Struct.Struct.{Struct}
use denote.Triple.Entry.{alive}
use denote.Triple.Walked.{Goes-dropped, Stays, ends_at, says, stay_dropped, walk_of}
use Rattle.mark_bitmap.specs.contracts.opaque_objects.OpaqueObjects as objects
use Rattle.mark_bitmap.specs.contracts.noted.Noted as noted
use Rattle.mark_bitmap.specs.contracts.noted.Noted.of as f
use Rattle.mark_bitmap.proofs.noted.Noted.of.Statement.{statement}
use Rattle.mark_bitmap.proofs.noted.Noted.of.Code as code

abbrev Bytes : RattleType
Bytes = Struct (shape noted.the_type)

none : {M : Type 1} {𝓤 : Ura M} (𝓛 : Logic 𝓤) → ent 𝓤 (emp 𝓤) (sem 𝓛 (Bytes.own_val tt (vstruct vnil ∷ [])))
none 𝓛 = qed 𝓛 [] ∵ pure_i ! (Bytes.own_val tt (vstruct vnil ∷ [])) (λ vss. (tt, tt)) (tt, (refl, tt)) $ done !

pub of_spec : {M : Type 1} → statement M
of_spec 𝓤 𝓛 𝓜 𝓡 wired =
    let 𝓣 = tables 𝓤 𝓛.H 𝓜 𝓡 𝓡.env in let E = f.ended in let c = f.clauses 𝓛 𝓜.mem 𝓡.returns in
    let lent = RefOf (0 ∷ []) tt (plain (λ κs. objects.the_row (named_lft 2 1 tt κs))) (λ _. tt) in
    let stayed : Stays E.signature.params E.kept = (stay_dropped lent yes, tt) in let W = walk_of 𝓛 E stayed c in
    proved 𝓛 E stayed c 𝓜 𝓡 (Goes-dropped 𝓛 2 lent yes (λ κs x w. refl), tt) f.Key.name code.function (code.unfolded 𝓤 𝓛.H 𝓜 𝓡 wired)
    (λ κs. (shr_vals, tt)) (λ κs. (shr_Tells (named 0) κs.0 (objects.the_row (named_lft 2 1 tt κs)), tt)) (λ κs qs bounds a _ are.
    let y : W.Ghost = ((κs, qs, bounds, a, (shr_vals a.0, tt)), tt) in
    qed 𝓛 ((raw (alive 𝓛 E.signature κs qs) ⊛ ‵ (owns (types_at E.signature.params κs) a y.0.4)) ∷ raw ((c κs a).requires tt) ∷ []) ∵
    split ! $ keep ! (0 ∷ []) $ enter ! _ _ _ _ _ $ alloc_all ! (λ l. pass_all ! refl ((tt, tt), tt) $
    sets ! (agg ! (no_more !)) refl (tt, tt) $ returns ! (look_at ! 0 refl) $ free_all ! refl $
    nothing ! $ use0 𝓛 (‵ (Bytes.own_val tt (vstruct vnil ∷ []))) (none 𝓛) $ fjoin ! $
    suffices ! _ (ends_at 𝓛 E stayed c y (vstruct vnil) (record { image = a.0.now }) (tt, tt) (tt, tt)) $ says ! refl $
    nothing ! $ nothing ! $ fjoin ! $ join ! $ move ! (1 ∷ 0 ∷ []) $ join ! $ done !))
