-- `empty` makes a handle without a part.
use Rattle.std.proofs.Common.{[], ◌∷◌, refl, lit<}
use Rattle.std.proofs.raw_atomic.Walks.{proved}
use Rattle.core.proofs.mem.Facts.{says_two}
use Rattle.std.specs.Prelude.{None}
use base.Fml.{ftrue}
use mathlib.Core.Bool.{false}
use types.Kit.{‵, ◌⊛◌, ◌$◌, ◌∵◌, !, qed, drop, split, suffices, done}
use types.Part.{agg}
use types.Run.{enter, lit, false_lit, no_more, and_then, returns}
use types.ByLocal.{alloc_all, pass_all, free_all, look_at, sets}
use denote.RawPtr.{null_ptr}
use denote.Steps.{nothing}
use denote.Triple.Walked.{Stays, walk_of, ends_at}
use Rattle.pcompact_c.specs.contracts.handle.PcompactHandle.empty as f
use Rattle.pcompact_c.proofs.handle.PcompactHandle.empty.Statement.{statement}
use Rattle.pcompact_c.proofs.handle.PcompactHandle.empty.Code as code
use Rattle.pcompact_c.proofs.Lemmas.Held.{word, handle_in}

abbrev stayed : Stays f.ended.signature.params f.ended.kept
stayed = tt

pub empty_spec : {M : Type 1} → statement M
empty_spec 𝓤 𝓛 𝓜 𝓡 wired =
    let c = f.clauses 𝓛 𝓜.mem 𝓡.returns in let W = walk_of 𝓛 f.ended stayed c in
    proved 𝓛 f.ended stayed c 𝓜 𝓡 tt f.Key.name code.function (code.unfolded 𝓤 𝓛.H 𝓜 𝓡 wired) (λ κs. tt) (λ κs. tt) (λ κs qs bounds a _ are.
    let y : W.Ghost = ((κs, qs, bounds, a, tt), tt) in
    qed 𝓛 ((‵ ftrue ⊛ ‵ ftrue) ∷ ‵ ftrue ∷ []) ∵ split ! $ drop ! $ drop ! $ drop ! $
    enter ! _ _ _ _ _ $ alloc_all ! (λ l. pass_all ! refl tt $
    sets ! (agg ! (and_then ! (false_lit !) (and_then ! (lit ! tt) (no_more !)))) refl (tt, (tt, (record { fits = lit< tt }, tt))) $
    returns ! (look_at ! 0 refl) $ free_all ! refl $
    nothing ! $ handle_in ! false null_ptr None refl $
    suffices ! _ (ends_at 𝓛 f.ended stayed c y (word false null_ptr) (false, null_ptr, None) tt tt) $ says_two ! (refl, refl) $
    nothing ! $ nothing ! $ done !))
