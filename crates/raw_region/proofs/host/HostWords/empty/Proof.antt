-- `empty` makes words that hold nothing.
use Rattle.raw_region.proofs.Lemmas.Steps.{[], ◌∷◌, refl, lit<, proved, ftrue, ‵, ◌⊛◌, ◌$◌, ◌∵◌, !, qed, drop, split, suffices, done, agg, enter, lit, no_more, and_then, returns, alloc_all, pass_all, free_all, look_at, sets, nothing, Stays, walk_of, says, ends_at}
use mathlib.Core.Bool.{false}
use types.Run.{false_lit}
use denote.RawPtr.{null_ptr}
use Rattle.raw_region.specs.contracts.host.HostWords.empty as f
use Rattle.raw_region.proofs.host.HostWords.empty.Statement.{statement}
use Rattle.raw_region.proofs.host.HostWords.empty.Code as code
use Rattle.raw_region.proofs.Lemmas.Held.{word, host_in}

abbrev stayed : Stays f.ended.signature.params f.ended.kept
stayed = tt

pub empty_spec : {M : Type 1} → statement M
empty_spec 𝓤 𝓛 𝓜 𝓡 wired =
    let c = f.clauses 𝓛 𝓜.mem 𝓡.returns in let W = walk_of 𝓛 f.ended stayed c in
    proved 𝓛 f.ended stayed c 𝓜 𝓡 tt f.Key.name code.function (code.unfolded 𝓤 𝓛.H 𝓜 𝓡 wired) (λ κs. tt) (λ κs. tt) (λ κs qs bounds a _ are.
    qed 𝓛 ((‵ ftrue ⊛ ‵ ftrue) ∷ ‵ ftrue ∷ []) ∵ split ! $ drop ! $ drop ! $ drop ! $
    enter ! _ _ _ _ _ $ alloc_all ! (λ l. pass_all ! refl tt $
    sets ! (agg ! (and_then ! (false_lit !) (and_then ! (lit ! tt) (and_then ! (lit ! tt) (no_more !))))) refl (tt, (tt, (record { fits = lit< tt }, (record { fits = lit< tt }, tt)))) $
    returns ! (look_at ! 0 refl) $ free_all ! refl $ nothing ! $ host_in ! false null_ptr 0 [] (lit< tt) $
    suffices ! _ (ends_at 𝓛 f.ended stayed c ((κs, qs, bounds, a, tt), tt) (word false null_ptr 0) (false, null_ptr, 0, []) tt tt) $ says ! refl $ nothing ! $ nothing ! $ done !))
