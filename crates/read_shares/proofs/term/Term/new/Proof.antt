-- `new` begins a lifetime, and keeps all of its token.
use Rattle.read_shares.proofs.Lemmas.Names.{ℕ, [], ◌∷◌, refl, proved, leaves, fex, tables, ‵, raw, ◌⊛◌, later, ◌$◌, ◌∵◌, !, qed, by, keep, use0, split, fjoin, fpick, await, agg, enter, no_more, returns, alloc_all, free_all, look_at, pass_all, sets, owns, types_at, nothing, Stays, walk_of}
use mir.Val.{vnil, vstruct}
use denote.Triple.Entry.{alive}
use Rattle.read_shares.specs.Term.{term_owns}
use Rattle.read_shares.proofs.Lemmas.Fields.{Marker, marked}
use Rattle.read_shares.proofs.Lemmas.Lending.{begins}
use Rattle.read_shares.specs.contracts.term.Term.new as f
use Rattle.read_shares.specs.contracts.term.Term.new.Key.{name as #self}
use Rattle.read_shares.proofs.term.Term.new.Statement.{statement}
use Rattle.read_shares.proofs.term.Term.new.Code as code

pub new_spec : {M : Type 1} → statement M
new_spec 𝓤 𝓛 𝓜 𝓡 wired =
    let 𝓣 = tables 𝓤 𝓛.H 𝓜 𝓡 𝓡.env in let E = f.ended in let c = f.clauses 𝓛 𝓜.mem 𝓡.returns in
    let stayed : Stays E.signature.params E.kept = tt in let W = walk_of 𝓛 E stayed c in
    proved 𝓛 E stayed c 𝓜 𝓡 tt #self code.function (code.unfolded 𝓤 𝓛.H 𝓜 𝓡 wired) (λ κs. tt) (λ κs. tt) (λ κs qs bounds a g are.
    let y : W.Ghost = ((κs, qs, bounds, a, tt), g) in
    qed 𝓛 ((raw (alive 𝓛 E.signature κs qs) ⊛ ‵ (owns (types_at E.signature.params κs) a y.0.4)) ∷ raw ((c κs a).requires g) ∷ []) ∵
    keep ! (0 ∷ []) $ split ! $ enter ! _ _ _ _ _ $ alloc_all ! (λ l. pass_all ! refl tt $
    use0 𝓛 (later (‵ (fex ℕ term_owns))) (begins 𝓛) $ await ! tt $ fpick ! (λ n.
    -- [all of the token; the tokens of no lifetimes; nothing]
    use0 𝓛 (‵ (Marker.own_val tt (vstruct vnil ∷ []))) (marked 𝓛) $ fjoin ! $
    sets ! (agg ! (no_more !)) refl (tt, tt) $ returns ! (look_at ! 0 refl) $ free_all ! refl $
    -- [the term; the tokens; nothing]
    nothing ! $ keep ! (2 ∷ 3 ∷ 1 ∷ 0 ∷ []) $ by ! (leaves 𝓛 E stayed c y (vstruct vnil) (record { origin = n }) tt tt))))
