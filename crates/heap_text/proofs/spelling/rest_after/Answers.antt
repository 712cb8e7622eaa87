use Rattle.std.proofs.Common.{◌≡◌, ◌∙◌, ◌++◌, ℕ, List, true, false, sym, ap, length, take, drop}
use Rattle.std.proofs.lemmas.List.{take-append-drop}
use Rattle.heap_text.proofs.Lemmas.PartSteps.{same_from}
use Rattle.heap_text.proofs.Lemmas.TokenSteps.{begins_with}
use Rattle.heap_text.proofs.spelling.rest_after.Goals as goal

pub returns-in-Some-clause-rest : goal.returns-in-Some-clause-rest
returns-in-Some-clause-rest c =
    let rest : List ℕ = c.args.rest.now in
    let lines : List ℕ = c.args.lines.now in
    let front : take (length lines) rest ≡ lines = same_from (take (length lines) rest) lines c.in-Some.ensures.cases.0 in
    sym (take-append-drop (length lines) rest)
    ∙ (ap (λ (t : List ℕ). t ++ drop (length lines) rest) front ∙ ap (λ (t : List ℕ). lines ++ t) (sym c.in-Some.ensures.cases.1))

pub returns-in-None-clause-accepts : goal.returns-in-None-clause-accepts
returns-in-None-clause-accepts c more is =
    let no : true ≡ false = sym (begins_with c.args.rest.now c.args.lines.now more is) ∙ c.in-None.ensures.cases in
    absurd (let none : ⊥ = cc in none)
