use Rattle.std.proofs.Common.{sym, ◌∙◌}
use Rattle.history.specs.Verb.{verb_of}
use Rattle.history.proofs.Lemmas.EventTexts.{begins, event_is, verb_injective, match_known}
use Rattle.history.proofs.schedule.event_text.event.Goals as goal

pub returns-in_err-verb : goal.returns-in_err-verb
returns-in_err-verb c =
    rw c.from_residual-in_err-verb.ensures
    (λ e rest few same.
    c.in_err-verb.ensures.none (verb_of e) (begins e c.in_ok-name.name.now c.args.bytes.now c.in_ok-name.rest.now rest c.in_ok-name.ensures.0 c.in_ok-name.ensures.1 same).0)

pub returns : goal.returns
returns c =
    match_known c.numbers.result _ _ _ _ c.numbers.ensures
    (λ none e rest few same.
    let both = begins e c.in_ok-name.name.now c.args.bytes.now c.in_ok-name.rest.now rest c.in_ok-name.ensures.0 c.in_ok-name.ensures.1 same in
    none e rest (verb_injective (verb_of e) c.in_ok-verb.verb (sym both.0 ∙ c.in_ok-verb.ensures.found)) few both.1)
    (λ parts h. (h.1, event_is parts.0 c.in_ok-verb.verb c.in_ok-name.name.now c.args.bytes.now c.in_ok-name.rest.now parts.1.now c.in_ok-verb.ensures.found h.0 c.in_ok-name.ensures.1 h.2))
