use Rattle.std.proofs.Common.{sym, ◌∙◌, arith}
use Rattle.std.specs.Prelude.{decimal}
use Rattle.history.proofs.Lemmas.Texts.{split_unique, decimal_without}
use Rattle.history.proofs.schedule.reading.number_to.Goals as goal

pub returns-in_err-number : goal.returns-in_err-number
returns-in_err-number c =
    rw c.from_residual-in_err-number.ensures
    (λ n rest few same.
    c.in_err-number.ensures n few (split_unique c.args.end c.in_ok-text.text.now (decimal n) c.in_ok-text.rest.now rest c.in_ok-text.ensures.0 (decimal_without c.args.end n c.requires (omega arith)) (sym c.in_ok-text.ensures.1 ∙ same)).0)
