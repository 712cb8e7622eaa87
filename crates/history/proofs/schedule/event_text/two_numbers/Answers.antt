use Rattle.std.proofs.Common.{◌++◌, ◌∷◌, sym, ◌∙◌, arith}
use Rattle.std.specs.Prelude.{decimal}
use Rattle.history.proofs.Lemmas.Texts.{split_unique, decimal_without}
use Rattle.history.proofs.schedule.event_text.two_numbers.Goals as goal

pub returns-in_err-second : goal.returns-in_err-second
returns-in_err-second c =
    rw c.from_residual-in_err-second.ensures
    (λ m n rest few few' same.
    c.in_err-second.ensures n rest few' (split_unique 32 (decimal c.in_ok-first.first) (decimal m) c.in_ok-first.rest.now (decimal n ++ 32 ∷ rest)
    (decimal_without 32 c.in_ok-first.first (omega arith) (let few = c.in_ok-first.ensures.0 in omega arith)) (decimal_without 32 m (omega arith) (omega arith)) (sym c.in_ok-first.ensures.1 ∙ same)).1)
