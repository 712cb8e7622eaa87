use Rattle.std.proofs.lemmas.Result.{IfOk-weaker}
use Rattle.pcompact_c.proofs.Lemmas.Answered.{both_of_ok}
use Rattle.pcompact_c.proofs.end.outcome_of.Goals as goal

pub returns-clause-outcome : goal.returns-clause-outcome
returns-clause-outcome c =
    let r = c.end.result in
    let made = c.end.ensures in
    IfOk-weaker r _ _
    (λ outcome is. (c.pop.new.self.items, c.in-Some.share, c.in-Some.ensures.items, is.0, is.1))
    (both_of_ok r _ _ made.image made.figures)
