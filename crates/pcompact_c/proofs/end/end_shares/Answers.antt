use Rattle.std.proofs.lemmas.Result.{IfOk-weaker}
use Rattle.pcompact_c.proofs.Lemmas.Answered.{both_of_ok}
use Rattle.pcompact_c.proofs.end.end_shares.Goals as goal

pub returns-clause-collected : goal.returns-clause-collected
returns-clause-collected c =
    let r = c.end_lent_words.result in
    let made = c.end_lent_words.ensures in
    IfOk-weaker r _ _
    (λ figures is. (c.pop.new.self.items, c.in-Some.share, c.in-Some.ensures.items, is.0, is.1.0, is.1.1))
    (both_of_ok r _ _ made.words (both_of_ok r _ _ made.tail made.figures))
