use Rattle.std.proofs.lemmas.Result.{IfOk-weaker}
use Rattle.pcompact_c.proofs.Lemmas.Answered.{both_of_ok}
use Rattle.pcompact_c.proofs.slide.end_shares.Goals as goal

pub returns-clause-slid : goal.returns-clause-slid
returns-clause-slid c =
    let r = c.end_slide.result in
    let made = c.end_slide.ensures in
    IfOk-weaker r _ _
    (λ figures is. (c.pop.new.self.items, c.in-Some.share, c.in-Some.ensures.items, is.0, is.1))
    (both_of_ok r _ _ made.words made.figures)
