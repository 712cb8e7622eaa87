use Rattle.pcompact_c.proofs.Lemmas.Answered.{ended}
use Rattle.pcompact_c.proofs.slide.pcompact_end_slide_at.Goals as goal

pub returns-clause-slid : goal.returns-clause-slid
returns-clause-slid c none last is image blocks slid =
    let done = ended c.end_slid.result _ _ c.of.result.fault c.of.ensures c.end_slid.ensures.fault c.end_slid.ensures.slid none in
    let holds = done.2 last is image blocks slid in
    (holds.0, done.1.1 image holds.1)
