use Rattle.std.proofs.Common.{arith}
use Rattle.history.proofs.Lemmas.LineTexts.{header_told}
use Rattle.history.proofs.schedule.line_text.header.Goals as goal
use Rattle.history.proofs.schedule.line_text.header.Goals.{else-workers-ge1-via-then-workers-ge1+else-workers-le-MAX_WORKERS, else-workers-ge1-via-else-workers-ge1}

pub returns-else-workers-ge1 : goal.returns-else-workers-ge1
returns-else-workers-ge1 c = λ workers rest some most same.
    let e = header_told c.in_ok-workers.workers workers c.args.bytes.now c.in_ok-bytes.bytes.now c.in_ok-workers.rest.now rest c.in_ok-workers.ensures.0 most c.in_ok-bytes.ensures.cases.1 c.in_ok-workers.ensures.1 same in
    elim c.else-workers-ge1.branch [
      | else-workers-ge1-via-then-workers-ge1+else-workers-le-MAX_WORKERS w ↦ let high = w.if-workers-le-MAX_WORKERS.false in omega arith
      | else-workers-ge1-via-else-workers-ge1 w ↦ let low = w.if-workers-ge1.false in omega arith
    ]
