use Rattle.std.proofs.Common.{◌∷◌, ◌++◌, ap, ◌∙◌, arith}
use Rattle.std.proofs.lemmas.Bool.{both_ways}
use Rattle.scheduler.specs.Schedule.{is_event, is_line_reply}
use Rattle.history.specs.ScheduleText.{line_reply_text}
use Rattle.scheduler.specs.declared.event.Event.{Event}
use Rattle.history.proofs.Lemmas.LineTexts.{text_line, behind_worker, behind_event, reply_word}
use Rattle.history.proofs.schedule.line_text.line.Goals as goal
use Rattle.history.proofs.schedule.line_text.line.Goals.{then-worker-workers-via-then-worker-workers, then-worker-workers-via-else-worker-workers+then-not-is_event}

pub returns-in_err-event : goal.returns-in_err-event
returns-in_err-event c =
    rw c.from_residual-in_err-event.ensures
    (λ l rest fits same.
    let f = text_line c.args.workers l fits in
    let a = behind_worker c.args.workers c.in_ok-worker.worker l c.args.bytes.now c.in_ok-worker.after_worker.now rest c.requires f c.in_ok-worker.ensures.0 c.in_ok-worker.ensures.1 same in
    c.in_err-event.ensures l.event (line_reply_text l.reply ++ 10 ∷ rest) f.numbers a.1)

pub returns-in_err-reply : goal.returns-in_err-reply
returns-in_err-reply c =
    rw c.from_residual-in_err-reply.ensures
    (λ l rest fits same.
    let f = text_line c.args.workers l fits in
    let a = behind_worker c.args.workers c.in_ok-worker.worker l c.args.bytes.now c.in_ok-worker.after_worker.now rest c.requires f c.in_ok-worker.ensures.0 c.in_ok-worker.ensures.1 same in
    let b = behind_event c.args.workers c.in_ok-event.event l c.in_ok-worker.after_worker.now c.in_ok-event.after_event.now rest f c.in_ok-event.ensures.0 c.in_ok-event.ensures.1 a.1 in
    c.in_err-reply.ensures (line_reply_text l.reply) rest b.1)

pub returns-in_err-reply-2 : goal.returns-in_err-reply-2
returns-in_err-reply-2 c =
    rw c.from_residual-in_err-reply-2.ensures
    (λ l rest fits same.
    let f = text_line c.args.workers l fits in
    let a = behind_worker c.args.workers c.in_ok-worker.worker l c.args.bytes.now c.in_ok-worker.after_worker.now rest c.requires f c.in_ok-worker.ensures.0 c.in_ok-worker.ensures.1 same in
    let b = behind_event c.args.workers c.in_ok-event.event l c.in_ok-worker.after_worker.now c.in_ok-event.after_event.now rest f c.in_ok-event.ensures.0 c.in_ok-event.ensures.1 a.1 in
    let word = reply_word c.args.workers l c.in_ok-reply.reply.now c.in_ok-event.after_event.now c.in_ok-reply.rest.now rest f c.in_ok-reply.ensures.0 c.in_ok-reply.ensures.1 b.1 in
    c.in_err-reply-2.ensures l.reply (ap (λ (e : Event). is_line_reply e l.reply) b.0 ∙ f.reply) word)

pub returns-then-worker-workers : goal.returns-then-worker-workers
returns-then-worker-workers c = λ l rest fits same.
    let f = text_line c.args.workers l fits in
    let a = behind_worker c.args.workers c.in_ok-worker.worker l c.args.bytes.now c.in_ok-worker.after_worker.now rest c.requires f c.in_ok-worker.ensures.0 c.in_ok-worker.ensures.1 same in
    let b = behind_event c.args.workers c.in_ok-event.event l c.in_ok-worker.after_worker.now c.in_ok-event.after_event.now rest f c.in_ok-event.ensures.0 c.in_ok-event.ensures.1 a.1 in
    elim c.then-worker-workers.branch [
      | then-worker-workers-via-then-worker-workers w ↦ let high = w.if-worker-workers.true in let low = f.worker in let e = a.0 in omega arith
      | then-worker-workers-via-else-worker-workers+then-not-is_event w ↦ both_ways w.is_event.result w.if-not-is_event.true (w.is_event.ensures ∙ (ap is_event b.0 ∙ f.event))
    ]
