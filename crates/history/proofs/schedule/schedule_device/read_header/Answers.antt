use Rattle.std.proofs.Common.{◌≡◌, ◌++◌, [], List, ℕ, length, refl, sym, ap, ◌∙◌, inr, arith, length-append}
use Rattle.history.proofs.Lemmas.KnownBytes.{consumes_held}
use Rattle.history.specs.ReadSchedule.{IsBadHeader}
use Rattle.history.specs.ScheduleText.{header_text}
use Rattle.history.specs.Window.{rest_of, unread}
use Rattle.history.proofs.Lemmas.Windows.{bad_header, carried_back}
use Rattle.history.proofs.schedule.schedule_device.read_header.Goals as goal

pub returns-in-Some-clause-text : goal.returns-in-Some-clause-text
returns-in-Some-clause-text g c =
    let first = rest_of c.args.window.now (g.R.Intake.left c.args.source.now) in
    let held = unread c.hold_line.new.self in
    let behind = c.in-Some.behind.now in
    let text = header_text c.in-Some.workers in
    let is : held ≡ text ++ behind = sym c.unread.ensures ∙ c.in-Some.ensures.2 in
    let left : unread c.pass.new.self ≡ behind = c.pass.ensures.passed text behind is (omega (arith, ap length c.unread-in-Some.ensures, ap length is, length-append text behind)) in
    consumes_held first (g.R.Intake.left c.hold_line.new.source) [] held text (unread c.pass.new.self) (is ∙ ap (λ (bytes : List ℕ). text ++ bytes) (sym left)) c.in_ok-hold_line.ensures.same

pub returns-in-None-clause-fault : goal.returns-in-None-clause-fault
returns-in-None-clause-fault g c =
    let first = rest_of c.args.window.now (g.R.Intake.left c.args.source.now) in
    let held = unread c.hold_line.new.self in
    let left = g.R.Intake.left c.hold_line.new.source in
    inr (
      refl,
      carried_back (λ bytes. IsBadHeader bytes 1) first (rest_of c.hold_line.new.self left) c.in_ok-hold_line.ensures.same
          (bad_header held left c.in_ok-hold_line.ensures.whole (λ workers rest some few same. c.in-None.ensures workers rest some few (c.unread.ensures ∙ same))),
    )
