use Rattle.std.proofs.Common.{◌≡◌, ◌+◌, ◌++◌, ◌∷◌, [], List, ℕ, Ok, length, refl, sym, ap, subst, ◌∙◌, inr, rules}
use Rattle.std.specs.Prelude.{IfSome}
use Rattle.std.specs.Io.KnownBytes.{Consumes}
use Rattle.history.specs.ReadSchedule.{IsMalformedAt}
use Rattle.history.specs.ScheduleText.{schedule_text}
use Rattle.history.specs.Window.{rest_of, unread}
use Rattle.scheduler.specs.declared.schedule.line.Line.{Line}
use Rattle.history.proofs.Lemmas.Windows.{bad_line, held_more, line_kept, line_read}
use Rattle.history.proofs.schedule.schedule_device.read_schedule_from.Goals as goal

pub returns-in_default-clause-fault : goal.returns-in_default-clause-fault
returns-in_default-clause-fault g c =
    let first = g.R.Intake.left c.args.source.now in
    let left = g.R.Intake.left c.hold_line.new.source in
    let held = unread c.hold_line.new.self in
    let lines = c.loop-lines.lines.items in
    let read = schedule_text (record { workers = c.in_ok-workers.workers; lines = lines }) in
    let long : c.len.result ≡ length lines = Prim.search rules in
    let is = held_more first (rest_of c.loop-lines.window (g.R.Intake.left c.loop-lines.source)) (rest_of c.hold_line.new.self left) read c.loop-lines.invariant.is c.in_ok-hold_line.ensures.same in
    inr (inr (
      c.len.result + 2,
      refl,
      subst (λ (n : ℕ). IfSome first (λ bytes. IsMalformedAt bytes (n + 2))) (sym long)
          (bad_line first left held c.in_ok-workers.workers lines c.loop-lines.invariant.kept is (c.in_ok-hold_line.ensures.some (ap Ok c.if-branch.true)) c.in_ok-hold_line.ensures.whole c.in_default.ensures.none),
    ))

pub loop-lines-preserved : goal.loop-lines-preserved
loop-lines-preserved g c =
    let first = g.R.Intake.left c.args.source.now in
    let left = g.R.Intake.left c.hold_line.new.source in
    let held = unread c.hold_line.new.self in
    let workers = c.in_ok-workers.workers in
    let lines = c.loop-lines.lines.items in
    let next = c.in-Some.next in
    let read = schedule_text (record { workers = workers; lines = lines }) in
    let more : c.push.new.self.items ≡ lines ++ next ∷ [] = c.in_ok-push.ensures.items ∙ ap (λ (l : Line). lines ++ l ∷ []) c.of.ensures in
    let is = held_more first (rest_of c.loop-lines.window (g.R.Intake.left c.loop-lines.source)) (rest_of c.hold_line.new.self left) read c.loop-lines.invariant.is c.in_ok-hold_line.ensures.same in
    record {
      in_range = c.take_line.ensures.in_range;
      kept = line_kept workers lines c.push.new.self.items next more c.loop-lines.invariant.kept c.in-Some.ensures.found.0;
      is = subst (λ (ls : List Line). Consumes first (rest_of c.take_line.new.window left) (schedule_text (record { workers = workers; lines = ls }))) (sym more)
          (line_read first left held workers lines next (unread c.take_line.new.window) is c.in-Some.ensures.found.1);
      failed = c.in_ok-hold_line.ensures.failed ∙ c.loop-lines.invariant.failed;
    }
