use Rattle.std.proofs.Common.{◌≡◌, ◌-◌, [], length}
use Rattle.std.specs.Io.KnownBytes.{Consumes}
use Rattle.history.specs.Window.{IsInRange, rest_of, unread}
use Rattle.history.proofs.schedule.window.Window.hold_line.Given as goal

abbrev pub invariant-loop-self : goal.invariant-loop-self
invariant-loop-self g l = record {
  in_range : IsInRange l.self;
  same : Consumes (rest_of l.initial.self (g.R.Intake.left l.initial.source)) (rest_of l.self (g.R.Intake.left l.source)) [];
  failed : g.R.Intake.has_failed l.source ≡ g.R.Intake.has_failed l.initial.source;
}

abbrev pub decreases-loop-self : goal.decreases-loop-self
decreases-loop-self g l = 64 - length (unread l.self)
