use Rattle.std.proofs.Common.{◌≡◌, ◌-◌}
use Rattle.dump_records.proofs.dump.window.Window.buffer.Given as goal

abbrev pub invariant-loop-self : goal.invariant-loop-self
invariant-loop-self g l = record {
  start : l.self.start ≡ 0;
  left : l.self.left ≡ l.initial.self.left;
}

abbrev pub decreases-loop-self : goal.decreases-loop-self
decreases-loop-self g l = 8192 - l.self.end
