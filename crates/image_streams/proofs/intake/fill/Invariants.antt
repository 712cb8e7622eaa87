use Rattle.std.proofs.Common.{length, ◌-◌, ◌≡◌, ◌≤◌, ◌<◌, take, false}
use Rattle.std.specs.Io.KnownBytes.{Consumes}
use Rattle.image_streams.proofs.intake.fill.Given as goal

abbrev pub invariant-loop-filled : goal.invariant-loop-filled
invariant-loop-filled g l = record {
  within : l.filled ≤ length l.buffer;
  bytes : Consumes (g.R.Intake.left l.initial.reader) (g.R.Intake.left l.reader) (take l.filled l.buffer);
  failed : g.R.Intake.has_failed l.reader ≡ g.R.Intake.has_failed l.initial.reader;
  fresh : 0 < l.filled → g.R.Intake.has_failed l.initial.reader ≡ false;
}

abbrev pub decreases-loop-filled : goal.decreases-loop-filled
decreases-loop-filled g l = length l.initial.buffer - l.filled
