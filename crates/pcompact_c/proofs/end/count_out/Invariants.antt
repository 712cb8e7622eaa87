use Rattle.std.proofs.Common.{◌≡◌, length}
use Rattle.pcompact_c.specs.Handles.{HaveSameParts}
use Rattle.pcompact_c.proofs.end.count_out.Given as goal

-- each handle has its part
abbrev pub invariant-loop-handle : goal.invariant-loop-handle
invariant-loop-handle l = record {
  long : length l.handles ≡ length l.initial.handles;
  parts : HaveSameParts l.initial.handles l.handles;
}
