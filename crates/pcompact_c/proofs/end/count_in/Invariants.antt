use Rattle.std.proofs.Common.{◌≡◌, length, take, drop}
use Rattle.std.specs.Prelude.{IsTrue}
use Rattle.pcompact_c.specs.Handles.{AreFrom, HaveSameParts}
use Rattle.pcompact_c.proofs.end.count_in.Given as goal

-- each handle has its part; those so far are all from there, where the flag says so, and the others are as they were
abbrev pub invariant-loop-handle : goal.invariant-loop-handle
invariant-loop-handle l = record {
  long : length l.handles ≡ length l.initial.handles;
  rest : drop l.handle-index l.handles ≡ drop l.handle-index l.initial.handles;
  parts : HaveSameParts l.initial.handles l.handles;
  origin : IsTrue l.are_from → AreFrom l.fn.origin (take l.handle-index l.initial.handles);
}
