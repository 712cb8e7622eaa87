use Rattle.std.proofs.Common.{◌≡◌, All, false, length, take}
use Rattle.pcompact_c.specs.Handles.{HaveNoParts}
use Rattle.pcompact_c.proofs.check.release_all.Given as goal

-- the handles so far are free
abbrev pub invariant-loop-handle : goal.invariant-loop-handle
invariant-loop-handle l = record {
  long : length l.handles ≡ length l.initial.handles;
  free : All (λ h. h.0 ≡ false) (take l.handle-index l.handles);
  none : HaveNoParts (take l.handle-index l.handles);
}
