use Rattle.std.proofs.Common.{◌≡◌, ◌⊎◌, length, take, drop}
use Rattle.std.specs.Prelude.{Some, IfOk, IfErr, map}
use Rattle.image_streams.specs.declared.fault.Fault.TheVariants.{Memory, Workers}
use Rattle.pcompact_c.specs.Handles.{HaveNoParts, share_in}
use Rattle.pcompact_c.proofs.end.take_shares.Given as goal

-- the handles so far are free, and their shares were taken in their order, but for a fault
abbrev pub invariant-loop-handle : goal.invariant-loop-handle
invariant-loop-handle l = record {
  long : length l.handles ≡ length l.initial.handles;
  rest : drop l.handle-index l.handles ≡ drop l.handle-index l.initial.handles;
  free : HaveNoParts (take l.handle-index l.handles);
  shares : IfOk l.taken (λ shares. map share_in (take l.handle-index l.initial.handles) ≡ map Some shares.items);
  fault : IfErr l.taken (λ fault. (fault ≡ Memory) ⊎ (fault ≡ Workers));
}
