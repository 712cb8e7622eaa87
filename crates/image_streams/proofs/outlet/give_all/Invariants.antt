use Rattle.std.proofs.Common.{length, ◌-◌, ◌≡◌, ◌≤◌, ◌<◌, take, false}
use Rattle.std.specs.Io.KnownBytes.{Appends}
use Rattle.image_streams.proofs.outlet.give_all.Given as goal

abbrev pub invariant-loop-given : goal.invariant-loop-given
invariant-loop-given g l = record {
  within : l.given ≤ length l.bytes;
  bytes : Appends (g.W.Outlet.took l.initial.writer) (g.W.Outlet.took l.writer) (take l.given l.bytes);
  failed : g.W.Outlet.has_failed l.writer ≡ g.W.Outlet.has_failed l.initial.writer;
  fresh : 0 < l.given → g.W.Outlet.has_failed l.initial.writer ≡ false;
}

abbrev pub decreases-loop-given : goal.decreases-loop-given
decreases-loop-given g l = length l.bytes - l.given
