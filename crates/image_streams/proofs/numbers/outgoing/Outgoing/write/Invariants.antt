use Rattle.std.proofs.Common.{length, ◌-◌, ◌≡◌, ◌≤◌, take}
use Rattle.image_streams.specs.Numbers.{numbers}
use Rattle.image_streams.specs.Outgoing.{HasRoom, unsent_bytes, Sends}
use Rattle.image_streams.proofs.numbers.outgoing.Outgoing.write.Given as goal

abbrev pub invariant-loop-done : goal.invariant-loop-done
invariant-loop-done g l = record {
  within : l.done ≤ length l.words;
  room : HasRoom l.self;
  sent : Sends (g.W.Outlet.took l.initial.writer) (g.W.Outlet.took l.writer) (unsent_bytes l.initial.self) (unsent_bytes l.self) (numbers (take l.done l.words));
  failed : g.W.Outlet.has_failed l.writer ≡ g.W.Outlet.has_failed l.initial.writer;
}

abbrev pub decreases-loop-done : goal.decreases-loop-done
decreases-loop-done g l = length l.words - l.done
