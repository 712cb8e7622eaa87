use Rattle.std.proofs.Common.{◌≡◌, ◌-◌, ◌≤◌}
use Rattle.coded_marking.specs.Marking.{set_below}
use Rattle.coded_marking.proofs.live_objects.addresses_below.Given as goal

abbrev pub invariant-loop-a : goal.invariant-loop-a
invariant-loop-a l = record {
  listed : l.addresses.items ≡ set_below l.from l.bits;
  low : l.from ≤ l.words;
}

abbrev pub decreases-loop-a : goal.decreases-loop-a
decreases-loop-a l = l.words - l.from
