use Rattle.std.proofs.Common.{◌≡◌, take}
use Rattle.std.specs.Prelude.{map}
use Rattle.summary.specs.NewAddresses.{new_address}
use Rattle.plain_compaction.proofs.plainly.Placement.of.Given as goal

abbrev pub invariant-loop-a : goal.invariant-loop-a
invariant-loop-a l = l.live.items ≡ map (new_address l.image) (take l.a-index l.a-items)
