use Rattle.std.proofs.Common.{◌≡◌, take}
use Rattle.std.specs.Prelude.{map}
use Rattle.summary.specs.NewAddresses.{new_address}
use Rattle.history.proofs.machine.carrier.Carrier.new_live.Given as goal

abbrev pub invariant-loop-a : goal.invariant-loop-a
invariant-loop-a l = l.live.items ≡ map (new_address l.image) (take l.a-index l.image.live)
