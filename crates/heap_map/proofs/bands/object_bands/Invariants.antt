use Rattle.std.proofs.Common.{◌≡◌, take}
use Rattle.std.specs.Prelude.{map}
use Rattle.heap_map.specs.Bands.{object_band}
use Rattle.heap_map.proofs.bands.object_bands.Given as goal

abbrev pub invariant-loop-a : goal.invariant-loop-a
invariant-loop-a l = l.bands.items ≡ map (object_band l.image) (take l.a-index l.image.live)
