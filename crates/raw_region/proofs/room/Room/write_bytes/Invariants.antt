use Rattle.std.proofs.Common.{◌≡◌, ◌*◌, take, flat_map}
use Rattle.std.specs.Int.{w64, to_le_bytes}
use Rattle.raw_region.specs.FillingSteps.{room_filled}
use Rattle.raw_region.proofs.room.Room.write_bytes.Given as goal

abbrev pub invariant-loop-i : goal.invariant-loop-i
invariant-loop-i l = (room_filled l.filling ≡ l.fn.self) × (l.filling.done ≡ l.i) × (flat_map (to_le_bytes w64) l.filling.words ≡ take (8 * l.i) l.fn.bytes)
