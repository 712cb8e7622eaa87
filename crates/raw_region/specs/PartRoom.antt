-- The room that a part of a frame holds.
use Rattle.std.specs.Prelude.{None}
use Rattle.raw_region.specs.declared.part.Part.{Part}
use Rattle.raw_region.specs.declared.room.Room.{Room}

abbrev pub held_by : Part → Room
held_by p = record { at = p.at; len = p.len; deed = None }
