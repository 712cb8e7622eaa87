-- The room that a block's words are in.
use Rattle.raw_region.specs.declared.block.Block.{Block}
use Rattle.raw_region.specs.declared.room.Room.{Room}

abbrev pub room_of : Block → Room
room_of b = record { at = b.at; len = b.len; deed = b.deed }
