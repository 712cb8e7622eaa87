-- The block of a region.
use Rattle.std.specs.Prelude.{◌≡◌, ◌≤◌, ◌<◌, Bool, Some, None}
use Rattle.std.specs.Arc.{arc_value}
use Rattle.raw_region.specs.declared.block.Block.{Block}
use Rattle.raw_region.specs.declared.block.TheConstants.{MAX_WORDS}
use Rattle.raw_region.specs.Rooms.{room_of}
use Rattle.raw_region.specs.declared.room.Room.{Room}
use Rattle.raw_region.specs.Frame.{part_of, IsPart}
use Rattle.raw_region.specs.declared.home.Home.{Home}
use Rattle.raw_region.specs.declared.home.Lease.{Lease}
use Rattle.raw_region.specs.declared.home.Home.TheVariants.{Own, Leased, Host}

-- the room of the part that is out
pub record IsLeased (lease : Lease) (room : Room) : Type 0 where
  pub inside : lease.index < (arc_value lease.frame).count
  pub part : IsPart (part_of (arc_value lease.frame) lease.index) room

-- what the block may free
abbrev pub IsAtHome : Home → Block → Type 0
IsAtHome (Own _) b = b.deed ≡ Some (b.at, b.len)
IsAtHome (Leased _ lease) b = IsLeased lease (room_of b)
IsAtHome (Host _) b = b.deed ≡ None

-- whether the region is cleared
abbrev pub is_clear_of : Home → Bool
is_clear_of (Own clear) = clear
is_clear_of (Leased clear _) = clear
is_clear_of (Host clear) = clear

-- the same home of a region that is cleared or not
abbrev pub with_clear : Home → Bool → Home
with_clear (Own _) clear = Own clear
with_clear (Leased _ lease) clear = Leased clear lease
with_clear (Host _) clear = Host clear

pub record IsRegionBlock (home : Home) (b : Block) : Type 0 where
  pub some : 1 ≤ b.len
  pub most : b.len ≤ MAX_WORDS
  pub at_home : IsAtHome home b
