-- Room that is cut in two, and two rooms that are joined.
use Rattle.std.specs.Prelude.{◌≡◌, ℕ, ◌+◌, ◌-◌, ◌*◌, ◌^◌, ◌<◌, None}
use denote.RawPtr.{Ptr, ◌+ₚ◌}
use Rattle.raw_region.specs.declared.room.Room.{Room}

-- where the first n words at a place end
abbrev pub end_of : Ptr → ℕ → Ptr
end_of p n = p +ₚ (n * 8)

-- the room for the first n words of r, which keeps its deed, and for the others
pub record IsCut (r : Room) (n : ℕ) (front above : Room) : Type 0 where
  pub at : front.at ≡ r.at
  pub above_at : above.at ≡ end_of r.at n
  pub len : front.len ≡ n
  pub above_len : above.len ≡ r.len - n
  pub deed : front.deed ≡ r.deed
  pub above_deed : above.deed ≡ None

-- the second room begins where the first one ends
pub record CanJoin (r above : Room) : Type 0 where
  pub at : above.at ≡ end_of r.at r.len
  pub fits : r.len + above.len < 2 ^ 60
  pub deed : above.deed ≡ None

-- the room of both
pub record IsJoin (r above whole : Room) : Type 0 where
  pub at : whole.at ≡ r.at
  pub len : whole.len ≡ r.len + above.len
  pub deed : whole.deed ≡ r.deed
