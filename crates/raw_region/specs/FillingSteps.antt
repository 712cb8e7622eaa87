-- How room is filled, word by word.
use Rattle.std.specs.Prelude.{◌≡◌, ℕ, ◌+◌, [], ◌∷◌, ◌++◌}
use Rattle.raw_region.specs.declared.filling.Filling.{Filling}
use Rattle.raw_region.specs.declared.room.Room.{Room}

-- the room that it was
abbrev pub room_filled : Filling → Room
room_filled f = record { at = f.at; len = f.len; deed = f.deed }

-- none of the words is written
pub record IsBegun (r : Room) (f : Filling) : Type 0 where
  pub room : room_filled f ≡ r
  pub done : f.done ≡ 0
  pub words : f.words ≡ []

-- this word is written after the others
pub record HasOneMore (f : Filling) (word : ℕ) (g : Filling) : Type 0 where
  pub room : room_filled g ≡ room_filled f
  pub done : g.done ≡ f.done + 1
  pub words : g.words ≡ f.words ++ word ∷ []
