-- How far apart objects are in the machine, by their ids, and how large they are there.
use Rattle.std.specs.Prelude.{ℕ, ◌+◌, ◌-◌, ◌/◌, nat_le, if◌then◌else◌, Option, None, Some}

-- the whole words up to this id from where the object before it would end if it were as large as in an image
abbrev pub gap_before : Option ℕ → ℕ → ℕ
gap_before None id = 0
gap_before (Some end) id = (id - end) / 8

-- The words in the machine of an object of so many words in an image, of which the next one is this many bytes away: all up to
-- the next one, if no more than this padding is between. Otherwise no one knows, and it counts as in the image.
abbrev pub machine_words : ℕ → ℕ → Option ℕ → ℕ
machine_words words padding None = words
machine_words words padding (Some distance) = if nat_le (distance / 8) (words + padding) then distance / 8 else words
