-- The numbers of a body that are still to be read.
use Rattle.std.specs.Prelude.{◌≡◌, ℕ, ◌+◌, ◌-◌, ◌*◌, ◌<◌, ◌≤◌, ◌++◌, List, Option, IfSome, length, take, slice_range}
use Rattle.std.specs.Io.KnownBytes.{IsAtEnd, prepend_known}
use Rattle.image_streams.specs.Numbers.{numbers}
use Rattle.image_streams.specs.declared.numbers.incoming.Incoming.{Incoming}

-- the buffer has room for at least one number, and the buffered numbers are within it
pub record IsInRange (i : Incoming) : Type 0 where
  pub some : 8 ≤ length i.bytes.now
  pub ordered : i.start ≤ i.end
  pub within : 8 * i.end ≤ length i.bytes.now

-- the bytes of the buffered numbers
abbrev pub unread_bytes : Incoming → List ℕ
unread_bytes i = slice_range i.bytes.now (8 * i.start) (8 * i.end)

-- the number of numbers that are still to be read
abbrev pub expected : Incoming → ℕ
expected i = i.end - i.start + i.due

-- the known bytes that are still to be read: those in the buffer, and those that the device has left
abbrev pub known_rest : Incoming → Option (List ℕ) → Option (List ℕ)
known_rest i left = prepend_known (unread_bytes i) left

-- the buffer is empty, and this number of numbers is still to be read
pub record IsEmptyFor (count : ℕ) (i : Incoming) : Type 0 where
  pub due : i.due ≡ count
  pub none_held : i.start ≡ i.end
  pub in_range : IsInRange i

-- the first n buffered numbers became the first of these words, at least one if there is one and a word for it
pub record Decodes (old new : Incoming) (words : List ℕ) (n : ℕ) : Type 0 where
  pub in_range : IsInRange new
  pub within : n ≤ length words
  pub some : old.start < old.end → 0 < length words → 0 < n
  pub bytes : unread_bytes old ≡ numbers (take n words) ++ unread_bytes new
  pub fewer : expected new + n ≡ expected old

-- the device is at its end, and the known bytes were too few for this number of numbers
abbrev pub FallsShort : Option (List ℕ) → Option (List ℕ) → ℕ → Type 0
FallsShort rest left count = IsAtEnd left × IfSome rest (λ bytes. length bytes < 8 * count)
