-- The numbers that are buffered while they are written.
use Rattle.std.specs.Prelude.{◌≡◌, ◌<◌, ◌≤◌, ℕ, ◌+◌, ◌*◌, List, ◌++◌, Option, length, take}
use Rattle.std.specs.Io.KnownBytes.{Appends}
use Rattle.image_streams.specs.Numbers.{numbers}
use Rattle.image_streams.specs.declared.numbers.outgoing.Outgoing.{Outgoing}

-- the buffer has room for at least one number, and the buffered numbers are within it
pub record HasRoom (o : Outgoing) : Type 0 where
  pub some : 8 ≤ length o.bytes.now
  pub within : 8 * o.end ≤ length o.bytes.now

-- the bytes of the buffered numbers
abbrev pub unsent_bytes : Outgoing → List ℕ
unsent_bytes o = take (8 * o.end) o.bytes.now

-- there is room for one number more
pub record HasRoomForMore (o : Outgoing) : Type 0 where
  pub room : HasRoom o
  pub more : 8 * o.end + 8 ≤ length o.bytes.now

-- the first n of these numbers are buffered behind the others, at least one if there is one and room for it
pub record Buffers (old new : Outgoing) (words : List ℕ) (n : ℕ) : Type 0 where
  pub room : HasRoom new
  pub within : n ≤ length words
  pub some : 8 * old.end + 8 ≤ length old.bytes.now → 0 < length words → 0 < n
  pub bytes : unsent_bytes new ≡ unsent_bytes old ++ numbers (take n words)
  pub end : new.end ≡ old.end + n

-- the bytes that the device took, and those buffered now, are those buffered before and those written
abbrev pub Sends : Option (List ℕ) → Option (List ℕ) → List ℕ → List ℕ → List ℕ → Type 0
Sends before after held holds written = (given : List ℕ)
    × Appends before after given × (given ++ holds ≡ held ++ written)

-- the device took a prefix of these bytes
abbrev pub TakesBeginning : Option (List ℕ) → Option (List ℕ) → List ℕ → Type 0
TakesBeginning before after bytes = (n : ℕ) × Appends before after (take n bytes)
