-- Bits in words of 64.
use Rattle.std.specs.Prelude.{◌≡◌, ℕ, ◌+◌, ◌-◌, ◌*◌, ◌/◌, ◌%◌, ◌<◌, ◌≤◌, ◌==◌, Bool, false, IsTrue, List, length, slice_index, filter}
use Rattle.std.specs.List.{list_any, range_with_len}
use Rattle.std.specs.Int.{bit_at}

-- the number of bits of the words
abbrev pub room : List ℕ → ℕ
room words = 64 * length words

-- whether bit k is set
abbrev pub has : List ℕ → ℕ → Bool
has words k = bit_at (slice_index words (k / 64)) (k % 64) == 1

-- no address from this one on passes the test
abbrev pub NoneFrom : (ℕ → Bool) → ℕ → Type 0
NoneFrom test from = (k : ℕ) → from ≤ k → test k ≡ false

-- no address from this one on and below `to` passes the test
abbrev pub NoneBetween : (ℕ → Bool) → ℕ → ℕ → Type 0
NoneBetween test from to = (k : ℕ) → from ≤ k → k < to → test k ≡ false

-- a is the first address from this one on that passes the test
pub record IsFirstFrom (test : ℕ → Bool) (from a : ℕ) : Type 0 where
  pub behind : from ≤ a
  pub passes : IsTrue (test a)
  pub least : (k : ℕ) → from ≤ k → k < a → test k ≡ false

-- a is the first address from this one on that passes the test, and lies below `to`
pub record IsFirstBetween (test : ℕ → Bool) (from to a : ℕ) : Type 0 where
  pub first : IsFirstFrom test from a
  pub below : a < to

-- no address below the limit passes the test
abbrev pub NoneBelow : (ℕ → Bool) → ℕ → Type 0
NoneBelow test limit = (k : ℕ) → k < limit → test k ≡ false

-- a is the last address below the limit that passes the test
pub record IsLastBelow (test : ℕ → Bool) (limit a : ℕ) : Type 0 where
  pub below : a < limit
  pub passes : IsTrue (test a)
  pub greatest : (k : ℕ) → a < k → k < limit → test k ≡ false

-- the word with index i is the last of these that isn't 0
pub record IsLastWord (words : List ℕ) (i : ℕ) : Type 0 where
  pub inside : i < length words
  pub some : 0 < slice_index words i
  pub greatest : (j : ℕ) → i < j → j < length words → slice_index words j ≡ 0

-- the lowest bit that is set in a word
pub record IsLowestBit (word i : ℕ) : Type 0 where
  pub below : i < 64
  pub set : bit_at word i ≡ 1
  pub least : (j : ℕ) → j < i → bit_at word j ≡ 0

-- the highest bit that is set in a word
pub record IsHighestBit (word i : ℕ) : Type 0 where
  pub below : i < 64
  pub set : bit_at word i ≡ 1
  pub greatest : (j : ℕ) → i < j → bit_at word j ≡ 0

-- the set bits are those of the addresses of the list, which are below words
pub record MarkBegins (live : List ℕ) (words : ℕ) (bits : List ℕ) : Type 0 where
  pub room : length bits ≡ words / 64 + 1
  pub marked : (a : ℕ) → has bits a ≡ list_any (λ b. b == a) live

-- the indices of the bits that are set in a word of 64 bits, ascending
abbrev pub ones_of : ℕ → List ℕ
ones_of word = filter (λ j. bit_at word j == 1) (range_with_len 0 64)

-- the set addresses of the words from one index up to another, ascending
abbrev pub addresses_between : List ℕ → ℕ → ℕ → List ℕ
addresses_between words from to = filter (has words) (range_with_len (64 * from) (64 * (to - from)))

-- all set addresses, ascending
abbrev pub addresses_of : List ℕ → List ℕ
addresses_of words = addresses_between words 0 (length words)
