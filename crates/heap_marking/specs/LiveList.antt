-- The words of a set of addresses, as they are listed.
use Rattle.std.specs.Prelude.{◌≡◌, ℕ, ◌^◌, ◌<◌, ◌≤◌, List, length}
use Rattle.object_heap.specs.Bits.{addresses_between}

-- these are words of the set, from one index up to another
pub record IsRange (words : List ℕ) (first last : ℕ) : Type 0 where
  pub few : length words < 2 ^ 58
  pub ordered : first ≤ last
  pub inside : last ≤ length words

-- the addresses of the words from an index on
abbrev pub addresses_from : List ℕ → ℕ → List ℕ
addresses_from words first = addresses_between words first (length words)

-- threads can write these addresses, each those of a share of words, to a list of this length
pub record MayWrite (words : List ℕ) (share first size : ℕ) : Type 0 where
  pub few : length words < 2 ^ 58
  pub some : 0 < share
  pub inside : first ≤ length words
  pub room : size ≡ length (addresses_from words first)
