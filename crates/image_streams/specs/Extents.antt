-- Bytes at offsets, and the bodies of images among them.
use Rattle.std.specs.Prelude.{◌≡◌, ℕ, ◌+◌, ◌*◌, ◌^◌, ◌<◌, ◌≤◌, ◌++◌, List, Option, drop, option_map}
use Rattle.image_streams.specs.Body.{IsBody, body_words}
use Rattle.image_streams.specs.declared.body.Body.{Body}
use Rattle.image_streams.specs.declared.side_by_side.Extent.{Extent}

-- the known bytes from an offset on
abbrev pub from_place : Option (List ℕ) → ℕ → Option (List ℕ)
from_place known at = option_map (drop at) known

-- the offset after an extent
abbrev pub extent_end : Extent → ℕ
extent_end extent = extent.at + 8 * body_words extent.size

-- the regions are not too large, and all offsets fit in 64 bits
pub record IsExtent (extent : Extent) : Type 0 where
  pub log : extent.size.region_log ≤ 20
  pub inside : extent_end extent < 2 ^ 64

-- the first regions of an extent, and the others with the numbers
pub record AreTwoParts (extent low high : Extent) : Type 0 where
  pub low_log : low.size.region_log ≡ extent.size.region_log
  pub high_log : high.size.region_log ≡ extent.size.region_log
  pub at : low.at ≡ extent.at
  pub behind : high.at ≡ extent_end low
  pub count : low.size.regions + high.size.regions ≡ extent.size.regions
  pub none : low.size.numbers ≡ 0
  pub numbers : high.size.numbers ≡ extent.size.numbers
  pub end : extent_end high ≡ extent_end extent

-- the regions of both bodies, in order, and the numbers of the second
pub record AreJoined (first second whole : Body) : Type 0 where
  pub regions : whole.regions.items ≡ first.regions.items ++ second.regions.items
  pub tail : whole.tail.items ≡ second.tail.items

-- this is the body in an extent of these bytes, if the bytes are known
abbrev pub IsBodyOf : Option (List ℕ) → Extent → Body → Type 0
IsBodyOf known extent body = IsBody extent.size (from_place known extent.at) (from_place known (extent_end extent)) body
