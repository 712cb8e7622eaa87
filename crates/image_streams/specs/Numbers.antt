-- Numbers as bytes, little endian.
use Rattle.std.specs.Prelude.{ℕ, ◌+◌, List, flat_map, slice_range}
use Rattle.std.specs.Int.{w32, w64, to_le_bytes, from_le_bytes}

-- numbers of eight bytes each
abbrev pub numbers : List ℕ → List ℕ
numbers xs = flat_map (to_le_bytes w64) xs

-- the number of four bytes at an offset
abbrev pub u32_at : List ℕ → ℕ → ℕ
u32_at bytes offset = from_le_bytes w32 (slice_range bytes offset (offset + 4))

-- the number of eight bytes at an offset
abbrev pub u64_at : List ℕ → ℕ → ℕ
u64_at bytes offset = from_le_bytes w64 (slice_range bytes offset (offset + 8))
