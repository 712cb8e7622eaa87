-- What the numbers of a layout mean.
use Rattle.std.specs.Prelude.{ℕ, ◌+◌, ◌^◌, ◌<◌, ◌≤◌, All, take}
use Rattle.object_heap.specs.Layout.{Coding}
use Rattle.object_coding.specs.declared.object_layout.ObjectLayout.{ObjectLayout}

-- The coding by these numbers, for a heap of this number of words. It has the modes of as many types as the type's bits
-- allow.
abbrev pub coding_of : ObjectLayout → ℕ → Coding
coding_of layout words = record {
  size_shift = layout.size_shift;
  size_bits = layout.size_bits;
  size_more = layout.size_more;
  size_unit = layout.size_unit;
  type_shift = layout.type_shift;
  type_bits = layout.type_bits;
  modes = take (2 ^ layout.type_bits) layout.modes;
  first_shift = layout.first_shift;
  first_bits = layout.first_bits;
  base = layout.base;
  unit = layout.unit;
  count = words;
  filler_tag = layout.filler_tag;
  filler_less = layout.filler_less;
}

-- these bits from this one on lie in a header, and are not all of it
pub record IsField (shift bits : ℕ) : Type 0 where
  pub shift_low : shift < 64
  pub bits_low : bits < 64
  pub inside : shift + bits ≤ 64

-- each field lies in a header, each type has a mode that is known, and addresses lie less than 2 ^ 64 apart
pub record FitsHeaders (layout : ObjectLayout) : Type 0 where
  pub of_size : IsField layout.size_shift layout.size_bits
  pub of_type : IsField layout.type_shift layout.type_bits
  pub few_types : layout.type_bits ≤ 8
  pub of_first : IsField layout.first_shift layout.first_bits
  pub modes : All (λ mode. mode ≤ 2) layout.modes
  pub unit_low : layout.unit < 64
