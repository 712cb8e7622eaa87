-- What may be wrong with the numbers of a layout, for a heap of a number of words.
use Rattle.std.specs.Prelude.{ℕ, ◌+◌, ◌*◌, ◌/◌, ◌%◌, ◌^◌, ◌==◌, Bool, not, ◌&&◌, ◌||◌, nat_lt, nat_le, if◌then◌else◌, Option, None, Some}
use Rattle.std.specs.List.{list_all}
use Rattle.object_coding.specs.declared.object_layout.ObjectLayout.{ObjectLayout}
use Rattle.object_coding.specs.declared.layout_fault.LayoutFault.{LayoutFault}
use Rattle.object_coding.specs.declared.layout_fault.LayoutFault.TheVariants.{SizeField, NarrowSize, TypeField, FirstField, Mode, Addresses, FillerTag, FillerSize}

-- these bits from this one on lie in a header, and leave a bit of it
abbrev pub is_field : ℕ → ℕ → Bool
is_field shift bits = nat_lt shift 64 && (nat_lt bits 64 && nat_le (shift + bits) 64)

module _ (layout : ObjectLayout) where
  -- the size can't count the units of 2147483648 words
  unfoldable pub is_narrow : Bool
  is_narrow = nat_le (2 ^ layout.size_bits) (2 ^ layout.size_unit * 2147483648)

  -- each mode is none, all, or the first ones
  unfoldable pub knows_modes : Bool
  knows_modes = list_all (λ mode. nat_le mode 2) layout.modes

  -- the words that lead to addresses end within 64 bits
  unfoldable pub reaches : ℕ → Bool
  reaches words = nat_lt layout.unit 64 && nat_le (layout.base + 2 ^ layout.unit * words) (2 ^ 64)

  -- the tag of a filler is 0 where the size is
  unfoldable pub clears_size : Bool
  clears_size = layout.filler_tag / 2 ^ layout.size_shift % 2 ^ layout.size_bits == 0

  -- the size of a filler, with what it lacks, reads back
  unfoldable pub reads_back : Bool
  reads_back = nat_le layout.filler_less layout.size_more
      && (nat_lt layout.size_more (layout.filler_less + 2 ^ layout.size_unit) && nat_le layout.filler_less (2 ^ layout.size_unit))

  -- the first of what is wrong, if anything is
  abbrev pub layout_fault : ℕ → Option LayoutFault
  layout_fault words =
      if not (is_field layout.size_shift layout.size_bits) then Some SizeField else
      if is_narrow then Some NarrowSize else
      if not (is_field layout.type_shift layout.type_bits) || nat_lt 8 layout.type_bits then Some TypeField else
      if not (is_field layout.first_shift layout.first_bits) then Some FirstField else
      if not knows_modes then Some Mode else
      if not (reaches words) then Some Addresses else
      if not clears_size then Some FillerTag else
      if not reads_back then Some FillerSize else None
