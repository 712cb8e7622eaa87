-- What holds of the numbers of a coding.
use Rattle.std.specs.Prelude.{◌≡◌, ℕ, ◌-◌, ◌^◌, ◌<◌, ◌≤◌}
use Rattle.object_heap.specs.Layout.{IsCoding}
use Rattle.object_coding.specs.declared.object_layout.ObjectLayout.{ObjectLayout}
use Rattle.object_coding.specs.ObjectLayout.{coding_of, FitsHeaders}

-- The numbers fit headers, and fit each other for a heap of this number of words. These are the masks of their fields.
pub record AreFit (layout : ObjectLayout) (words size_mask type_mask first_mask : ℕ) : Type 0 where
  pub few : words ≤ 68719476736
  pub headers : FitsHeaders layout
  pub lawful : IsCoding (coding_of layout words) words
  pub unit_of_size_low : layout.size_unit < 32
  pub of_size : size_mask ≡ 2 ^ layout.size_bits - 1
  pub of_type : type_mask ≡ 2 ^ layout.type_bits - 1
  pub of_first : first_mask ≡ 2 ^ layout.first_bits - 1
