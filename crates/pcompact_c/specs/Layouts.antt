-- Faults of the numbers of a host's layout.
use Rattle.std.specs.Prelude.{◌≡◌, ◌⊎◌, ◌<◌, ℕ, Some}
use Rattle.image_streams.specs.declared.fault.Fault.TheVariants.{Length}
use Rattle.object_coding.specs.LayoutFault.{layout_fault}
use Rattle.object_coding.specs.declared.layout_fault.LayoutFault.{LayoutFault}
use Rattle.object_coding.specs.declared.layout_fault.LayoutFault.TheVariants.{SizeField, NarrowSize, TypeField, FirstField, Mode, Addresses, FillerTag, FillerSize}
use Rattle.object_coding.specs.declared.object_layout.ObjectLayout.{ObjectLayout}
use Rattle.pcompact_c.specs.Faults.{IsOf}
use Rattle.pcompact_c.specs.declared.fault.PcompactFault.{PcompactFault}

-- the number by which C knows what is wrong with a layout
abbrev pub rule_of : LayoutFault → ℕ
rule_of SizeField = 1
rule_of NarrowSize = 2
rule_of TypeField = 3
rule_of FirstField = 4
rule_of Mode = 5
rule_of Addresses = 6
rule_of FillerTag = 7
rule_of FillerSize = 8

-- the C struct is this fault of a layout
pub record IsOfLayout (fault : LayoutFault) (c : PcompactFault) : Type 0 where
  pub number : c.number ≡ 18
  pub field : c.field ≡ rule_of fault
  pub place : c.place ≡ 0

-- the C struct says why the layout fits no heap of this number of words: they are too many, or it is the first fault of the layout
abbrev pub IsLayoutFault : ObjectLayout → ℕ → PcompactFault → Type 0
IsLayoutFault layout words c = ((68719476736 < words) × IsOf Length c) ⊎ ((fault : LayoutFault) × (layout_fault layout words ≡ Some fault) × IsOfLayout fault c)
