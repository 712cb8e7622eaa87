-- The result of a collection, and its refusals.
use Rattle.std.specs.Prelude.{◌≡◌, ℕ, ◌<◌, ◌⊎◌}
use Rattle.object_heap.specs.HeapImage.{HeapImage}
use Rattle.image_streams.specs.declared.fault.Fault.{Fault}
use Rattle.summary.specs.NewAddresses.{prefix_end, new_top}
use Rattle.summary.specs.RegionData.{fill_count}
use Rattle.collector.specs.declared.outcome.Figures.{Figures}
use Rattle.collector.specs.declared.outcome.Refusal.{Refusal}
use Rattle.collector.specs.declared.outcome.Refusal.TheVariants.{Kept, Lost}

-- the figures of the collection of an image
abbrev pub figures_of : HeapImage → Figures
figures_of image = record { prefix_end = prefix_end image; new_top = new_top image; filled = fill_count image }

-- not 1 to 64
abbrev pub AreNoneOrTooMany : ℕ → Type 0
AreNoneOrTooMany workers = (workers ≡ 0) ⊎ (64 < workers)

-- if the image is kept, the fact holds of it and of the fault
abbrev pub IfKept : Refusal → (HeapImage → Fault → Type 0) → Type 0
IfKept (Kept image fault) fact = fact image fault
IfKept (Lost fault) fact = Unit {0}

-- if the image is lost, the fact holds of the fault
abbrev pub IfLost : Refusal → (Fault → Type 0) → Type 0
IfLost (Kept image fault) fact = Unit {0}
IfLost (Lost fault) fact = fact fault

-- the fault of a refusal
abbrev pub fault_of : Refusal → Fault
fault_of (Kept image fault) = fault
fault_of (Lost fault) = fault
