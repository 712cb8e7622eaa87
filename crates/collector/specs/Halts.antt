-- Why workers end before all regions to fill are settled.
use Rattle.std.specs.Prelude.{◌≡◌, ℕ, ◌<◌, Option, Some, None, Result, Ok, Err}
use Rattle.object_heap.specs.HeapImage.{HeapImage}
use Rattle.image_streams.specs.declared.fault.Fault.{Fault}
use Rattle.image_streams.specs.declared.fault.Fault.TheVariants.{Gate}
use Rattle.summary.specs.RegionData.{fill_count}
use Rattle.collector.specs.declared.workers.end.End.{End}
use Rattle.collector.specs.declared.workers.end.End.TheVariants.{Stopped, Failed}

-- one of the first `regions` regions may be refused
abbrev pub MayBeRefused : (ℕ → Type 0) → ℕ → Type 0
MayBeRefused may_refuse regions = (r : ℕ) × (r < regions) × may_refuse r

-- one of the workers may be refused one of the image's regions to fill
abbrev pub MayRefuse : (ℕ → ℕ → Type 0) → ℕ → HeapImage → Type 0
MayRefuse may_refuse workers image = MayBeRefused (λ r. MayBeRefused (λ n. may_refuse n r) workers) (fill_count image)

-- the gate refuses a worker one of the first `regions` regions
abbrev pub IsRefused : (ℕ → Type 0) → ℕ → Fault → Type 0
IsRefused may_refuse regions fault = (fault ≡ Gate) × MayBeRefused may_refuse regions

-- a worker is stopped by another's refusal, or is refused itself
abbrev pub MayEndEarly : (ℕ → Type 0) → ℕ → End → Type 0
MayEndEarly may_refuse regions (Stopped held) = Unit {0}
MayEndEarly may_refuse regions (Failed fault) = IsRefused may_refuse regions fault

-- the fault that a worker with this end has met itself
unfoldable pub met_fault : Result Unit End → Option Fault
met_fault (Ok _) = None
met_fault (Err (Stopped held)) = None
met_fault (Err (Failed fault)) = Some fault

-- a collection of the image by `workers` workers is lost to the gate, which may refuse
abbrev pub IsLostTo : (ℕ → ℕ → Type 0) → ℕ → HeapImage → Fault → Type 0
IsLostTo may_refuse workers image fault = (fault ≡ Gate) × MayRefuse may_refuse workers image
