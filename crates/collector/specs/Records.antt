-- Why a recorded collection is lost.
use Rattle.std.specs.Prelude.{◌≡◌, ◌⊎◌, ℕ}
use Rattle.image_streams.specs.declared.fault.Fault.{Fault}
use Rattle.image_streams.specs.declared.fault.Fault.TheVariants.{Memory, Schedule, Gate}

-- a line of the schedule is at fault
abbrev pub IsOfSchedule : Fault → Type 0
IsOfSchedule fault = (line : ℕ) × (fault ≡ Schedule line)

-- the gate refused, memory for a line ran out, or a line is at fault
abbrev pub IsLoss : Fault → Type 0
IsLoss fault = (fault ≡ Gate) ⊎ ((fault ≡ Memory) ⊎ IsOfSchedule fault)
