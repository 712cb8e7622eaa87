-- How far the reading or writing of a file is, as a line.
use Rattle.std.specs.Prelude.{ℕ, ◌-◌, ◌*◌, ◌/◌, ◌%◌, ◌==◌, ◌||◌, max, min, if◌then◌else◌, List, ◌++◌, Option, None, Some, codes, decimal}
use Rattle.command_times.specs.declared.phase.Phase.{Phase}
use Rattle.command_times.specs.declared.phase.Phase.TheVariants.{Read, ReadAgain, Check, Prepare, Fills, CleanUp, Write, Schedule, ReadBefore, CheckBefore, ReadAfter, CheckAfter, Compare}
use Rattle.command_times.specs.declared.meter.transfer.Transfer.{Transfer}

-- the name of a phase
abbrev pub phase_text : Phase → List ℕ
phase_text Read = codes "read"
phase_text ReadAgain = codes "read again"
phase_text Check = codes "check"
phase_text Prepare = codes "prepare"
phase_text Fills = codes "fills"
phase_text CleanUp = codes "clean-up"
phase_text Write = codes "write"
phase_text Schedule = codes "schedule"
phase_text ReadBefore = codes "read BEFORE"
phase_text CheckBefore = codes "check BEFORE"
phase_text ReadAfter = codes "read AFTER"
phase_text CheckAfter = codes "check AFTER"
phase_text Compare = codes "compare"

-- tenths of a per cent of all bytes, or where their number isn't known tenths of a MiB, rounded down
abbrev pub tenths_of : ℕ → Option ℕ → ℕ
tenths_of done (Some whole) = min done whole * 1000 / max whole 1
tenths_of done None = done * 10 / 1048576

abbrev pub unit_of : Option ℕ → List ℕ
unit_of (Some whole) = codes "per cent"
unit_of None = codes "MiB"

-- how much is done, with one digit after the point
abbrev pub amount_text : ℕ → Option ℕ → List ℕ
amount_text done whole =
    decimal (tenths_of done whole / 10) ++ (codes "." ++ (decimal (tenths_of done whole % 10) ++ (codes " " ++ unit_of whole)))

-- bytes a second after `took` milliseconds, rounded down; unknown if that is 0
abbrev pub rate_of : ℕ → ℕ → Option ℕ
rate_of done took = if took == 0 || done * 1000 / max took 1 == 0 then None else Some (done * 1000 / max took 1)

-- how many seconds the rest takes at this rate, rounded down
abbrev pub left_of : ℕ → Option ℕ → Option ℕ → Option ℕ
left_of done (Some whole) (Some rate) = Some ((whole - done) / rate)
left_of done (Some whole) None = None
left_of done None rate = None

abbrev pub line_of : List ℕ → List ℕ → Option ℕ → Option ℕ → List ℕ
line_of phase amount (Some rate) (Some left) =
    phase ++ (codes " " ++ (amount ++ (codes ", " ++ (decimal (rate / 1048576) ++ (codes " MiB a second, " ++ (decimal left ++ codes " s left"))))))
line_of phase amount (Some rate) None =
    phase ++ (codes " " ++ (amount ++ (codes ", " ++ (decimal (rate / 1048576) ++ codes " MiB a second"))))
line_of phase amount None left = phase ++ (codes " " ++ amount)

-- the phase, how much is done, MiB a second, and the seconds that are left
abbrev pub transfer_text : Transfer → List ℕ
transfer_text transfer =
    let rate = rate_of transfer.done transfer.took in
    line_of (phase_text transfer.phase) (amount_text transfer.done transfer.whole) rate (left_of transfer.done transfer.whole rate)
