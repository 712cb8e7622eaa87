-- What a result says about the failure of a device.
use Rattle.std.specs.Prelude.{Bool, true, false, Result, Ok, Err}
use Rattle.image_streams.specs.declared.fault.Fault.{Fault}
use Rattle.image_streams.specs.declared.fault.Fault.TheVariants.{Io}

-- whether the result is the fault of a device
abbrev pub is_io : {A : Type 0} → Result A Fault → Bool
is_io (Ok _) = false
is_io (Err Io) = true
is_io (Err _) = false
