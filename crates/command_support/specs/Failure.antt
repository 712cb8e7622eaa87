use Rattle.std.specs.Prelude.{ℕ}
use Rattle.dump_records.specs.declared.error.ImportError.{ImportError}
use Rattle.heap_maker.specs.declared.error.GenerationError.{GenerationError}
use Rattle.heap_text.specs.declared.error.TextError.{TextError}
use Rattle.image_streams.specs.declared.fault.Fault.TheVariants.{Memory, Io}
use Rattle.command_support.specs.declared.failure.Failure.{Failure}
use Rattle.command_support.specs.declared.failure.Failure.TheVariants.{Usage, Fault, Differs, Dump, Generation, Text, Later}

-- the exit status of a failure
abbrev pub status_of : Failure → ℕ
status_of (Usage text) = 2
status_of (Fault fault) = 1
status_of (Differs difference) = 1
status_of (Dump error) = 1
status_of (Generation GenerationError.Defect) = 1
status_of (Generation error) = 2
status_of (Text error) = 1
status_of (Later version wanted) = 1

-- the failure if memory runs out
abbrev pub out_of_memory : Failure
out_of_memory = Fault Memory

-- the failure of a device
abbrev pub failed_device : Failure
failed_device = Fault Io

-- the failure of a dump that gives no image
abbrev pub failure_of : ImportError → Failure
failure_of ImportError.Input = failed_device
failure_of ImportError.Memory = out_of_memory
failure_of error = Dump error

-- the failure of a request for a heap that can't be made
abbrev pub generation_failure : GenerationError → Failure
generation_failure GenerationError.Memory = out_of_memory
generation_failure error = Generation error

-- the failure of a text that isn't a heap's
abbrev pub text_failure : TextError → Failure
text_failure TextError.Memory = out_of_memory
text_failure error = Text error
