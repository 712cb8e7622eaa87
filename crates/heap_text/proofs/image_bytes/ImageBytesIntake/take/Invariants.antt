use Rattle.std.proofs.Common.{◌≡◌, ◌++◌, take}
use Rattle.heap_text.specs.ImageBytes.{bytes_left}
use Rattle.heap_text.proofs.image_bytes.ImageBytesIntake.take.Given as goal

-- the bytes so far were those that are no longer left
abbrev pub invariant-loop-count : goal.invariant-loop-count
invariant-loop-count l = bytes_left l.fn.self ≡ take l.count l.buffer ++ bytes_left l.self
