use Rattle.std.proofs.Common.{◌≡◌, ◌++◌, take}
use Rattle.std.specs.Prelude.{flat_map, string_bytes}
use Rattle.heap_dump.specs.ClassNames.{shown_byte}
use Rattle.heap_dump.proofs.listing.class_names.push_bytes.Given as goal

abbrev pub invariant-loop-byte : goal.invariant-loop-byte
invariant-loop-byte l = string_bytes l.line ≡ string_bytes l.initial.line ++ flat_map shown_byte (take l.byte-index l.name)
