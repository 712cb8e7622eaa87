use Rattle.std.proofs.Common.{◌≡◌, ◌++◌, ◌+◌, drop}
use Rattle.std.specs.Prelude.{string_bytes}
use Rattle.heap_commands.specs.Histogram.{rows_from}
use Rattle.heap_commands.proofs.import.histogram.push_rows.Given as goal

-- what is written and what is left make the whole
abbrev pub invariant-loop-index : goal.invariant-loop-index
invariant-loop-index l =
    string_bytes l.text ++ rows_from l.names (l.index + 1) (drop l.index l.classes) ≡ string_bytes l.fn.text ++ rows_from l.names 1 l.classes
