use Rattle.std.proofs.Common.{◌+◌, ◌≤◌, length}
use Rattle.heap_text.specs.TextLines.{ended_lines}
use Rattle.heap_text.proofs.lines.line_of_address.Given as goal

abbrev pub invariant-loop-bytes : goal.invariant-loop-bytes
invariant-loop-bytes l = record {
  some : 1 ≤ l.found;
  before : l.found ≤ l.line;
  counted : l.line + ended_lines l.rest ≤ ended_lines l.text + 1;
}

abbrev pub decreases-loop-bytes : goal.decreases-loop-bytes
decreases-loop-bytes l = length l.rest
