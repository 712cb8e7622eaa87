use Rattle.std.proofs.Common.{ℕ, ◌-◌, List, length}
use Rattle.object_heap.specs.HeapImage.{HeapImage, IsValid}
use Rattle.heap_text.specs.Parsing.{IsWaiting}
use Rattle.heap_text.specs.TextLines.{EndsInLine}
use Rattle.heap_text.proofs.text_parser.TextParser.parse_lines.Given as goal

abbrev pub invariant-loop-ahead : goal.invariant-loop-ahead
invariant-loop-ahead l = record {
  stands : EndsInLine l.text l.place l.self.line l.self.begin;
  waits : (image : HeapImage) (more : List ℕ) → IsValid image → IsWaiting image l.fn.self l.text l.seen more → IsWaiting image l.self l.text l.place more;
}

abbrev pub decreases-loop-ahead : goal.decreases-loop-ahead
decreases-loop-ahead l = length l.text - l.place
