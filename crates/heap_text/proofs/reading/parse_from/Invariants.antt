use Rattle.std.proofs.Common.{◌≡◌, ◌<◌, ◌-◌, ◌^◌, ℕ, List, Some, vec_len}
use Rattle.object_heap.specs.HeapImage.{HeapImage, IsValid}
use Rattle.heap_text.specs.Parsing.{IsWaiting}
use Rattle.heap_text.specs.Text.{text_of}
use Rattle.std.specs.Io.KnownBytes.{Consumes}
use Rattle.heap_text.specs.TextLines.{EndsInLine}
use Rattle.heap_text.proofs.reading.parse_from.Given as goal

abbrev pub invariant-loop-parser : goal.invariant-loop-parser
invariant-loop-parser g l = record {
  room : 0 < vec_len l.piece;
  seen : l.seen ≡ vec_len l.text;
  came : Consumes (g.R.Intake.left l.initial.device) (g.R.Intake.left l.device) l.text.items;
  stands : EndsInLine l.text.items l.seen l.parser.line l.parser.begin;
  waits : (image : HeapImage) (left : List ℕ) → IsValid image → g.R.Intake.left l.initial.device ≡ Some (text_of image)
      → g.R.Intake.left l.device ≡ Some left → IsWaiting image l.parser l.text.items l.seen left;
}

abbrev pub decreases-loop-parser : goal.decreases-loop-parser
decreases-loop-parser g l = 2 ^ 64 - vec_len l.text
