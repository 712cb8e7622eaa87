use Rattle.std.proofs.Common.{◌≡◌, ◌≤◌, length, drop}
use Rattle.heap_text.specs.Text.{lines_from}
use Rattle.heap_text.proofs.spelling.check_heap_lines.Given as goal

-- what is left is right if all was, and all is right if what is left is
abbrev pub invariant-loop-place : goal.invariant-loop-place
invariant-loop-place l = record {
  within : length l.rest ≤ length l.text;
  same : l.rest ≡ lines_from l.image l.from (drop l.place-index l.place-items) → l.after_front ≡ lines_from l.image 0 l.image.live;
  accepts : l.after_front ≡ lines_from l.image 0 l.image.live → l.rest ≡ lines_from l.image l.from (drop l.place-index l.place-items);
}
