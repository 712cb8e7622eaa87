use Rattle.std.proofs.Common.{◌≡◌, ◌++◌, drop}
use Rattle.heap_text.specs.Text.{lines_from}
use Rattle.heap_text.proofs.writing.write_lines.Given as goal

-- what is written and what is left make the whole
abbrev pub invariant-loop-place : goal.invariant-loop-place
invariant-loop-place l = l.text.items ++ lines_from l.image l.from (drop l.place-index l.place-items) ≡ l.fn.text.items ++ lines_from l.image 0 l.image.live
