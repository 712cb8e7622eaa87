use Rattle.std.proofs.Common.{◌≡◌, ◌++◌, ◌+◌, drop}
use Rattle.std.specs.Prelude.{string_bytes}
use Rattle.object_pairs.specs.Text.{rows_from}
use Rattle.object_pairs.proofs.text.push_rows.Given as goal

-- what is written and what is left make the whole
abbrev pub invariant-loop-index : goal.invariant-loop-index
invariant-loop-index l = string_bytes l.text ++ rows_from (l.index + 1) (drop l.index l.spaces) ≡ string_bytes l.fn.text ++ rows_from 1 l.spaces
