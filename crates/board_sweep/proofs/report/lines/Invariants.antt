use Rattle.std.proofs.Common.{◌≡◌, ◌+◌, string_bytes}
use Rattle.board_sweep.specs.Report.{lines_of}
use Rattle.board_sweep.specs.Tallies.{claims_in, completions_in}
use Rattle.board_sweep.proofs.report.lines.Given as goal

-- the lines so far
abbrev pub invariant-loop-region : goal.invariant-loop-region
invariant-loop-region l = string_bytes l.text ≡ lines_of l.region-counter (λ r. claims_in l.first r + claims_in l.second r) (λ r. completions_in l.first r + completions_in l.second r)
