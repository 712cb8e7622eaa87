use Rattle.std.proofs.Common.{◌≡◌}
use Rattle.std.specs.Prelude.{flat_map, string_bytes}
use Rattle.std.specs.List.{range_with_len}
use Rattle.summary.specs.RegionData.{region_data}
use Rattle.summary.specs.Report.{row_of}
use Rattle.summary.proofs.report_text.report_of_table.Given as goal

abbrev pub invariant-loop-r : goal.invariant-loop-r
invariant-loop-r l = string_bytes l.text ≡ flat_map (λ r. row_of r (region_data l.table r)) (range_with_len 0 l.r)
