-- What `compare` prints.
use Rattle.std.specs.Prelude.{ℕ, Bool, List, codes}
use Rattle.object_pairs.specs.Report.{IsReportOf}
use Rattle.object_pairs.specs.declared.comparison.Verdict.{Verdict}
use Rattle.object_pairs.specs.declared.graph.Graph.{Graph}
use Rattle.command_support.specs.Command.{Command}

-- the report of a comparison of some two graphs
abbrev pub IsCompared : List ℕ → Type 0
IsCompared shown = (before : Graph) × (after : Graph) × (json : Bool) × (verdict : Verdict) × IsReportOf before after json shown verdict

abbrev pub compare_command : Command
compare_command = record { name = codes "compare"; prints = IsCompared }
