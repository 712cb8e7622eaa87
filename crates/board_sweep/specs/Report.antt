-- The report of a sweep by two workers.
use Rattle.std.specs.Prelude.{◌≡◌, ℕ, zero, suc, true, ◌==◌, if◌then◌else◌, List, [], ◌∷◌, ◌++◌, codes, decimal, count_by}
use Rattle.scheduler.specs.declared.entry.Entry.{Entry}
use Rattle.scheduler.specs.MoveTable.{MoveTable, region_count}
use Rattle.scheduler.specs.State.{unsettled}
use Rattle.scheduler.specs.History.{IsLegal, is_grant, state_of}
use Rattle.board_sweep.specs.Tallies.{completes}

-- the line of a region with its numbers of claims and completions
abbrev pub sweep_line : ℕ → ℕ → ℕ → List ℕ
sweep_line region claims completions =
    codes "region " ++ (decimal region ++ (codes " claims " ++ (decimal claims
    ++ (codes " completions " ++ (decimal completions ++ codes "\n")))))

-- the lines of the first regions, with the numbers of claims and completions of each
abbrev pub lines_of : ℕ → (ℕ → ℕ) → (ℕ → ℕ) → List ℕ
lines_of zero claims completions = []
lines_of (suc r) claims completions = lines_of r claims completions ++ sweep_line r (claims r) (completions r)

-- a line for each region, and `all settled` if all regions to be filled are settled
abbrev pub report_of : MoveTable → List Entry → List ℕ
report_of m calls =
    lines_of (region_count m) (λ r. count_by (is_grant r) calls) (λ r. count_by (completes r) calls)
    ++ (if unsettled m (state_of calls) == 0 then codes "all settled\n" else [])

-- three regions to be filled; region 0 takes words of region 1, and region 1 of region 2
abbrev pub three_regions : MoveTable
three_regions = record { fill = true ∷ true ∷ true ∷ []; pairs = (0, 1) ∷ (1, 2) ∷ [] }

-- the report of some legal history of two workers
abbrev pub IsReportOf : MoveTable → List ℕ → Type 0
IsReportOf m text = (calls : List Entry) × IsLegal m 2 calls × (text ≡ report_of m calls)

-- the report of some legal history of two workers over the three regions
abbrev pub IsBoardText : List ℕ → Type 0
IsBoardText text = IsReportOf three_regions text
