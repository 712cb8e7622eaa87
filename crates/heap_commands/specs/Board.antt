use Rattle.std.specs.Prelude.{◌≡◌, ℕ, Bool, true, false, List, ◌++◌, codes}
use Rattle.board_sweep.specs.Report.{IsBoardText}
use Rattle.command_support.specs.Command.{Command}

-- the report, with `--steps` after other lines
abbrev pub IsBoardShown : Bool → List ℕ → Type 0
IsBoardShown false shown = IsBoardText shown
IsBoardShown true shown = (steps : List ℕ) × (report : List ℕ) × IsBoardText report × (shown ≡ steps ++ report)

-- such a text
abbrev pub IsBoard : List ℕ → Type 0
IsBoard shown = (steps : Bool) × IsBoardShown steps shown

abbrev pub board_command : Command
board_command = record { name = codes "board"; prints = IsBoard }
