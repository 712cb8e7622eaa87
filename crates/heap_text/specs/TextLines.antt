-- The lines of a text, and which of them an error names.
use Rattle.std.specs.Prelude.{⊤, ◌≡◌, ℕ, ◌+◌, ◌≤◌, ◌==◌, List, count_by, length, take}
use Rattle.heap_text.specs.declared.error.TextError.{TextError}
use Rattle.heap_text.specs.declared.error.TextError.TheVariants.{Memory, Line}
use Rattle.heap_text.specs.declared.error.AssembleError.{AssembleError}
use Rattle.heap_text.specs.declared.error.AssembleError.TheVariants.{Device, Text}

-- how many lines have a newline
abbrev pub ended_lines : List ℕ → ℕ
ended_lines bytes = count_by (λ b. b == 10) bytes

-- the number of a line of the text, counted from 1, or of the line after the last
abbrev pub IsLineOf : List ℕ → ℕ → Type 0
IsLineOf bytes line = (1 ≤ line) × (line ≤ ended_lines bytes + 1)

abbrev pub IsWithin : List ℕ → TextError → Type 0
IsWithin bytes Memory = ⊤
IsWithin bytes (Line line _) = IsLineOf bytes line

abbrev pub IsAbout : List ℕ → AssembleError → Type 0
IsAbout bytes Device = ⊤
IsAbout bytes (Text error) = IsWithin bytes error

abbrev pub IsOfNoLine : AssembleError → Type 0
IsOfNoLine Device = ⊤
IsOfNoLine (Text Memory) = ⊤
IsOfNoLine (Text (Line _ _)) = ⊥

-- if the error names a line, it is this one
abbrev pub IsOfLine : ℕ → TextError → Type 0
IsOfLine line Memory = ⊤
IsOfLine line (Line other _) = other ≡ line

-- the first `seen` bytes of a text end in this line, counted from 1, whose first byte is at `begin`
pub record EndsInLine (bytes : List ℕ) (seen line begin : ℕ) : Type 0 where
  pub within : seen ≤ length bytes
  pub begun : begin ≤ seen
  pub some : 1 ≤ line
  pub few : line ≤ seen + 1
  pub counted : line ≤ ended_lines (take seen bytes) + 1
