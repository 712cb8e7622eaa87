-- Which line of a text is malformed.
use Rattle.std.specs.Prelude.{◌≡◌, ◌≢◌, ℕ, ◌+◌, ◌≤◌, Bool, ◌&&◌, ◌⊎◌, IsTrue, All, List, [], ◌++◌, length}
use Rattle.scheduler.specs.Schedule.{ScheduleView, is_line}
use Rattle.history.specs.ScheduleText.{line_text, header_text, schedule_text}
use Rattle.history.specs.Verb.{has_numbers}
use Rattle.scheduler.specs.declared.schedule.line.Line.{Line}

-- a line of a worker below this number, with numbers that a text may have
abbrev pub is_text_line : ℕ → Line → Bool
is_text_line workers line = is_line workers line && has_numbers line.event

-- a schedule whose lines a text may have
pub record IsTextSchedule (v : ScheduleView) : Type 0 where
  pub some : 1 ≤ v.workers
  pub few : v.workers ≤ 64
  pub lines : All (λ line. IsTrue (is_text_line v.workers line)) v.lines

-- the text doesn't begin with a header
pub record IsBadHeader (bytes : List ℕ) (line : ℕ) : Type 0 where
  pub first : line ≡ 1
  pub none : (workers : ℕ) (rest : List ℕ) → 1 ≤ workers → workers ≤ 64 → bytes ≢ header_text workers ++ rest

-- The text begins with the text of a schedule of all lines before this one. The rest isn't empty and doesn't begin with
-- a line.
pub record IsBadLine (bytes : List ℕ) (line : ℕ) : Type 0 where
  pub workers : ℕ
  pub lines : List Line
  pub rest : List ℕ
  pub before : IsTextSchedule (record { workers = workers; lines = lines })
  pub is : bytes ≡ schedule_text (record { workers = workers; lines = lines }) ++ rest
  pub some : rest ≢ []
  pub number : line ≡ length lines + 2
  pub none : (next : Line) (after : List ℕ) → IsTrue (is_text_line workers next) → rest ≢ line_text next ++ after

-- the first malformed line, counted from 1
abbrev pub IsMalformedAt : List ℕ → ℕ → Type 0
IsMalformedAt bytes line = IsBadHeader bytes line ⊎ IsBadLine bytes line
