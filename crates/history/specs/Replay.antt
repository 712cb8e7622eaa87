-- The result of a replay: the calls, or the first line that the word machine refuses.
use Rattle.std.specs.Prelude.{◌≡◌, ℕ, ◌+◌, ◌⊎◌, ◌↔◌, Bool, IsTrue, List, [], ◌∷◌, ◌++◌, length, Some, None}
use Rattle.object_heap.specs.HeapImage.{HeapImage}
use Rattle.scheduler.specs.State.{AllAreSettled}
use Rattle.scheduler.specs.Schedule.{ScheduleView}
use Rattle.scheduler.specs.ImageMoves.{image_table}
use Rattle.history.specs.Slide.{IsMachineStep}
use Rattle.history.specs.WordMachine.{image_slide, machine_of, IsAllowed}
use Rattle.scheduler.specs.declared.entry.Entry.{Entry}
use Rattle.scheduler.specs.declared.schedule.line.Line.{Line}

-- the call of the line, with the line's reply, or with any reply if the line leaves it open
pub record IsCallOfLine (line : Line) (e : Entry) : Type 0 where
  pub worker : e.worker ≡ line.worker
  pub event : e.event ≡ line.event
  pub reply : (line.reply ≡ None) ⊎ (line.reply ≡ Some e.reply)

-- the calls of the lines, one for each
abbrev pub AreCallsOf : List Line → List Entry → Type 0
AreCallsOf [] [] = Unit {0}
AreCallsOf (line ∷ lines) (e ∷ es) = IsCallOfLine line e × AreCallsOf lines es
AreCallsOf _ _ = ⊥

-- the calls of the lines with the replies of the word machine of the image, which allows them
pub record IsReplay (image : HeapImage) (workers : ℕ) (lines : List Line) (log : List Entry) : Type 0 where
  pub calls : AreCallsOf lines log
  pub allowed : IsAllowed image workers log

-- the word machine allows no call of this line after these calls
abbrev pub IsRefused : HeapImage → ℕ → List Entry → Line → Type 0
IsRefused image workers log line =
    (e : Entry) → IsCallOfLine line e → ¬ (IsMachineStep (image_table image) (image_slide image) workers (machine_of image log) e)

-- The first line of a schedule's text that the word machine refuses. It takes the lines before. Line 1 of the text is the
-- header.
pub record IsRefusedAt (image : HeapImage) (v : ScheduleView) (number : ℕ) : Type 0 where
  pub before : List Line
  pub line : Line
  pub after : List Line
  pub split : v.lines ≡ before ++ line ∷ after
  pub number_is : number ≡ length before + 2
  pub log : List Entry
  pub taken : IsReplay image v.workers before log
  pub refused : IsRefused image v.workers log line

-- the word machine takes all lines, and the flag says whether all regions to be filled are settled at the end
pub record IsChecked (image : HeapImage) (v : ScheduleView) (settled : Bool) : Type 0 where
  pub log : List Entry
  pub taken : IsReplay image v.workers v.lines log
  pub tells : IsTrue settled ↔ AllAreSettled (image_table image) (machine_of image log).known
