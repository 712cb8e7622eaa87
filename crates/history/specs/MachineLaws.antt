-- What the proofs of the word machine use of other laws. A lemma is handed these by a function that calls `machine_laws`.
use Rattle.std.specs.Prelude.{◌≡◌, ℕ, ◌<◌, ◌≤◌, not, ◌==◌, ◌&&◌, IsTrue, List}
use Rattle.object_heap.specs.HeapImage.{HeapImage, IsValid}
use Rattle.summary.specs.WordMoves.{reads as image_reads}
use Rattle.summary.specs.PlanLaws.{PlanLaws}
use Rattle.scheduler.specs.MoveTable.{MoveTable, IsMoveTable, reads}
use Rattle.scheduler.specs.State.{State, IsStep}
use Rattle.scheduler.specs.History.{IsLegal, IsReached, CountsDown, state_of}
use Rattle.scheduler.specs.ImageMoves.{image_table}
use Rattle.scheduler.specs.Schedule.{is_line, line_of}
use Rattle.scheduler.specs.PackedLine.{IsSmall}
use Rattle.history.specs.Slide.{IsSlideOf}
use Rattle.history.specs.WordMachine.{image_slide}
use Rattle.scheduler.specs.declared.entry.Entry.{Entry}
use Rattle.scheduler.specs.declared.schedule.line.Line.{Line}

pub record MachineLaws : Type 0 where
  pub plan : PlanLaws
  -- the table of an image
  pub lawful : (image : HeapImage) → IsValid image → IsMoveTable (image_table image)
  pub reads : (image : HeapImage) → IsValid image → (d s : ℕ) → reads (image_table image) d s ≡ (not (d == s) && image_reads image d s)
  pub slides : (image : HeapImage) → IsValid image → IsSlideOf (image_table image) (image_slide image)
  pub counts : (m : MoveTable) (now : State) → IsMoveTable m → CountsDown m now
  -- legal histories, and their calls as lines
  pub reached : (m : MoveTable) (workers : ℕ) (log : List Entry) → IsLegal m workers log → IsReached m (state_of log)
  pub call : (m : MoveTable) (workers : ℕ) (old new : State) (e : Entry) → IsMoveTable m → e.worker < workers → IsStep m old e.worker e.event e.reply new → IsTrue (is_line workers (line_of e))
  pub small : (workers : ℕ) (line : Line) → workers ≤ 64 → IsTrue (is_line workers line) → IsSmall line
