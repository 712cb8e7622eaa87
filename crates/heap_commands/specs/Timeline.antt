use Rattle.std.specs.Prelude.{◌≡◌, ◌⊎◌, ℕ, List, Option, IfSome, codes}
use Rattle.std.specs.Io.KnownBytes.{Consumes}
use Rattle.object_heap.specs.HeapImage.{HeapImage, IsValid}
use Rattle.heap_image.specs.ImageText.{text}
use Rattle.scheduler.specs.Schedule.{ScheduleView}
use Rattle.history.specs.ScheduleText.{schedule_text}
use Rattle.schedule_timeline.specs.Page.{Has}
use Rattle.schedule_timeline.specs.TimelineFigures.{BeginsWithFigures, IsFiguresLine}
use Rattle.schedule_timeline.specs.Timeline.{IsTimelineOf}
use Rattle.schedule_timeline.specs.declared.timeline.Timeline.{Timeline}
use Rattle.command_support.specs.Command.{Command}
use Rattle.heap_commands.specs.declared.timeline.Form.{Form}
use Rattle.heap_commands.specs.declared.timeline.Form.TheVariants.{Page}

-- The first device gave the text of a valid image, and the second had that of a schedule. The timeline is that of the
-- schedule on the image.
pub record IsFollowed (left left' schedule : Option (List ℕ)) (timeline : Timeline) : Type 0 where
  pub image : HeapImage
  pub valid : IsValid image
  pub read : Consumes left left' (text image)
  pub lines : ScheduleView
  pub whole : IfSome schedule (λ bytes. bytes ≡ schedule_text lines)
  pub follows : IsTimelineOf image lines timeline

-- the text is the line with the figures of such a timeline, and its lanes
abbrev pub HasLanes : Option (List ℕ) → Option (List ℕ) → Option (List ℕ) → List ℕ → Type 0
HasLanes left left' schedule shown = (timeline : Timeline) × IsFollowed left left' schedule timeline × BeginsWithFigures timeline shown

-- the line with the figures of a timeline, and its picture; a page has the text of the schedule with all replies
pub record IsPictureOf (form : Form) (timeline : Timeline) (line picture : List ℕ) : Type 0 where
  pub figures : IsFiguresLine timeline line
  pub page : form ≡ Page → Has (schedule_text timeline.schedule) picture

-- such a line and such a picture, of a timeline that the devices give
abbrev pub HasPicture : Form → Option (List ℕ) → Option (List ℕ) → Option (List ℕ) → List ℕ → List ℕ → Type 0
HasPicture form left left' schedule line picture =
    (timeline : Timeline) × IsFollowed left left' schedule timeline × IsPictureOf form timeline line picture

-- the figures of some schedule on some valid image, with its lanes or alone
pub record IsTimeline (shown : List ℕ) : Type 0 where
  pub image : HeapImage
  pub valid : IsValid image
  pub schedule : ScheduleView
  pub timeline : Timeline
  pub follows : IsTimelineOf image schedule timeline
  pub printed : BeginsWithFigures timeline shown ⊎ IsFiguresLine timeline shown

abbrev pub timeline_command : Command
timeline_command = record { name = codes "timeline"; prints = IsTimeline }
