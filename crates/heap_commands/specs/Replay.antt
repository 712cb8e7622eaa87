use Rattle.std.specs.Prelude.{◌≡◌, ℕ, List, ◌++◌, Option, IfSome, codes}
use Rattle.std.specs.Io.KnownBytes.{Consumes}
use Rattle.object_heap.specs.HeapImage.{HeapImage, IsValid}
use Rattle.heap_image.specs.ImageText.{text}
use Rattle.scheduler.specs.Schedule.{ScheduleView}
use Rattle.history.specs.ScheduleText.{schedule_text}
use Rattle.history.specs.Replayed.{IsReplayed}
use Rattle.history.specs.declared.machine.replayed.End.{End}
use Rattle.history.specs.declared.machine.replayed.End.TheVariants.{Finished, Open}
use Rattle.history.specs.declared.machine.replayed.Replayed.{Replayed}
use Rattle.command_support.specs.Command.{Command}

-- the line that says how a replay ended
abbrev pub end_line : End → List ℕ
end_line (Finished image) = codes "finished\n"
end_line Open = codes "open\n"

-- The first device gave the text of a valid image, and the second had that of a schedule. The text printed is the replay of
-- the schedule on the image: its lines with their replies, and how it ended.
pub record IsReplayOf (left left' source : Option (List ℕ)) (shown : List ℕ) : Type 0 where
  pub image : HeapImage
  pub valid : IsValid image
  pub read : Consumes left left' (text image)
  pub schedule : ScheduleView
  pub whole : IfSome source (λ bytes. bytes ≡ schedule_text schedule)
  pub replayed : Replayed
  pub follows : IsReplayed image schedule replayed
  pub printed : shown ≡ schedule_text replayed.lines ++ end_line replayed.ended

-- the replay of some schedule on some valid image
pub record IsReplayText (shown : List ℕ) : Type 0 where
  pub image : HeapImage
  pub valid : IsValid image
  pub schedule : ScheduleView
  pub replayed : Replayed
  pub follows : IsReplayed image schedule replayed
  pub printed : shown ≡ schedule_text replayed.lines ++ end_line replayed.ended

abbrev pub replay_command : Command
replay_command = record { name = codes "replay"; prints = IsReplayText }
