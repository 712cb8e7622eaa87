-- Why a schedule isn't replayed on an image, where a device gives the text of each.
use Rattle.std.specs.Prelude.{◌≡◌, ◌⊎◌, ℕ, List, Option, IfSome}
use Rattle.std.specs.Io.KnownBytes.{Consumes}
use Rattle.object_heap.specs.HeapImage.{HeapImage, IsValid}
use Rattle.heap_image.specs.ImageText.{text}
use Rattle.heap_image.specs.Refusals.{IsOfReading, IsReason}
use Rattle.image_streams.specs.declared.fault.Fault.{Fault}
use Rattle.image_streams.specs.declared.fault.Fault.TheVariants.{Io, Memory, Schedule}
use Rattle.scheduler.specs.Schedule.{ScheduleView}
use Rattle.history.specs.ScheduleText.{schedule_text}
use Rattle.history.specs.ReadSchedule.{IsMalformedAt}
use Rattle.history.specs.Replay.{IsRefusedAt}

-- the image is refused: for its first fault, or since memory ran out or the device failed
pub record IsImageRefused (left : Option (List ℕ)) (fault : Fault) : Type 0 where
  pub kind : IsOfReading fault
  pub reason : IfSome left (λ bytes. IsReason bytes fault)

-- no schedule is read: memory ran out, the device failed, or this is the first malformed line of its text
abbrev pub IsScheduleUnread : Option (List ℕ) → Fault → Type 0
IsScheduleUnread left fault = (fault ≡ Memory)
    ⊎ ((fault ≡ Io) ⊎ ((line : ℕ) × (fault ≡ Schedule line) × IfSome left (λ bytes. IsMalformedAt bytes line)))

-- the replay stops: memory ran out, or this is the first line of the schedule that the word machine refuses
abbrev pub IsReplayRefused : HeapImage → ScheduleView → Fault → Type 0
IsReplayRefused image schedule fault = (fault ≡ Memory)
    ⊎ ((line : ℕ) × (fault ≡ Schedule line) × IsRefusedAt image schedule line)

-- the schedule is read, and its replay stops
pub record IsReplayStopped (image : HeapImage) (left : Option (List ℕ)) (fault : Fault) : Type 0 where
  pub schedule : ScheduleView
  pub whole : IfSome left (λ bytes. bytes ≡ schedule_text schedule)
  pub refused : IsReplayRefused image schedule fault

-- the image is read, and its schedule isn't, or not replayed to its end
pub record IsScheduleRefused (left left' schedule : Option (List ℕ)) (fault : Fault) : Type 0 where
  pub image : HeapImage
  pub valid : IsValid image
  pub read : Consumes left left' (text image)
  pub reason : IsScheduleUnread schedule fault ⊎ IsReplayStopped image schedule fault

-- The first device had `left` bytes, of which `left'` are left now, and the second had those of `schedule`. The fault is that
-- of reading the image, of reading the schedule, or of the replay.
abbrev pub IsUnreplayed : Option (List ℕ) → Option (List ℕ) → Option (List ℕ) → Fault → Type 0
IsUnreplayed left left' schedule fault = IsImageRefused left fault ⊎ IsScheduleRefused left left' schedule fault
