-- A collection from bytes to bytes.
use Rattle.std.specs.Prelude.{◌≡◌, ℕ, List, Option, Some, IfSome}
use Rattle.std.specs.Io.KnownBytes.{Appends}
use Rattle.object_heap.specs.HeapImage.{HeapImage}
use Rattle.heap_image.specs.ImageText.{text, first_fault}
use Rattle.heap_image.specs.Reading.{IsRead}
use Rattle.image_streams.specs.Outgoing.{TakesBeginning}
use Rattle.image_streams.specs.declared.fault.Fault.{Fault}
use Rattle.image_streams.specs.declared.fault.Fault.TheVariants.{TruncatedHeader, Magic, RegionLog, Length, TruncatedBody, Root, LiveOrder, Header, Overlap, Reference, Trailing}
use Rattle.summary.specs.Compaction.{compact}
use Rattle.scheduler.specs.Schedule.{ScheduleView}
use Rattle.history.specs.ScheduleText.{schedule_text}
use Rattle.history.specs.Record.{IsRecord}
use Rattle.collector.specs.Collections.{figures_of}
use Rattle.collector.specs.Halts.{MayRefuse}
use Rattle.collector.specs.declared.outcome.Figures.{Figures}

-- a fault of an image's bytes: one of 1 to 10, or 17
abbrev pub IsOfBytes : Fault → Type 0
IsOfBytes TruncatedHeader = Unit {0}
IsOfBytes Magic = Unit {0}
IsOfBytes RegionLog = Unit {0}
IsOfBytes Length = Unit {0}
IsOfBytes TruncatedBody = Unit {0}
IsOfBytes (Root i) = Unit {0}
IsOfBytes (LiveOrder i) = Unit {0}
IsOfBytes (Header a) = Unit {0}
IsOfBytes (Overlap a) = Unit {0}
IsOfBytes (Reference a f) = Unit {0}
IsOfBytes Trailing = Unit {0}
IsOfBytes _ = ⊥

-- a fault of an image's bytes is the first fault of the input
abbrev pub IsFirstOfBytes : Option (List ℕ) → Fault → Type 0
IsFirstOfBytes input fault = IsOfBytes fault → IfSome input (λ bytes. first_fault bytes ≡ Some fault)

-- all of the input was read, the text of some image, of which a worker may be refused a region
abbrev pub MayRefuseRead : Option (List ℕ) → Option (List ℕ) → (ℕ → ℕ → Type 0) → ℕ → Type 0
MayRefuseRead left left' may_refuse workers = (image : HeapImage) × IsRead image left left' × MayRefuse may_refuse workers image

-- all of the input was read, the text of some image, and a prefix of the text of its compaction was written
pub record IsTextBegun (left left' took took' : Option (List ℕ)) : Type 0 where
  pub image : HeapImage
  pub read : IsRead image left left'
  pub written : TakesBeginning took took' (text (compact image))

-- all of the input was read, the text of some image, and the text of its compaction was written
pub record IsTextWritten (left left' took took' : Option (List ℕ)) : Type 0 where
  pub image : HeapImage
  pub read : IsRead image left left'
  pub written : Appends took took' (text (compact image))

-- All of the input was read, the text of some image. The text of its compaction was written to one device, and to the
-- other the text of a schedule by which the word machine makes the compaction. These are the figures.
pub record AreRecorded (workers : ℕ) (left left' took took' lines lines' : Option (List ℕ)) (figures : Figures) : Type 0 where
  pub image : HeapImage
  pub read : IsRead image left left'
  pub collected : Appends took took' (text (compact image))
  pub schedule : ScheduleView
  pub recorded : IsRecord image workers schedule
  pub listed : Appends lines lines' (schedule_text schedule)
  pub counted : figures ≡ figures_of image
