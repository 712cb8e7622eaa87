-- A schedule recorded to the end of a collection.
use Rattle.std.specs.Prelude.{◌≡◌, ℕ, List}
use Rattle.object_heap.specs.HeapImage.{HeapImage}
use Rattle.scheduler.specs.Schedule.{ScheduleView, schedule_of}
use Rattle.scheduler.specs.ImageMoves.{image_table}
use Rattle.history.specs.WordMachine.{IsAllowed}
use Rattle.scheduler.specs.Whole.{HasEachOnce}
use Rattle.scheduler.specs.declared.entry.Entry.{Entry}

-- The schedule has each call with its reply. The word machine of the image allows the calls. Each region to be filled is
-- granted, completed and settled once, and each pair is drained once.
pub record IsRecord (image : HeapImage) (workers : ℕ) (v : ScheduleView) : Type 0 where
  pub log : List Entry
  pub schedule : v ≡ schedule_of workers log
  pub allowed : IsAllowed image workers log
  pub once : HasEachOnce (image_table image) log
