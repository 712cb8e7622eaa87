-- The result of a replay.
use Rattle.std.specs.Prelude.{◌≡◌, ℕ, ◌+◌, ◌<◌, ◌↔◌, Bool, IsTrue, List, length, map, slice_index}
use Rattle.object_heap.specs.HeapImage.{HeapImage, heap_words, start_of}
use Rattle.summary.specs.Compaction.{compact}
use Rattle.scheduler.specs.State.{AllAreSettled}
use Rattle.scheduler.specs.ImageMoves.{image_table}
use Rattle.history.specs.Slide.{Machine}
use Rattle.scheduler.specs.Schedule.{ScheduleView, line_of, schedule_of}
use Rattle.history.specs.WordMachine.{machine_of, IsDrainedBeforeWritten}
use Rattle.history.specs.Replay.{IsReplay}
use Rattle.scheduler.specs.declared.entry.Entry.{Entry}
use Rattle.scheduler.specs.declared.event.Event.{Event}
use Rattle.scheduler.specs.declared.event.Event.TheVariants.{Copy}
use Rattle.history.specs.declared.machine.ledger.Ledger.{Ledger}
use Rattle.scheduler.specs.declared.schedule.line.Line.{Line}
use Rattle.history.specs.declared.machine.replayed.End.{End}
use Rattle.history.specs.declared.machine.replayed.End.TheVariants.{Finished, Open}
use Rattle.history.specs.declared.machine.replayed.Replayed.{Replayed}

-- finished with the compacted image if all regions to be filled are settled after these calls, otherwise open
abbrev pub IsEndOf : HeapImage → List Entry → End → Type 0
IsEndOf image log (Finished new) = AllAreSettled (image_table image) (machine_of image log).known × (new ≡ compact image)
IsEndOf image log Open = ¬ (AllAreSettled (image_table image) (machine_of image log).known)

-- The word machine takes all lines. Each copy finds each word as it was at the start.
pub record IsReplayed (image : HeapImage) (v : ScheduleView) (replayed : Replayed) : Type 0 where
  pub log : List Entry
  pub taken : IsReplay image v.workers v.lines log
  pub lines : replayed.lines ≡ schedule_of v.workers log
  pub ended : IsEndOf image log replayed.ended
  pub keeps : IsDrainedBeforeWritten image log

-- the words of the machine's heap
pub record Holds (image : HeapImage) (heap : List ℕ) (w : Machine) : Type 0 where
  pub long : length heap ≡ heap_words image
  pub each : (a : ℕ) → a < heap_words image → slice_index heap a ≡ w.heap a

-- the word machine takes all lines; its replies, whether all regions to be filled are settled, and its heap
pub record IsCarriedOut (image : HeapImage) (v : ScheduleView) (lines : List Line) (settled : Bool) (heap : List ℕ) : Type 0 where
  pub log : List Entry
  pub taken : IsReplay image v.workers v.lines log
  pub replies : lines ≡ map line_of log
  pub tells : IsTrue settled ↔ AllAreSettled (image_table image) (machine_of image log).known
  pub holds : Holds image heap (machine_of image log)

-- the first address that an event writes, and the number of words
abbrev pub places_of : HeapImage → Ledger → Event → ℕ × ℕ
places_of image ledger (Copy d n) = (start_of image d + slice_index ledger.written.items d, n)
places_of image ledger _ = (0, 0)
