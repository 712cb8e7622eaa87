-- How a ledger relates to the word machine.
use Rattle.std.specs.Prelude.{◌≡◌, ℕ, ◌+◌, ◌-◌, min, List, length, slice_index, slice_set}
use Rattle.object_heap.specs.HeapImage.{HeapImage, region_words, region_count, start_of}
use Rattle.summary.specs.RegionData.{destination, data_words}
use Rattle.scheduler.specs.Scheduler.{state_in}
use Rattle.scheduler.specs.ImageMoves.{image_table}
use Rattle.history.specs.Slide.{Machine, IsMachineStep, machine_after}
use Rattle.history.specs.WordMachine.{image_slide}
use Rattle.history.specs.Replay.{IsCallOfLine}
use Rattle.history.specs.LineCause.{IsCause}
use Rattle.scheduler.specs.declared.entry.Entry.{Entry}
use Rattle.scheduler.specs.declared.event.Event.{Event}
use Rattle.scheduler.specs.declared.event.Event.TheVariants.{Copy}
use Rattle.history.specs.declared.machine.ledger.Ledger.{Ledger}
use Rattle.scheduler.specs.declared.schedule.line.Line.{Line}
use Rattle.history.specs.declared.machine.line_cause.LineCause.{LineCause}

-- a ledger of an image and this number of workers
pub record IsLedger (image : HeapImage) (number : ℕ) (ledger : Ledger) : Type 0 where
  pub moves : ledger.scheduler.moves ≡ image_table image
  pub workers : ledger.scheduler.workers ≡ number
  pub all : length ledger.written.items ≡ region_count image

-- the ledger has the state of the machine's scheduler and the number of words written in each region
pub record Tells (ledger : Ledger) (w : Machine) : Type 0 where
  pub known : w.known ≡ state_in ledger.scheduler
  pub written : (r : ℕ) → w.written r ≡ slice_index ledger.written.items r

-- the call is a step of each machine of the old ledger, to a machine of the new one
abbrev pub Leads : HeapImage → ℕ → Ledger → Entry → Ledger → Type 0
Leads image workers old e new =
    (w : Machine) → Tells old w → IsMachineStep (image_table image) (image_slide image) workers w e × Tells new (machine_after (image_slide image) w e)

-- no call of the line is a step of any machine of the ledger
abbrev pub RefusesLine : HeapImage → ℕ → Ledger → Line → Type 0
RefusesLine image workers ledger line =
    (w : Machine) → Tells ledger w → (e : Entry) → IsCallOfLine line e → ¬ (IsMachineStep (image_table image) (image_slide image) workers w e)

-- this is why each machine of the ledger refuses the line
abbrev pub HasCause : HeapImage → ℕ → Ledger → Line → LineCause → Type 0
HasCause image workers ledger line cause = (w : Machine) → Tells ledger w → IsCause image workers w line cause

-- the number of words written in each region, before an event and after it
abbrev pub AreWrittenBy : Event → List ℕ → List ℕ → Type 0
AreWrittenBy (Copy d n) old new = new ≡ slice_set old d (slice_index old d + n)
AreWrittenBy _ old new = new ≡ old

-- the number of words from the start of region d up to the last one that comes from region s
abbrev pub taken_up_to : HeapImage → ℕ → ℕ → ℕ
taken_up_to image d s = min (region_words image) (destination image s + data_words image s - start_of image d)
