-- The word machine over an image, and what holds for every list of calls that it allows.
use Rattle.std.specs.Prelude.{◌≡◌, ℕ, ◌+◌, ◌*◌, ◌<◌, Bool, not, ◌&&◌, if◌then◌else◌, IsTrue, Some, List}
use Rattle.std.specs.List.{list_any}
use Rattle.object_heap.specs.HeapImage.{HeapImage, region_words, word_at}
use Rattle.summary.specs.NewAddresses.{new_top}
use Rattle.summary.specs.WordMoves.{origin}
use Rattle.summary.specs.Fillers.{filler_word}
use Rattle.summary.specs.Compaction.{is_reference_of, is_deferred, redirected_word, moved_word}
use Rattle.history.specs.Slide.{Slide, Machine, machine_from, write_words, AreMachineSteps}
use Rattle.scheduler.specs.ImageMoves.{image_table}
use Rattle.scheduler.specs.MoveTable.{to_fill}
use Rattle.scheduler.specs.State.{opening}
use Rattle.scheduler.specs.History.{IsSplit}
use Rattle.scheduler.specs.declared.event.Event.TheVariants.{Copy}
use Rattle.scheduler.specs.declared.entry.Entry.{Entry}

module _ (image : HeapImage) where
  -- q is a reference of a live object that isn't deferred
  abbrev pub is_redirected : ℕ → Bool
  is_redirected q = list_any (λ a. is_reference_of image a q && not (is_deferred image a)) image.live

  -- How the image's words slide: each goes to its new address, and a reference is redirected as it is written unless its
  -- object is deferred.
  abbrev pub image_slide : Slide
  image_slide =
      record {
        size = region_words image;
        top = new_top image;
        origin = origin image;
        carried = λ q word. if is_redirected q then redirected_word image word else word;
        filler = filler_word image;
      }

  -- the machine at the start: no calls, and the heap of the image
  abbrev pub machine_start : Machine
  machine_start = record { known = opening; heap = word_at image; written = λ r. 0 }

  -- the machine after these calls
  abbrev pub machine_of : List Entry → Machine
  machine_of log = machine_from image_slide machine_start log

  -- the machine of this image allows the list, with its replies
  abbrev pub IsAllowed : ℕ → List Entry → Type 0
  IsAllowed workers log = AreMachineSteps (image_table image) image_slide workers machine_start log

-- What holds for the machine after a list of calls.
pub record IsDrainedBeforeWritten (image : HeapImage) (log : List Entry) : Type 0 where
  -- when a copy writes its k-th word, the origin of the word is as it was at the start
  pub finds : (before after : List Entry) (e : Entry) (d n k x : ℕ) → IsSplit log before e after → e.event ≡ Copy d n → k < n
      → origin image (d * region_words image + (machine_of image before).written d + k) ≡ Some x
      → (write_words (image_slide image) d k (machine_of image before)).heap x ≡ word_at image x
  -- once all regions to be filled are filled, the heap is that of the moved words
  pub moved : ((r : ℕ) → IsTrue (to_fill (image_table image) r) → IsTrue ((machine_of image log).known.filled r))
      → (a : ℕ) → (machine_of image log).heap a ≡ moved_word image a
