-- What the word machine of a valid image keeps.
use Rattle.std.proofs.Common.{◌≡◌, ℕ, List, Some, None, Option, refl, ap, subst, ◌∙◌}
use Rattle.std.specs.Prelude.{not, nat_lt, if◌then◌else◌}
use Rattle.object_heap.specs.HeapImage.{HeapImage, IsValid, word_at}
use Rattle.summary.specs.NewAddresses.{new_top}
use Rattle.summary.specs.WordMoves.{origin}
use Rattle.summary.specs.Compaction.{is_deferred, written, moved_word}
use Rattle.history.specs.Slide.{word_from, moved_heap}
use Rattle.history.specs.WordMachine.{image_slide, machine_start, machine_of, IsAllowed, IsDrainedBeforeWritten}
use Rattle.scheduler.specs.ImageMoves.{image_table}
use Rattle.scheduler.specs.declared.event.Event.TheVariants.{Copy}
use Rattle.scheduler.specs.declared.entry.Entry.{Entry}
use Rattle.history.proofs.Lemmas.Drained.{Finds, AllFind, finds_in, history_kept, filled_heap}
use Rattle.history.specs.MachineLaws.{MachineLaws}

module _ (image : HeapImage) where
  word-written : (a : ℕ) (o : Option ℕ) → word_from (image_slide image) (word_at image) a o ≡ written image (λ b. not (is_deferred image b)) o a
  word-written a None = refl
  word-written a (Some x) = refl

  -- the heap of the slide is the image's moved words
  pub moved_heap-word : (a : ℕ) → moved_heap (image_slide image) (word_at image) a ≡ moved_word image a
  moved_heap-word a = ap (λ w. if nat_lt a (new_top image) then w else word_at image a) (word-written a (origin image a))

pub drained_before : MachineLaws → (image : HeapImage) → IsValid image → (workers : ℕ) (log : List Entry) → IsAllowed image workers log → IsDrainedBeforeWritten image log
drained_before law image valid workers log steps =
    let slides = law.slides image valid in
    let all = history_kept (image_table image) (image_slide image) workers (word_at image) log slides (λ now. law.counts (image_table image) now (law.lawful image valid)) steps in
    record {
      finds = λ before after e d n k x split copies. found before e d n copies
          (finds_in (image_slide image) (word_at image) (machine_start image) before after e (subst (AllFind (image_slide image) (word_at image) (machine_start image)) split all.0)) k x;
      moved = λ filled a. filled_heap (image_table image) (image_slide image) (word_at image) (machine_of image log) slides all.1 filled a ∙ moved_heap-word image a;
    }
  where
    found : (before : List Entry) (e : Entry) (d n : ℕ) → e.event ≡ Copy d n → Finds (image_slide image) (word_at image) (machine_of image before) e.event
        → Finds (image_slide image) (word_at image) (machine_of image before) (Copy d n)
    found before e d n copies finds = subst (Finds (image_slide image) (word_at image) (machine_of image before)) copies finds
