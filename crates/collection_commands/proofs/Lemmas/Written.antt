-- What was written of a collection whose image was read.
use Rattle.std.proofs.Common.{◌≡◌, ℕ, List, Option, length, sym, subst}
use Rattle.std.proofs.Math.Seq.{take-length}
use Rattle.std.specs.Io.KnownBytes.{Appends}
use Rattle.object_heap.specs.HeapImage.{HeapImage}
use Rattle.heap_image.specs.ImageText.{text}
use Rattle.image_streams.specs.Outgoing.{TakesBeginning}
use Rattle.heap_image.specs.Reading.{IsRead}
use Rattle.summary.specs.Compaction.{compact}
use Rattle.collector.specs.Streams.{IsTextBegun, IsTextWritten}

-- a whole text is a prefix of itself
pub all_begun : (took took' : Option (List ℕ)) (bytes : List ℕ) → Appends took took' bytes → TakesBeginning took took' bytes
all_begun took took' bytes whole = (length bytes, subst (λ (xs : List ℕ). Appends took took' xs) (sym (take-length bytes)) whole)

module _ (image moved : HeapImage) (left left' took took' : Option (List ℕ)) (read : IsRead image left left') (same : moved ≡ compact image) where
  -- what was written is the text of the compaction
  pub appended : Appends took took' (text moved) → Appends took took' (text (compact image))
  appended whole = subst (λ (m : HeapImage). Appends took took' (text m)) same whole

  -- a prefix of the text of the image that a collection returned
  pub text_begun : TakesBeginning took took' (text moved) → IsTextBegun left left' took took'
  text_begun begun = record { image = image; read = read; written = subst (λ (m : HeapImage). TakesBeginning took took' (text m)) same begun }

  -- all of it
  pub text_written : Appends took took' (text moved) → IsTextWritten left left' took took'
  text_written whole = record { image = image; read = read; written = appended whole }
