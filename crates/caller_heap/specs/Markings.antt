-- Markings of objects of a host's own layout.
use Rattle.std.specs.Prelude.{◌≡◌, ℕ, true, List, All, ◌++◌}
use Rattle.image_streams.specs.declared.fault.Fault.{Fault}
use Rattle.image_streams.specs.declared.fault.Fault.TheVariants.{Header}
use Rattle.object_heap.specs.HeapImage.{HeapImage, HasSoundHeader, heap_words, is_unsound, reachable}
use Rattle.object_heap.specs.Reachable.{is_listed}
use Rattle.coded_marking.specs.Marking.{Marks, AreAmong, references_by}

-- What these roots reach in this heap is marked, too: if the marks were what other roots reach, they are what those and these
-- reach.
pub record IsMarkedFrom (image : HeapImage) (roots : List ℕ) (before after : Marks) : Type 0 where
  pub counted : before.words ≡ heap_words image
  pub words : after.words ≡ before.words
  pub reached : (earlier : List ℕ) → before.marked ≡ reachable image earlier → after.marked ≡ reachable image (earlier ++ references_by image roots)
  pub sound : All (HasSoundHeader image) before.marked → All (HasSoundHeader image) after.marked
  pub kept : AreAmong after.marked before.marked

-- A reached object without a sound header stopped the marking: no more is marked than those roots reach.
pub record IsStoppedAt (image : HeapImage) (roots : List ℕ) (fault : Fault) (before after : Marks) : Type 0 where
  pub words : after.words ≡ before.words
  pub kept : AreAmong after.marked before.marked
  pub within : (earlier : List ℕ) → before.marked ≡ reachable image earlier
      → AreAmong (reachable image (earlier ++ references_by image roots)) after.marked
  pub unsound : (a : ℕ) × (fault ≡ Header a) × (is_unsound image a ≡ true) × (is_listed after.marked a ≡ true)
