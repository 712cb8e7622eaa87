-- References that a collector doesn't follow.
use Rattle.std.specs.Prelude.{◌≡◌, ◌≢◌, ℕ, ◌<◌, List, All, map, length, slice_index}
use Rattle.object_heap.specs.HeapImage.{HeapImage, reachable, roots_of, words_alone}
use Rattle.dump_objects.specs.declared.heap.weak_reference.WeakReference.{WeakReference}

-- the addresses of the words of these references
abbrev pub slots_of : List WeakReference → List ℕ
slots_of weak = map (λ reference. reference.slot) weak

-- only words at these addresses differ
pub record DifferOnlyAt (slots words words' : List ℕ) : Type 0 where
  pub same_length : length words' ≡ length words
  pub others : (a : ℕ) → All (λ slot. slot ≢ a) slots → slice_index words' a ≡ slice_index words a

-- each word at these addresses is null
abbrev pub AreNull : List ℕ → List ℕ → Type 0
AreNull slots words = All (λ slot. slot < length words → slice_index words slot ≡ 0) slots

-- the live objects are those that the roots reach if these references are null
pub record IsStrong (image : HeapImage) (slots : List ℕ) : Type 0 where
  pub strong : List ℕ
  pub null : AreNull slots strong
  pub others : DifferOnlyAt slots strong image.words
  pub live : image.live ≡ reachable (record (words_alone image) { words = strong }) (roots_of image)
