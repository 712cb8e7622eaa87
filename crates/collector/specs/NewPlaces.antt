-- Where a collection takes a word.
use Rattle.std.specs.Prelude.{◌≡◌, ◌≤◌, ◌<◌, ℕ, true, false}
use Rattle.object_heap.specs.HeapImage.{HeapImage, heap_words, is_live_word}
use Rattle.summary.specs.WordMoves.{slid}
use Rattle.collector.specs.declared.session.new_place.NewPlace.{NewPlace}
use Rattle.collector.specs.declared.session.new_place.NewPlace.TheVariants.{Outside, NotLive, At}

-- where the collection of this image takes the word at this address
abbrev pub IsNewPlace : HeapImage → ℕ → NewPlace → Type 0
IsNewPlace image a Outside = heap_words image ≤ a
IsNewPlace image a NotLive = (a < heap_words image) × (is_live_word image a ≡ false)
IsNewPlace image a (At p) = (a < heap_words image) × (is_live_word image a ≡ true) × (p ≡ slid image a)
