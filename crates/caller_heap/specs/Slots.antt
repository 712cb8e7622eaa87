-- Slots of a host that lead to words of its heap.
use Rattle.std.specs.Prelude.{ℕ, ◌+◌, ◌-◌, ◌*◌, ◌/◌, ◌%◌, ◌^◌, ◌==◌, Bool, ◌&&◌, nat_le, nat_lt, if◌then◌else◌}
use Rattle.object_heap.specs.HeapImage.{HeapImage, heap_words, is_live_word}
use Rattle.summary.specs.WordMoves.{slid}
use Rattle.caller_heap.specs.declared.slots.SlotCoding.{SlotCoding}

module _ (image : HeapImage) (c : SlotCoding) where
  -- the distance from one address to the next
  abbrev pub step : ℕ
  step = 2 ^ (c.unit % 64)

  -- the address of the word to which a slot leads, if it leads to one of the first words of the heap
  abbrev pub place_of : ℕ → ℕ
  place_of slot = (slot - c.base) / step

  abbrev pub leads : ℕ → Bool
  leads slot = nat_le c.base slot && ((slot - c.base) % step == 0) && nat_lt (place_of slot) c.word_count && nat_lt (place_of slot) (heap_words image)

  -- a slot that leads to a word leads to where the word goes, or is dead
  unfoldable pub redirected_slot : ℕ → ℕ
  redirected_slot slot = if leads slot then (if is_live_word image (place_of slot) then c.base + step * slid image (place_of slot) else c.dead) else slot
