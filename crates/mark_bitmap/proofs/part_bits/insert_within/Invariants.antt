use Rattle.std.proofs.Common.{◌≡◌, ℕ, ◌+◌, ◌<◌, ◌==◌, ◌||◌, length, take}
use Rattle.std.specs.List.{list_any}
use Rattle.object_heap.specs.Bits.{has, room}
use Rattle.mark_bitmap.proofs.part_bits.insert_within.Given as goal

abbrev pub invariant-loop-address : goal.invariant-loop-address
invariant-loop-address l =
    (length l.words ≡ length l.fn.words)
    × ((k : ℕ) → k < room l.fn.words → has l.words k ≡ (has l.fn.words k || list_any (λ a. a == l.start + k) (take l.address-index l.addresses)))
