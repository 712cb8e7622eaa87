use Rattle.std.proofs.Common.{◌≡◌, ℕ, ◌==◌, ◌||◌, length, take}
use Rattle.std.specs.List.{list_any}
use Rattle.object_heap.specs.Bits.{has}
use Rattle.object_heap.proofs.bits.Bits.insert_all.Given as goal

abbrev pub invariant-loop-address : goal.invariant-loop-address
invariant-loop-address l =
    (length l.self ≡ length l.fn.self)
    × ((k : ℕ) → has l.self k ≡ (has l.fn.self k || list_any (λ a. a == k) (take l.address-index l.addresses)))
