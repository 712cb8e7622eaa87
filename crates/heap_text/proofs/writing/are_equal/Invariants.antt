use Rattle.std.proofs.Common.{◌≡◌, ◌==◌}
use Rattle.std.specs.List.{list_all}
use Rattle.object_heap.specs.HeapImage.{word_at}
use Rattle.heap_text.specs.Text.{addresses_between}
use Rattle.heap_text.proofs.writing.are_equal.Given as goal

-- what is left decides
abbrev pub invariant-loop-place : goal.invariant-loop-place
invariant-loop-place l =
    list_all (λ a. word_at l.image a == l.first) (addresses_between l.place l.to) ≡ list_all (λ a. word_at l.image a == l.first) (addresses_between l.from l.to)
