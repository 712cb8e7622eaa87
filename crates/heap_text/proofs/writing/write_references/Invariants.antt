use Rattle.std.proofs.Common.{◌≡◌, ◌++◌, ◌-◌}
use Rattle.std.specs.Prelude.{flat_map}
use Rattle.object_heap.specs.HeapImage.{word_at}
use Rattle.heap_text.specs.Text.{addresses_between, reference_text}
use Rattle.heap_text.proofs.writing.write_references.Given as goal

-- what is written and what is left make the whole
abbrev pub invariant-loop-place : goal.invariant-loop-place
invariant-loop-place l =
    l.text.items ++ flat_map (λ a. reference_text (word_at l.image a)) (addresses_between l.place l.to) ≡ l.initial.text.items ++ flat_map (λ a. reference_text (word_at l.image a)) (addresses_between l.from l.to)

abbrev pub decreases-loop-place : goal.decreases-loop-place
decreases-loop-place l = l.to - l.place
