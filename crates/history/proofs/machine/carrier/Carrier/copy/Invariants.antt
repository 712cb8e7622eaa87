use Rattle.std.proofs.Common.{◌≡◌, ℕ, ◌<◌, ◌≤◌, ◌⊎◌}
use Rattle.std.specs.Prelude.{slice_index}
use Rattle.history.specs.Slide.{word_for}
use Rattle.history.specs.WordMachine.{image_slide}
use Rattle.object_heap.specs.HeapImage.{word_at}
use Rattle.history.proofs.machine.carrier.Carrier.copy.Given as goal

abbrev pub invariant-loop-place : goal.invariant-loop-place
invariant-loop-place l = record {
  written : (a : ℕ) → l.first ≤ a → a < l.place → slice_index l.heap a ≡ word_for (image_slide l.self.plan.now) (word_at l.self.plan.now) a;
  others : (a : ℕ) → (a < l.first) ⊎ (l.place ≤ a) → slice_index l.heap a ≡ slice_index l.initial.heap a;
}
