-- Layouts whose references can be redirected.
use Rattle.std.specs.Prelude.{◌≡◌, ℕ, ◌<◌, ◌≤◌}
use Rattle.object_heap.specs.Layout.{Layout, reference_in, redirected_in}

-- In a heap with this number of words a redirected reference leads to the address given, and a word that is redirected to
-- where it leads stays.
pub record RedirectsReferences (layout : Layout) (words : ℕ) : Type 0 where
  pub leads : (w r : ℕ) → 0 < reference_in layout w → 0 < r → r ≤ words → reference_in layout (redirected_in layout w r) ≡ r
  pub stays : (w : ℕ) → redirected_in layout w (reference_in layout w) ≡ w
