-- The objects that are reachable from roots.
use Rattle.std.specs.Prelude.{◌≡◌, ℕ, ◌<◌, Bool, true, ◌==◌, List}
use Rattle.std.specs.List.{list_any}
use Rattle.object_heap.specs.HeapImage.{HeapImage, heap_words, leads_to, refers_to}

-- a is one of the addresses
abbrev pub is_listed : List ℕ → ℕ → Bool
is_listed xs a = list_any (λ b. a == b) xs

module _ (image : HeapImage) where
  -- The addresses that pass are closed: they include all to which the roots lead, and all to which a sound object among
  -- them refers.
  pub record IsClosed (roots : List ℕ) (passes : ℕ → Bool) : Type 0 where
    pub from_roots : (b : ℕ) → b < heap_words image → list_any (λ w. leads_to w b) roots ≡ true → passes b ≡ true
    pub from_objects : (a b : ℕ) → passes a ≡ true → refers_to image a b ≡ true → b < heap_words image → passes b ≡ true
