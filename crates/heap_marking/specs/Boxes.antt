-- References on their way, in a box for each part of the heap.
use Rattle.std.specs.Prelude.{◌≡◌, ℕ, Bool, ◌||◌, List, [], slice_index_or}
use Rattle.std.specs.List.{list_any}
use Rattle.object_heap.specs.HeapImage.{leads_to}

-- a reference in box k leads to b
abbrev pub leads : List (List ℕ) → ℕ → ℕ → Bool
leads boxes k b = list_any (λ w. leads_to w b) (slice_index_or boxes k [])

-- a reference in box k of one of these rows of boxes leads to b
abbrev pub arrives : List (List (List ℕ)) → ℕ → ℕ → Bool
arrives rows k b = list_any (λ boxes. leads boxes k b) rows

-- a reference in any box of these rows leads to b
abbrev pub arrives_anywhere : List (List (List ℕ)) → ℕ → Bool
arrives_anywhere rows b = list_any (λ boxes. list_any (λ references. list_any (λ w. leads_to w b) references) boxes) rows

-- no box has a reference
abbrev pub AreEmpty : List (List ℕ) → Type 0
AreEmpty boxes = (k : ℕ) → slice_index_or boxes k [] ≡ []

-- box k has one reference more
pub record HasMore (k w : ℕ) (old new : List (List ℕ)) : Type 0 where
  pub here : (b : ℕ) → leads new k b ≡ (leads old k b || leads_to w b)
  pub there : (j b : ℕ) → (j ≡ k → ⊥) → leads new j b ≡ leads old j b
