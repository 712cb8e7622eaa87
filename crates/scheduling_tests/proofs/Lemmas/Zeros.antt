-- Lists whose words are made 0.
use Rattle.std.proofs.Common.{◌≡◌, refl, ℕ, zero, suc, List, [], ◌∷◌, length, map, replicate, slice_index_or}

-- as many words, each 0
abbrev pub zeros : List ℕ → List ℕ
zeros words = replicate {A = ℕ} (length words) 0

pub zeros_at : (blocks : List (List ℕ)) (r : ℕ) → slice_index_or (map zeros blocks) r [] ≡ zeros (slice_index_or blocks r [])
zeros_at [] r = refl
zeros_at (words ∷ blocks) zero = refl
zeros_at (words ∷ blocks) (suc r) = zeros_at blocks r
