-- The number of words of blocks of r words each.
use Rattle.std.proofs.Common.{◌≡◌, ℕ, ◌*◌, List, [], ◌∷◌, length, arith, length-append}
use Rattle.std.specs.Prelude.{All}
use Rattle.std.specs.List.{concat}
use Rattle.std.proofs.lemmas.List.Elements.{All-head, All-tail}

module _ (r : ℕ) where
  abbrev Same : List (List ℕ) → Type 0
  Same blocks = All (λ block. length block ≡ r) blocks

  pub length-concat : (blocks : List (List ℕ)) → Same blocks → length (concat blocks) ≡ length blocks * r
  length-concat [] h = omega arith
  length-concat (b ∷ blocks) h =
      let one : length b ≡ r = All-head (λ block. length block ≡ r) b blocks h in
      let more : length (concat blocks) ≡ length blocks * r = length-concat blocks (All-tail (λ block. length block ≡ r) b blocks h) in
      let both = length-append b (concat blocks) in
      omega arith
