-- Words that are written in a heap of blocks of r words.
use Rattle.std.proofs.Common.{◌≡◌, ℕ, zero, suc, ◌+◌, ◌*◌, ◌/◌, ◌≤◌, ◌<◌, List, [], ◌∷◌, ◌++◌, length, get_or, set, take, drop, sym, ◌∙◌, ap, arith, length-append, length-drop}
use Rattle.std.specs.List.{concat}
use Rattle.std.proofs.Math.Seq.{take-append-add, drop-append-add}
use Rattle.std.proofs.lemmas.List.{append_assoc, take-append-le, drop-append-le}
use Rattle.std.proofs.lemmas.List.Elements.{All-head, All-tail, All-set}
use Rattle.std.proofs.lemmas.Nat.{div_below}
use Rattle.std.specs.Prelude.{All}
use Rattle.raw_region.specs.Region.{with_words, part}

module _ (r : ℕ) where
  abbrev Same : List (List ℕ) → Type 0
  Same blocks = All (λ block. length block ≡ r) blocks

  length-concat : (blocks : List (List ℕ)) → Same blocks → length (concat blocks) ≡ length blocks * r
  length-concat [] h = omega arith
  length-concat (b ∷ blocks) h =
      let one : length b ≡ r = All-head (λ block. length block ≡ r) b blocks h in
      let more : length (concat blocks) ≡ length blocks * r = length-concat blocks (All-tail (λ block. length block ≡ r) b blocks h) in
      let both = length-append b (concat blocks) in
      omega arith

  pub block_below : (some : 0 < r) (blocks : List (List ℕ)) → Same blocks → (a : ℕ) → a < length (concat blocks) → a / r < length blocks
  block_below some blocks same a l = let long = length-concat blocks same in div_below a r (length blocks) some (omega arith)

  -- words that are written into one block
  pub concat-written : (blocks : List (List ℕ)) → Same blocks → (i j : ℕ) (ys : List ℕ) → i < length blocks → j + length ys ≤ r
      → concat (set blocks i (with_words (get_or blocks i []) j ys)) ≡ with_words (concat blocks) (i * r + j) ys
  concat-written [] h i j ys l m = let no : ⊥ = omega arith in absurd no
  concat-written (b ∷ blocks) h zero j ys l m =
      let c : List ℕ = concat blocks in
      let one : length b ≡ r = All-head (λ block. length block ≡ r) b blocks h in
      let at : j ≡ 0 * r + j = omega arith in
      append_assoc (take j b) (ys ++ drop (j + length ys) b) c
      ∙ ap (λ xs. take j b ++ xs) (append_assoc ys (drop (j + length ys) b) c)
      ∙ ap (λ xs. xs ++ (ys ++ (drop (j + length ys) b ++ c))) (sym (take-append-le j b c (omega arith)))
      ∙ ap (λ xs. take j (b ++ c) ++ (ys ++ xs)) (sym (drop-append-le (j + length ys) b c (omega arith)))
      ∙ ap (λ n. with_words (b ++ c) n ys) at
  concat-written (b ∷ blocks) h (suc i) j ys l m =
      let c : List ℕ = concat blocks in
      let one : length b ≡ r = All-head (λ block. length block ≡ r) b blocks h in
      let k : ℕ = i * r + j in
      let at : length b + k ≡ suc i * r + j = omega arith in
      let after : length b + (k + length ys) ≡ length b + k + length ys = omega arith in
      ap (λ xs. b ++ xs) (concat-written blocks (All-tail (λ block. length block ≡ r) b blocks h) i j ys (omega arith) m)
      ∙ sym (append_assoc b (take k c) (ys ++ drop (k + length ys) c))
      ∙ ap (λ xs. xs ++ (ys ++ drop (k + length ys) c)) (sym (take-append-add b c k))
      ∙ ap (λ xs. take (length b + k) (b ++ c) ++ (ys ++ xs)) (sym (drop-append-add b c (k + length ys)))
      ∙ ap (λ n. take (length b + k) (b ++ c) ++ (ys ++ drop n (b ++ c))) after
      ∙ ap (λ n. with_words (b ++ c) n ys) at

  -- words of one block
  pub concat-part : (blocks : List (List ℕ)) → Same blocks → (i j n : ℕ) → i < length blocks → j + n ≤ r
      → part (concat blocks) (i * r + j) n ≡ part (get_or blocks i []) j n
  concat-part [] h i j n l m = let no : ⊥ = omega arith in absurd no
  concat-part (b ∷ blocks) h zero j n l m =
      let c : List ℕ = concat blocks in
      let one : length b ≡ r = All-head (λ block. length block ≡ r) b blocks h in
      let at : 0 * r + j ≡ j = omega arith in
      let rest = length-drop j b in
      ap (λ k. part (b ++ c) k n) at
      ∙ ap (take n) (drop-append-le j b c (omega arith))
      ∙ take-append-le n (drop j b) c (omega arith)
  concat-part (b ∷ blocks) h (suc i) j n l m =
      let c : List ℕ = concat blocks in
      let one : length b ≡ r = All-head (λ block. length block ≡ r) b blocks h in
      let at : suc i * r + j ≡ length b + (i * r + j) = omega arith in
      ap (λ k. part (b ++ c) k n) at
      ∙ ap (take n) (drop-append-add b c (i * r + j))
      ∙ concat-part blocks (All-tail (λ block. length block ≡ r) b blocks h) i j n (omega arith) m

  pub same-set : (blocks : List (List ℕ)) → Same blocks → (i : ℕ) (b : List ℕ) → length b ≡ r → Same (set blocks i b)
  same-set blocks same i b e = All-set (λ block. length block ≡ r) blocks i b e same
