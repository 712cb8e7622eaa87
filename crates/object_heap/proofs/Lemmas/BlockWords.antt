-- The words of a heap that lies in blocks of r words each.
use Rattle.std.proofs.Common.{◌≡◌, ℕ, zero, suc, ◌+◌, ◌*◌, ◌/◌, ◌%◌, ◌<◌, List, [], ◌∷◌, ◌++◌, length, get_or, take, drop, sym, ◌∙◌, ap, arith, length-append}
use Rattle.std.specs.Prelude.{All}
use Rattle.std.specs.List.{concat}
use Rattle.std.proofs.lemmas.List.{get_or_append_left, get_or-append-add, take_at, drop-drop, drop_at}
use Rattle.std.proofs.lemmas.List.Elements.{All-head, All-tail}
use Rattle.std.proofs.lemmas.Nat.{div_below, div-mul-add, mod_below}
use Rattle.std.proofs.Math.Nat.{div-add-mod'}

module _ (r : ℕ) where
  abbrev Same : List (List ℕ) → Type 0
  Same blocks = All (λ block. length block ≡ r) blocks

  pub length-concat : (blocks : List (List ℕ)) → Same blocks → length (concat blocks) ≡ length blocks * r
  length-concat [] h = omega arith
  length-concat (b ∷ blocks) h =
      let one : length b ≡ r = All-head (λ block. length block ≡ r) b blocks h in
      let more : length (concat blocks) ≡ length blocks * r = length-concat blocks (All-tail (λ block. length block ≡ r) b blocks h) in
      let both = length-append b (concat blocks) in
      omega arith

  -- the j-th word of the i-th block
  pub concat_at : (blocks : List (List ℕ)) → Same blocks → (i j : ℕ) → i < length blocks → j < r → get_or (concat blocks) (i * r + j) 0 ≡ get_or (get_or blocks i []) j 0
  concat_at [] h i j l m = let no : ⊥ = omega arith in absurd no
  concat_at (b ∷ blocks) h zero j l m =
      let one : length b ≡ r = All-head (λ block. length block ≡ r) b blocks h in
      let at : 0 * r + j ≡ j = omega arith in
      rw at (get_or_append_left b (concat blocks) 0 j (omega arith))
  concat_at (b ∷ blocks) h (suc i) j l m =
      let one : length b ≡ r = All-head (λ block. length block ≡ r) b blocks h in
      let at : suc i * r + j ≡ length b + (i * r + j) = omega arith in
      rw at (get_or-append-add b (concat blocks) (i * r + j) 0) ∙ concat_at blocks (All-tail (λ block. length block ≡ r) b blocks h) i j (omega arith) m

  -- the words of the i-th block
  pub concat_part : (blocks : List (List ℕ)) → Same blocks → (i : ℕ) → i < length blocks → take r (drop (i * r) (concat blocks)) ≡ get_or blocks i []
  concat_part [] h i l = let no : ⊥ = omega arith in absurd no
  concat_part (b ∷ blocks) h zero l =
      let one : length b ≡ r = All-head (λ block. length block ≡ r) b blocks h in
      let at : 0 * r ≡ 0 = omega arith in
      rw at (take_at b (concat blocks) r one)
  concat_part (b ∷ blocks) h (suc i) l =
      let one : length b ≡ r = All-head (λ block. length block ≡ r) b blocks h in
      let at : suc i * r ≡ r + i * r = omega arith in
      let behind : drop r (b ++ concat blocks) ≡ concat blocks = drop_at b (concat blocks) r one in
      rw at (ap (take r) (sym (drop-drop (i * r) r (b ++ concat blocks)) ∙ ap (drop (i * r)) behind) ∙ concat_part blocks (All-tail (λ block. length block ≡ r) b blocks h) i (omega arith))

  module _ (some : 0 < r) (blocks : List (List ℕ)) (same : Same blocks) where
    pub count : length (concat blocks) / r ≡ length blocks
    count =
        let long : length (concat blocks) ≡ length blocks * r + 0 = length-concat blocks same ∙ omega arith in
        ap (λ n. n / r) long ∙ div-mul-add (length blocks) r 0 some

    pub block_below : (a : ℕ) → a < length (concat blocks) → a / r < length blocks
    block_below a l = let long = length-concat blocks same in div_below a r (length blocks) some (omega arith)

    -- the word at a place, by block and place in the block
    pub word_by_block : (a : ℕ) → a < length (concat blocks) → get_or (concat blocks) a 0 ≡ get_or (get_or blocks (a / r) []) (a % r) 0
    word_by_block a l = ap (λ n. get_or (concat blocks) n 0) (sym (div-add-mod' a r)) ∙ concat_at blocks same (a / r) (a % r) (block_below a l) (mod_below a r some)

    -- the words after it in its block
    pub word_behind : (a i : ℕ) → a < length (concat blocks) → a % r + i < r → get_or (concat blocks) (a + i) 0 ≡ get_or (get_or blocks (a / r) []) (a % r + i) 0
    word_behind a i l m =
        let whole = div-add-mod' a r in
        let at : a + i ≡ a / r * r + (a % r + i) = omega arith in
        ap (λ n. get_or (concat blocks) n 0) at ∙ concat_at blocks same (a / r) (a % r + i) (block_below a l) m
