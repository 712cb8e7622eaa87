-- A list of words as it grows beside the words that it is made of, of which some are picked.
use Rattle.std.proofs.Common.{◌≡◌, ℕ, ◌+◌, ◌<◌, Bool, false, true, List, [], ◌∷◌, ◌++◌, map, filter, take, length, get_or, IsTrue, bytes_eq, refl, sym, ap, ap₂, ◌∙◌, codes}
use Rattle.std.proofs.lemmas.Bool.{cond-false, false_from_ne_true, or_from}
use Rattle.std.proofs.lemmas.List.{append_cancel_left, map_more, map-append, append-nil}
use Rattle.std.proofs.lemmas.List.Elements.{filter-append}
use Rattle.std.proofs.lemmas.Slice.Eq.{bytes_eq-Decides}
use Rattle.command_line.specs.Respelling.{has_value, mentions}

-- the word is the option and then this text only if what follows the option is the text
lacks : (option rest word text : List ℕ) → word ≡ option ++ rest → (rest ≡ text → ⊥) → bytes_eq word (option ++ text) ≡ false
lacks option rest word text is apart =
    false_from_ne_true (bytes_eq word (option ++ text))
    (λ e. apart (append_cancel_left option rest text (sym is ∙ (bytes_eq-Decides word (option ++ text)).0 e)))

-- a word has no value if what follows the option is none of the three
pub without_value : (option rest word : List ℕ) → word ≡ option ++ rest → (rest ≡ codes "=auto" → ⊥) → (rest ≡ codes "=always" → ⊥)
    → (rest ≡ codes "=never" → ⊥) → has_value option word ≡ false
without_value option rest word is auto always never =
    or_from _ _ (or_from _ _ (lacks option rest word (codes "=auto") is auto) (lacks option rest word (codes "=always") is always))
    (lacks option rest word (codes "=never") is never)

-- a plain option mentions itself
pub mentions_itself : (option : List ℕ) → IsTrue (mentions option option)
mentions_itself option = let e : bytes_eq option option ≡ true = (bytes_eq-Decides option option).1 refl in rw e refl

module _ {X : Type 0} (text : X → List ℕ) (picks : List ℕ → Bool) (words made : List X) (i : ℕ) (word : X)
    (below : i < length words) (is : get_or words i word ≡ word)
    (same : filter picks (map text made) ≡ filter picks (map text (take i words))) where
  abbrev before : List (List ℕ)
  before = filter picks (map text (take i words))

  next : filter picks (map text (take (i + 1) words)) ≡ before ++ filter picks (text word ∷ [])
  next =
      ap (filter picks) (map_more text words i word below)
      ∙ filter-append picks (map text (take i words)) (text (get_or words i word) ∷ [])
      ∙ ap (λ w. before ++ filter picks (text w ∷ [])) is

  -- the word itself is added
  pub kept : (it : X) → text it ≡ text word → filter picks (map text (made ++ it ∷ [])) ≡ filter picks (map text (take (i + 1) words))
  kept it e =
      ap (filter picks) (map-append text made (it ∷ []))
      ∙ filter-append picks (map text made) (text it ∷ [])
      ∙ ap₂ ◌++◌ same (ap (λ w. filter picks (w ∷ [])) e)
      ∙ sym next

  -- the word isn't picked, and nothing is added
  pub passed : picks (text word) ≡ false → filter picks (map text made) ≡ filter picks (map text (take (i + 1) words))
  passed out =
      same
      ∙ sym (append-nil before)
      ∙ ap (λ more. before ++ more) (sym (cond-false (picks (text word)) (text word ∷ []) [] out))
      ∙ sym next

  -- the word isn't picked, nor is what is added
  pub replaced : (it : X) → picks (text it) ≡ false → picks (text word) ≡ false
      → filter picks (map text (made ++ it ∷ [])) ≡ filter picks (map text (take (i + 1) words))
  replaced it it_out out =
      ap (filter picks) (map-append text made (it ∷ []))
      ∙ filter-append picks (map text made) (text it ∷ [])
      ∙ ap (λ more. filter picks (map text made) ++ more) (cond-false (picks (text it)) (text it ∷ []) [] it_out)
      ∙ append-nil (filter picks (map text made))
      ∙ passed out
