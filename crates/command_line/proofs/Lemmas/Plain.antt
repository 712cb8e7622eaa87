-- The line with plain options, as its words are gone through.
use Rattle.std.proofs.Common.{◌≡◌, ℕ, ◌+◌, ◌<◌, ◌≤◌, Bool, ◌||◌, ◌&&◌, not, false, true, if◌then◌else◌, List, [], ◌∷◌, ◌++◌, map, drop, length, get_or, bytes_eq, codes, sym, ap, ap₂, ◌∙◌, refl}
use Rattle.std.proofs.Math.Bool.{or_assoc}
use Rattle.std.proofs.lemmas.Bool.{cases_Bool, cond-false, cond-true, false≢true}
use Rattle.std.proofs.Math.Logic.{⊎_elim}
use Rattle.std.proofs.lemmas.List.{append-nil, append_assoc, at_drop_all, at_drop_more, map-append}
use Rattle.command_line.specs.Respelling.{has_value, is_on, plain_words}

-- the plain line of what is left, where there may still be options, or what is left itself
abbrev pub rest_of : List ℕ → Bool → Bool → List (List ℕ) → List (List ℕ)
rest_of option are is_there line = if are then plain_words option is_there line else line

or_false : (was : Bool) → (was || false) ≡ was
or_false true = refl
or_false false = refl

rest_of_none : (option : List ℕ) (are is_there : Bool) → rest_of option are is_there [] ≡ []
rest_of_none option true is_there = refl
rest_of_none option false is_there = refl

-- there may still be options if there might and the word isn't `--`
both : (are dashes : Bool) → (are && not dashes) ≡ true → (are ≡ true) × (dashes ≡ false)
both true false e = (refl, refl)
both true true e = absurd (false≢true e)
both false dashes e = absurd (false≢true e)

module _ {X : Type 0} (text : X → List ℕ) (option : List ℕ) (words : List X) (i : ℕ) where
  -- what is left of the line
  abbrev left : List (List ℕ)
  left = map text (drop i words)

  -- at the end
  pub is_on_at_end : (was all : Bool) → length words ≤ i → (was || is_on option left) ≡ all → was ≡ all
  is_on_at_end was all end same =
      sym (or_false was)
      ∙ ap (λ more. was || more) (sym (at_drop_all (λ l. is_on option (map text l)) words i end))
      ∙ same

  module _ (word : X) (below : i < length words) (is : get_or words i word ≡ word) where
    -- the words after this one
    abbrev others : List (List ℕ)
    others = map text (drop (i + 1) words)

    next : {Y : Type 0} (F : List (List ℕ) → Y) → F left ≡ F (text word ∷ others)
    next F = at_drop_more (λ l. F (map text l)) words i word below ∙ ap (λ w. F (text w ∷ others)) is

    -- at the word `--`
    pub is_on_at_dashes : (was all : Bool) → bytes_eq (text word) (codes "--") ≡ true → (was || is_on option left) ≡ all → was ≡ all
    is_on_at_dashes was all dashes same =
        sym (or_false was)
        ∙ ap (λ more. was || more) (sym (next (is_on option) ∙ cond-true (bytes_eq (text word) (codes "--")) _ _ dashes))
        ∙ same

    -- at any other word
    pub is_on_at_word : (was now all : Bool) → bytes_eq (text word) (codes "--") ≡ false → now ≡ (was || bytes_eq (text word) option)
        → (was || is_on option left) ≡ all → (now || is_on option others) ≡ all
    is_on_at_word was now all other becomes same =
        ap (λ b. b || is_on option others) becomes
        ∙ or_assoc was (bytes_eq (text word) option) (is_on option others)
        ∙ ap (λ more. was || more) (sym (next (is_on option) ∙ cond-false (bytes_eq (text word) (codes "--")) _ _ other))
        ∙ same

    abbrev is_end : Bool
    is_end = bytes_eq (text word) (codes "--")

    abbrev has : Bool
    has = has_value option (text word)

    -- an option with a value, where the plain option isn't there yet
    pub first_value : (are is_there now there : Bool) → now ≡ (are && not is_end) → now ≡ true → has ≡ true → is_there ≡ false → there ≡ true
        → rest_of option are is_there (text word ∷ others) ≡ option ∷ rest_of option now there others
    first_value are is_there now there becomes may value lacks is_now =
        let goes = both are is_end (sym becomes ∙ may) in
        cond-true are _ _ goes.0 ∙ cond-false is_end _ _ goes.1 ∙ cond-true has _ _ value ∙ cond-false is_there _ _ lacks
        ∙ ap (λ l. option ∷ l) (sym (ap₂ (λ n t. rest_of option n t others) may is_now))

    -- an option with a value, where the plain option is there
    pub further_value : (are is_there now there : Bool) → now ≡ (are && not is_end) → now ≡ true → has ≡ true → is_there ≡ true → there ≡ true
        → rest_of option are is_there (text word ∷ others) ≡ rest_of option now there others
    further_value are is_there now there becomes may value is_known is_now =
        let goes = both are is_end (sym becomes ∙ may) in
        cond-true are _ _ goes.0 ∙ cond-false is_end _ _ goes.1 ∙ cond-true has _ _ value ∙ cond-true is_there _ _ is_known
        ∙ sym (ap₂ (λ n t. rest_of option n t others) may is_now)

    -- any other word
    pub other_word : (are is_there now : Bool) → now ≡ (are && not is_end) → (now ≡ true → has ≡ false)
        → rest_of option are is_there (text word ∷ others) ≡ text word ∷ rest_of option now is_there others
    other_word are is_there now becomes value = ⊎_elim
        (λ may. ⊎_elim
        (λ ends. cond-true are _ _ may ∙ cond-true is_end _ _ ends
        ∙ ap (λ l. text word ∷ l) (sym (cond-false now _ _ (becomes ∙ ap₂ (λ a e. a && not e) may ends))))
        (λ goes.
        let e : now ≡ true = becomes ∙ ap₂ (λ a e. a && not e) may goes in
        cond-true are _ _ may ∙ cond-false is_end _ _ goes ∙ cond-false has _ _ (value e)
        ∙ ap (λ l. text word ∷ l) (sym (cond-true now _ _ e)))
        (cases_Bool is_end))
        (λ none. cond-false are _ _ none ∙ ap (λ l. text word ∷ l) (sym (cond-false now _ _ (becomes ∙ ap (λ a. a && not is_end) none))))
        (cases_Bool are)

    module _ (made : List X) (are is_there now there : Bool) (all : List (List ℕ))
        (same : map text made ++ rest_of option are is_there left ≡ all) where
      same_next : map text made ++ rest_of option are is_there (text word ∷ others) ≡ all
      same_next = ap (λ l. map text made ++ l) (sym (next (rest_of option are is_there))) ∙ same

      -- a word is added
      pub grown : (it : X) → rest_of option are is_there (text word ∷ others) ≡ text it ∷ rest_of option now there others
          → map text (made ++ it ∷ []) ++ rest_of option now there others ≡ all
      grown it e =
          ap (λ l. l ++ rest_of option now there others) (map-append text made (it ∷ []))
          ∙ append_assoc (map text made) (text it ∷ []) (rest_of option now there others)
          ∙ ap (λ l. map text made ++ l) (sym e)
          ∙ same_next

      -- nothing is added
      pub passed_over : rest_of option are is_there (text word ∷ others) ≡ rest_of option now there others
          → map text made ++ rest_of option now there others ≡ all
      passed_over e = ap (λ l. map text made ++ l) (sym e) ∙ same_next

  -- at the end
  pub plain_at_end : (made : List X) (are is_there : Bool) (all : List (List ℕ)) → length words ≤ i
      → map text made ++ rest_of option are is_there left ≡ all → map text made ≡ all
  plain_at_end made are is_there all end same =
      sym (append-nil (map text made))
      ∙ ap (λ l. map text made ++ l) (sym (at_drop_all (λ l. rest_of option are is_there (map text l)) words i end ∙ rest_of_none option are is_there))
      ∙ same
