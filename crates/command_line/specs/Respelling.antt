-- Lines in which options have a value that may be left out.
use Rattle.std.specs.Prelude.{Bool, true, false, ◌||◌, not, List, [], ◌∷◌, ◌++◌, map, filter, if◌then◌else◌, String, codes, string_bytes, bytes_eq}
use Rattle.clap.specs.Walk.{Text}

-- the word is this option with a value
abbrev pub has_value : Text → Text → Bool
has_value option word = bytes_eq word (option ++ codes "=auto") || bytes_eq word (option ++ codes "=always")
    || bytes_eq word (option ++ codes "=never")

-- the word is this option, plain or with a value
abbrev pub mentions : Text → Text → Bool
mentions option word = bytes_eq word option || has_value option word

-- the plain option is on the line, before the word `--`: after that there are no options
abbrev pub is_on : Text → List Text → Bool
is_on option [] = false
is_on option (word ∷ others) = if bytes_eq word (codes "--") then false else bytes_eq word option || is_on option others

-- the line with the plain option in place of the first value, unless it is on the line already, and without the other values
abbrev pub plain_words : Text → Bool → List Text → List Text
plain_words option is_there [] = []
plain_words option is_there (word ∷ others) =
    if bytes_eq word (codes "--") then word ∷ others
    else (if has_value option word then (if is_there then plain_words option true others else option ∷ plain_words option true others)
    else word ∷ plain_words option is_there others)

-- the line with this option plain
abbrev pub plain_by : Text → List Text → List Text
plain_by option line = plain_words option (is_on option line) line

-- the line with plain `--verbose`, `--color` and `--progress`
abbrev pub plain_line : List Text → List Text
plain_line line = plain_by (codes "--progress") (plain_by (codes "--color") (plain_by (codes "--verbose") line))

module _ {A : Type 0} where
  -- the texts of the words but `--verbose`, `--color` and `--progress`, plain or with a value
  abbrev pub other_texts : List (String A) → List Text
  other_texts words =
      filter (λ w. not (mentions (codes "--verbose") w || mentions (codes "--color") w || mentions (codes "--progress") w)) (map string_bytes words)
