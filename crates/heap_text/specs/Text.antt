-- The text of a heap: a head, and then a line for each live object and each run of dead words.
use Rattle.std.specs.Prelude.{ℕ, ◌+◌, ◌-◌, nat_le, ◌==◌, Bool, if◌then◌else◌, List, [], ◌∷◌, ◌++◌, codes, decimal, flat_map}
use Rattle.std.specs.List.{range_with_len, list_all}
use Rattle.std.specs.Option.{is_some}
use Rattle.object_heap.specs.HeapImage.{HeapImage, version_of, roots_of, heap_words, word_at, size_at, references_at, end_of}

-- the addresses from one up to another
abbrev pub addresses_between : ℕ → ℕ → List ℕ
addresses_between from to = range_with_len from (to - from)

-- a space and a reference or a root
abbrev pub reference_text : ℕ → List ℕ
reference_text w = if w == 0 then codes " null" else codes " @" ++ decimal (w - 1)

-- a space and a number
abbrev pub number_text : ℕ → List ℕ
number_text w = codes " " ++ decimal w

-- a line of a name and a number
abbrev pub number_line : List ℕ → ℕ → List ℕ
number_line name n = name ++ (codes " " ++ (decimal n ++ codes "\n"))

abbrev pub roots_text : List ℕ → List ℕ
roots_text roots = codes "roots" ++ (flat_map reference_text roots ++ codes "\n")

module _ (image : HeapImage) where
  -- the lines before the words: version, region log, number of words, allowance, and the roots where the version has them
  abbrev pub front_text : List ℕ
  front_text = number_line (codes "heap version") (version_of image)
      ++ (number_line (codes "region-log") image.region_log
      ++ (number_line (codes "words") (heap_words image)
      ++ number_line (codes "allowance") image.allowance))

  abbrev pub roots_line : List ℕ
  roots_line = if is_some image.roots then roots_text (roots_of image) else []

  -- the words from one address up to another as references after their name, if there are any
  abbrev pub references_text : ℕ → ℕ → List ℕ
  references_text from to =
      if nat_le to from then [] else codes " refs" ++ flat_map (λ a. reference_text (word_at image a)) (addresses_between from to)

  -- the words from one address up to another as numbers after this name, if there are any
  abbrev pub numbers_text : List ℕ → ℕ → ℕ → List ℕ
  numbers_text name from to =
      if nat_le to from then [] else name ++ flat_map (λ a. number_text (word_at image a)) (addresses_between from to)

  -- the line of the object at an address: its size, its references, and the words after them
  abbrev pub object_text : ℕ → List ℕ
  object_text a = codes "@" ++ (decimal a ++ (codes " object " ++ (decimal (size_at image a)
      ++ (references_text (a + 1) (a + 1 + references_at image a)
      ++ (numbers_text (codes " data") (a + 1 + references_at image a) (end_of image a)
      ++ codes "\n")))))

  -- the words from one address up to another are all equal
  abbrev pub are_equal : ℕ → ℕ → Bool
  are_equal from to = list_all (λ a. word_at image a == word_at image from) (addresses_between from to)

  -- the words of a dead run: one of them if they are all equal, else each
  abbrev pub dead_words_text : ℕ → ℕ → List ℕ
  dead_words_text from to =
      if are_equal from to then codes " of" ++ number_text (word_at image from) else numbers_text (codes " words") from to

  -- the line of the dead words from one address up to another, if there are any
  abbrev pub dead_text : ℕ → ℕ → List ℕ
  dead_text from to = if nat_le to from then [] else codes "@" ++ (decimal from ++ (codes " dead " ++ (decimal (to - from)
      ++ (dead_words_text from to ++ codes "\n"))))

  -- the lines of the words from an address on, where these are the live objects
  abbrev pub lines_from : ℕ → List ℕ → List ℕ
  lines_from from [] = dead_text from (heap_words image)
  lines_from from (a ∷ live) = dead_text from a ++ (object_text a ++ lines_from (end_of image a) live)

  abbrev pub text_of : List ℕ
  text_of = front_text ++ (roots_line ++ lines_from 0 image.live)
