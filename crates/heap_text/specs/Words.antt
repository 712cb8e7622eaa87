-- The words that a parser has so far, and the parts of an object's line.
use Rattle.std.specs.Prelude.{◌≡◌, ⊤, ℕ, ◌+◌, length, List, [], ◌∷◌, ◌++◌, codes, flat_map, ◌==◌, if◌then◌else◌, slice_index, Result, Ok, Err, Bool, true, false}
use Rattle.std.specs.List.{list_all}
use Rattle.object_heap.specs.Version.{has_roots}
use Rattle.heap_text.specs.Text.{number_text, reference_text}
use Rattle.heap_text.specs.declared.parsed_heap.ParsedHeap.{ParsedHeap}
use Rattle.heap_text.specs.declared.word_list.WordList.{WordList}
use Rattle.heap_text.specs.declared.line_parser.line_error.LineError.{LineError}
use Rattle.heap_text.specs.declared.line_parser.line_error.LineError.TheVariants.{Memory, Expected}

-- the words of a list in chunks
abbrev pub words_of : WordList → List ℕ
words_of list = flat_map (λ chunk. chunk.items) list.full.items ++ list.last.items

-- a line is accepted with a result of which this holds, or memory runs out
abbrev pub Accepts : {T : Type 0} → Result T LineError → (T → Type 0) → Type 0
Accepts (Ok x) P = P x
Accepts (Err Memory) P = ⊤
Accepts (Err (Expected _)) P = ⊥

-- the references of an object, after their name
abbrev pub references_part : List ℕ → List ℕ
references_part [] = []
references_part (w ∷ ws) = codes " refs" ++ flat_map reference_text (w ∷ ws)

-- the words after the references of an object, after their name
abbrev pub data_part : List ℕ → List ℕ
data_part [] = []
data_part (w ∷ ws) = codes " data" ++ flat_map number_text (w ∷ ws)

abbrev pub has_some : List ℕ → Bool
has_some [] = false
has_some (w ∷ ws) = true

-- these words were pushed
pub record HasPushed (old new : WordList) (ws : List ℕ) : Type 0 where
  pub words : words_of new ≡ words_of old ++ ws
  pub len : new.len ≡ old.len + length ws

-- the numbers after the words of an image: the roots, or the live objects if it has none
abbrev pub tail_of : ParsedHeap → List ℕ
tail_of heap = if has_roots heap.version then heap.roots.items else heap.live.items

-- the head and the roots stay
pub record HasSameHead (old new : ParsedHeap) : Type 0 where
  pub version : new.version ≡ old.version
  pub region_log : new.region_log ≡ old.region_log
  pub allowance : new.allowance ≡ old.allowance
  pub roots : new.roots.items ≡ old.roots.items

-- a line gave these words and live objects
pub record HasParsed (old new : ParsedHeap) (ws objects : List ℕ) : Type 0 where
  pub words : HasPushed old.words new.words ws
  pub live : new.live.items ≡ old.live.items ++ objects
  pub head : HasSameHead old new

-- all of these words are equal
abbrev pub all_equal : List ℕ → Bool
all_equal ws = list_all (λ w. w == slice_index ws 0) ws

-- the words of a dead run: one of them if they are all equal, else each
abbrev pub dead_part : List ℕ → List ℕ
dead_part ws = if all_equal ws then codes " of" ++ number_text (slice_index ws 0) else codes " words" ++ flat_map number_text ws
