-- What a parser has of an image before each line, and what is left of its text there.
use Rattle.std.specs.Prelude.{◌≡◌, ⊤, ℕ, ◌≤◌, Bool, true, false, List, [], ◌∷◌, ◌++◌, codes, take, drop, Result, Ok, Err}
use Rattle.std.specs.Option.{is_some}
use Rattle.object_heap.specs.HeapImage.{HeapImage, HasSoundHeader, heap_words, end_of, roots_of}
use Rattle.object_heap.specs.declared.version.Version.{Version as ImageVersion}
use Rattle.heap_text.specs.Text.{number_line, roots_line, lines_from, text_of}
use Rattle.heap_text.specs.TextLines.{ended_lines}
use Rattle.heap_text.specs.Words.{words_of}
use Rattle.heap_text.specs.declared.error.AssembleError.{AssembleError}
use Rattle.heap_text.specs.declared.error.AssembleError.TheVariants.{Device, Text}
use Rattle.heap_text.specs.declared.error.TextError.{TextError}
use Rattle.heap_text.specs.declared.error.TextError.TheVariants.{Memory, Line}
use Rattle.heap_text.specs.declared.expected.Expected.{Expected}
use Rattle.heap_text.specs.declared.line_parser.LineParser.{LineParser}
use Rattle.heap_text.specs.declared.line_parser.next_line.NextLine.{NextLine}
use Rattle.heap_text.specs.declared.line_parser.next_line.NextLine.TheVariants.{Version, RegionLog, Words, Allowance, Roots, Heap}
use Rattle.heap_text.specs.declared.parsed_heap.ParsedHeap.{ParsedHeap}
use Rattle.heap_text.specs.declared.text_parser.TextParser.{TextParser}
use Rattle.heap_text.specs.declared.word_list.WordList.{WordList}

-- a text is accepted with a result of which this holds, or memory runs out
abbrev pub AcceptsText : {T : Type 0} → Result T TextError → (T → Type 0) → Type 0
AcceptsText (Ok x) P = P x
AcceptsText (Err Memory) P = ⊤
AcceptsText (Err (Line _ _)) P = ⊥

-- a text from a device is accepted, or memory runs out, or the device fails
abbrev pub AcceptsFrom : {T : Type 0} → Result T AssembleError → (T → Type 0) → Type 0
AcceptsFrom (Ok x) P = P x
AcceptsFrom (Err Device) P = ⊤
AcceptsFrom (Err (Text Memory)) P = ⊤
AcceptsFrom (Err (Text (Line _ _))) P = ⊥

-- no line is missing at the end of a text
abbrev pub AcceptsEnd : {T : Type 0} → Result T Expected → (T → Type 0) → Type 0
AcceptsEnd (Ok x) P = P x
AcceptsEnd (Err _) P = ⊥

-- these objects are sound and in order, from an address on
abbrev pub LiesAhead : HeapImage → List ℕ → ℕ → Type 0
LiesAhead image [] from = from ≤ heap_words image
LiesAhead image (a ∷ live) from = (from ≤ a) × HasSoundHeader image a × LiesAhead image live (end_of image a)

-- the address of the next live object, or the end of the heap
abbrev pub next_live : HeapImage → List ℕ → ℕ
next_live image [] = heap_words image
next_live image (a ∷ live) = a

module _ (image : HeapImage) where
  -- what follows each line of the front
  abbrev pub after_allowance : List ℕ
  after_allowance = roots_line image ++ lines_from image 0 image.live

  abbrev pub after_words : List ℕ
  after_words = number_line (codes "allowance") image.allowance ++ after_allowance

  abbrev pub after_region_log : List ℕ
  after_region_log = number_line (codes "words") (heap_words image) ++ after_words

  abbrev pub after_version : List ℕ
  after_version = number_line (codes "region-log") image.region_log ++ after_region_log

-- nothing is parsed of the words, the objects and the roots
pub record IsEmpty (list : WordList) (objects references : List ℕ) (follows_dead_run : Bool) : Type 0 where
  pub words : words_of list ≡ []
  pub len : list.len ≡ 0
  pub live : objects ≡ []
  pub roots : references ≡ []
  pub follows : follows_dead_run ≡ false

abbrev pub HasNothing : LineParser → Type 0
HasNothing parser = IsEmpty parser.heap.words parser.heap.live.items parser.heap.roots.items parser.follows_dead_run

-- version, region log and allowance are those of the image
pub record HasHead (image : HeapImage) (v : ImageVersion) (log most : ℕ) : Type 0 where
  pub version : v ≡ image.version
  pub region_log : log ≡ image.region_log
  pub allowance : most ≡ image.allowance

pub record IsAtVersion (image : HeapImage) (parser : LineParser) (text : List ℕ) : Type 0 where
  pub empty : HasNothing parser
  pub rest : text ≡ text_of image

pub record IsAtRegionLog (image : HeapImage) (parser : LineParser) (text : List ℕ) : Type 0 where
  pub empty : HasNothing parser
  pub version : parser.heap.version ≡ image.version
  pub rest : text ≡ after_version image

pub record IsAtWords (image : HeapImage) (parser : LineParser) (text : List ℕ) : Type 0 where
  pub empty : HasNothing parser
  pub version : parser.heap.version ≡ image.version
  pub region_log : parser.heap.region_log ≡ image.region_log
  pub rest : text ≡ after_region_log image

pub record IsAtAllowance (image : HeapImage) (parser : LineParser) (text : List ℕ) : Type 0 where
  pub empty : HasNothing parser
  pub version : parser.heap.version ≡ image.version
  pub region_log : parser.heap.region_log ≡ image.region_log
  pub len : parser.len ≡ heap_words image
  pub rest : text ≡ after_words image

pub record IsAtRoots (image : HeapImage) (parser : LineParser) (text : List ℕ) : Type 0 where
  pub empty : HasNothing parser
  pub head : HasHead image parser.heap.version parser.heap.region_log parser.heap.allowance
  pub len : parser.len ≡ heap_words image
  pub rooted : is_some image.roots ≡ true
  pub rest : text ≡ after_allowance image

-- the words and objects up to an address are parsed, and these objects lie ahead
pub record IsInHeap (image : HeapImage) (parser : LineParser) (text : List ℕ) : Type 0 where
  pub todo : List ℕ
  pub live : parser.heap.live.items ++ todo ≡ image.live
  pub words : words_of parser.heap.words ≡ take parser.heap.words.len image.words
  pub ahead : LiesAhead image todo parser.heap.words.len
  pub follows : parser.follows_dead_run ≡ true → parser.heap.words.len ≡ next_live image todo
  pub head : HasHead image parser.heap.version parser.heap.region_log parser.heap.allowance
  pub len : parser.len ≡ heap_words image
  pub roots : parser.heap.roots.items ≡ roots_of image
  pub rest : text ≡ lines_from image parser.heap.words.len todo

-- before this line the parser has what comes before it in the text of the image, and this is left of the text
abbrev pub ExpectsAt : NextLine → HeapImage → LineParser → List ℕ → Type 0
ExpectsAt Version = IsAtVersion
ExpectsAt RegionLog = IsAtRegionLog
ExpectsAt Words = IsAtWords
ExpectsAt Allowance = IsAtAllowance
ExpectsAt Roots = IsAtRoots
ExpectsAt Heap = IsInHeap

abbrev pub Expects : HeapImage → LineParser → List ℕ → Type 0
Expects image parser text = ExpectsAt parser.next image parser text

-- all of an image is parsed
pub record HasContents (image : HeapImage) (heap : ParsedHeap) : Type 0 where
  pub head : HasHead image heap.version heap.region_log heap.allowance
  pub words : words_of heap.words ≡ image.words
  pub len : heap.words.len ≡ heap_words image
  pub live : heap.live.items ≡ image.live
  pub roots : heap.roots.items ≡ roots_of image

-- Each line of these bytes that has ended is parsed, as far as they were seen, and `more` follows them in the text of the
-- image.
pub record IsWaiting (image : HeapImage) (parser : TextParser) (bytes : List ℕ) (seen : ℕ) (more : List ℕ) : Type 0 where
  pub expects : Expects image parser.parser (drop parser.begin bytes ++ more)
  pub one_line : ended_lines (take seen bytes) ≡ ended_lines (take parser.begin bytes)
