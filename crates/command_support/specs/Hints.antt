-- What the first bytes of a file say of it.
use Rattle.std.specs.Prelude.{ℕ, List, [], ◌∷◌, Bool, true, false, ◌&&◌, ◌||◌, Option, None, Some, codes, if◌then◌else◌, nat_eq, nat_lt}
use Rattle.std.specs.List.{starts_with}
use Rattle.command_support.specs.declared.files.content.Content.{Content}
use Rattle.command_support.specs.declared.files.content.Content.TheVariants.{Image, Dump, AndroidDump, Schedule, Text, Packed, Picture}
use Rattle.command_support.specs.declared.trouble.hint.Hint.{Hint}
use Rattle.command_support.specs.declared.trouble.hint.Hint.TheVariants.{CutShort, Empty, Has, LiveOnly, TooLarge}
use Rattle.dump_records.specs.declared.error.ImportError.{ImportError}
use Rattle.dump_records.specs.declared.error.Problem.{Problem}

-- the file begins with this text
abbrev pub begins : List ℕ → List ℕ → Bool
begins front text = starts_with nat_eq front text

-- what a file with these first bytes has
abbrev pub content_of : List ℕ → Option Content
content_of front =
    if begins front (codes "PCHEAP01") || begins front (codes "PCHEAP02") || begins front (codes "PCHEAP03") then Some Image
    else (if begins front (codes "JAVA PROFILE 1.0.3") then Some AndroidDump
    else (if begins front (codes "JAVA PROFILE ") then Some Dump
    else (if begins front (codes "schedule ") then Some Schedule
    else (if begins front (codes "heap version ") then Some Text
    else (if begins front (31 ∷ 139 ∷ []) then Some Packed
    else (if begins front (137 ∷ codes "PNG") then Some Picture
    else None))))))

-- the hint where the first is wanted and the second is in the file
abbrev pub hint_of_found : Content → Option Content → Option Hint
hint_of_found wanted None = None
hint_of_found Image (Some Image) = None
hint_of_found Dump (Some Dump) = None
hint_of_found Schedule (Some Schedule) = None
hint_of_found Text (Some Text) = None
hint_of_found Packed (Some Packed) = None
hint_of_found AndroidDump (Some AndroidDump) = None
hint_of_found Picture (Some Picture) = None
hint_of_found wanted (Some found) = Some (Has found wanted)

-- the hint where this is wanted and the file has these first bytes
abbrev pub hint_of : Content → List ℕ → Option Hint
hint_of wanted [] = Some Empty
hint_of wanted (byte ∷ rest) = hint_of_found wanted (content_of (byte ∷ rest))

-- the hint about a dump of `words` words, `live_words` of them of reachable objects, where an image may have `most`
abbrev pub hint_of_words : ℕ → ℕ → ℕ → Hint
hint_of_words words most live_words = if nat_lt most live_words then TooLarge live_words most else LiveOnly words most live_words

-- a file with these first bytes is a dump
abbrev pub is_dump : Option Content → Bool
is_dump (Some Dump) = true
is_dump other = false

-- the dump ends too early
abbrev pub is_early_end : ImportError → Bool
is_early_end (ImportError.Malformed offset Problem.Cut) = true
is_early_end (ImportError.Malformed offset Problem.NoHeap) = true
is_early_end (ImportError.Malformed offset Problem.NoEnd) = true
is_early_end error = false

-- the hint about a dump with these first bytes, of which no image is made because of this error
abbrev pub hint_of_dump : ImportError → List ℕ → Option Hint
hint_of_dump (ImportError.TooManyWords words most live_words) front = Some (hint_of_words words most live_words)
hint_of_dump (ImportError.TooManyLiveWords words most) front = Some (TooLarge words most)
hint_of_dump error front = if is_early_end error && is_dump (content_of front) then Some CutShort else hint_of Dump front
