-- The bytes of a line, and how many it can have.
use Rattle.std.specs.Prelude.{ℕ, ◌+◌, ◌*◌, Bool, ◌&&◌, ◌||◌, ◌==◌, nat_le}
use Rattle.heap_text.specs.declared.line_parser.next_line.NextLine.{NextLine}
use Rattle.heap_text.specs.declared.line_parser.next_line.NextLine.TheVariants.{Version, RegionLog, Words, Allowance, Roots, Heap}

-- a space, a hyphen, an at sign, a digit or a small letter
abbrev pub is_text_byte : ℕ → Bool
is_text_byte b = (b == 32) || (b == 45) || (b == 64) || (nat_le 48 b && nat_le b 57) || (nat_le 97 b && nat_le b 122)

-- no line of this kind has more bytes, in a heap of this many words
abbrev pub longest : NextLine → ℕ → ℕ
longest Version len = 64
longest RegionLog len = 64
longest Words len = 64
longest Allowance len = 64
longest Roots len = 64 + 21 * len
longest Heap len = 64 + 21 * len
