use Rattle.std.proofs.Common.{◌≡◌, drop}
use Rattle.heap_text.proofs.Lemmas.TokenSteps.{read_on}
use Rattle.heap_text.proofs.line_parser.tokens.parse_number.Given as goal

-- the digits that are left continue the number
abbrev pub invariant-loop-byte : goal.invariant-loop-byte
invariant-loop-byte l = read_on l.number (drop l.byte-index l.token) ≡ read_on 0 l.token
