use Rattle.std.proofs.Common.{◌≡◌, ◌||◌, drop, map, string_bytes}
use Rattle.command_line.specs.Respelling.{is_on}
use Rattle.command_line.proofs.respelled.Mentions.of.Given as goal

-- the option is on the line if it was met so far or is on what is left
abbrev pub invariant-loop-word : goal.invariant-loop-word
invariant-loop-word l = (l.is_plain || is_on l.option (map string_bytes (drop l.word-index l.words))) ≡ is_on l.option (map string_bytes l.words)
