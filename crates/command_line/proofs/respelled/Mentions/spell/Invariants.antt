use Rattle.std.proofs.Common.{◌≡◌, ℕ, Bool, false, List, ◌++◌, map, filter, take, drop, string_bytes, IsTrue}
use Rattle.command_line.specs.Respelling.{mentions, plain_words}
use Rattle.command_line.proofs.Lemmas.Plain.{rest_of}
use Rattle.command_line.proofs.respelled.Mentions.spell.Given as goal

-- the words so far, with what is left to spell, are the plain line; of the words so far, those that don't mention the option are kept
abbrev pub invariant-loop-word : goal.invariant-loop-word
invariant-loop-word l =
    (map string_bytes l.spelled.items ++ rest_of l.self.option.now l.are_options l.is_there (map string_bytes (drop l.word-index l.words))
    ≡ plain_words l.self.option.now l.self.is_plain (map string_bytes l.words))
    × ((picks : List ℕ → Bool) → ((word : List ℕ) → IsTrue (mentions l.self.option.now word) → picks word ≡ false)
    → filter picks (map string_bytes l.spelled.items) ≡ filter picks (map string_bytes (take l.word-index l.words)))
