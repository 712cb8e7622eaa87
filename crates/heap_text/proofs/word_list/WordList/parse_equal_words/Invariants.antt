use Rattle.std.proofs.Common.{◌+◌, ◌≤◌, replicate}
use Rattle.heap_text.specs.Words.{HasPushed}
use Rattle.heap_text.proofs.word_list.WordList.parse_equal_words.Given as goal

abbrev pub invariant-loop-i : goal.invariant-loop-i
invariant-loop-i l = l.fn.self.len + l.count ≤ l.len → HasPushed l.fn.self l.self (replicate l._i l.word)
