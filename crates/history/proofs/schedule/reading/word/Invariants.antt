use Rattle.std.proofs.Common.{take}
use Rattle.std.specs.Prelude.{IsTrue}
use Rattle.history.specs.Reading.{is_without}
use Rattle.history.proofs.schedule.reading.word.Given as goal

abbrev pub invariant-loop-i : goal.invariant-loop-i
invariant-loop-i l = IsTrue (is_without l.end (take l.i l.bytes))
