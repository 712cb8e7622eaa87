-- What contracts see of a finished board.
use Rattle.std.specs.Prelude.{List}
use Rattle.scheduler.specs.declared.entry.Entry.{Entry}
use Rattle.claim_board.specs.declared.finished.Finished.{Finished}

-- the whole history
abbrev pub history : Finished → List Entry
history f = f.last.value.me.0.note
