use Rattle.std.proofs.Common.{◌+◌, ◌-◌, ◌*◌, length}
use Rattle.heap_marking.proofs.live_list.+parts.Given as goal

-- the words become fewer with each call of `write`; `write_both` and a closure stand between two of these
abbrev pub decreases-ListWriter::write : goal.decreases-ListWriter::write
decreases-ListWriter::write g l = 3 * (length l.self.now.words.now - l.first)

abbrev pub decreases-ListWriter::write_both : goal.decreases-ListWriter::write_both
decreases-ListWriter::write_both g l = 3 * (length l.self.now.words.now - (l.first + l.self.now.share)) + 2

abbrev pub decreases-ListWriter::write_both-upper : goal.decreases-ListWriter::write_both-upper
decreases-ListWriter::write_both-upper g l = 3 * (length l.self.now.words.now - l.middle) + 1
