use Rattle.std.proofs.Common.{◌+◌, ◌*◌, length}
use Rattle.mark_bitmap.proofs.live_shares.+parts.Given as goal

-- the words become fewer with each call of `mark`; a closure stands between two of these
abbrev pub decreases-LiveShares::mark : goal.decreases-LiveShares::mark
decreases-LiveShares::mark g l = 4 * length l.words.now

abbrev pub decreases-high : goal.decreases-high
decreases-high g l = 4 * length l.high_words.now + 1

abbrev pub decreases-low : goal.decreases-low
decreases-low g l = 4 * length l.low_words.now + 1
