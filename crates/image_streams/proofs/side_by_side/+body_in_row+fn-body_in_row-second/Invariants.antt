use Rattle.std.proofs.Common.{◌+◌, ◌*◌}
use Rattle.image_streams.proofs.side_by_side.+body_in_row+fn-body_in_row-second.Given as goal

-- the number of threads falls with each call of itself, and a closure stands between two of these
abbrev pub decreases-second : goal.decreases-second
decreases-second g l = 2 * l.others + 1

abbrev pub decreases-body_in_row : goal.decreases-body_in_row
decreases-body_in_row g l = 2 * l.most
