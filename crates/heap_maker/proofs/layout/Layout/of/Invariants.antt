use Rattle.std.proofs.Common.{◌≡◌, ◌+◌, ◌≤◌, length}
use Rattle.heap_maker.proofs.layout.Layout.of.Given as goal

-- each object has at least one word, and the next one begins at their end
abbrev pub invariant-loop-room : goal.invariant-loop-room
invariant-loop-room l = (length l.layout.live.items + (l.room.live + l.room.dead) ≤ l.initial.room.live + l.initial.room.dead)
    × (l.reference + (l.room.live + l.room.dead) ≡ 1 + (l.initial.room.live + l.initial.room.dead))

abbrev pub decreases-loop-room : goal.decreases-loop-room
decreases-loop-room l = l.room.live + l.room.dead
