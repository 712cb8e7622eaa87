use Rattle.std.proofs.Common.{◌≡◌, take, ltb}
use Rattle.std.specs.Prelude.{fold, filter}
use Rattle.summary.specs.NewAddresses.{next_after, prefix_end}
use Rattle.plain_compaction.proofs.plainly.next_at.Given as goal

abbrev pub invariant-loop-a : goal.invariant-loop-a
invariant-loop-a l = l.next ≡ fold (next_after l.image) (prefix_end l.image) (filter (λ b. ltb b l.limit) (take l.a-index l.a-items))
