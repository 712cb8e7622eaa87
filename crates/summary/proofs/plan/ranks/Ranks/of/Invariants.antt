use Rattle.std.proofs.Common.{◌≡◌, ℕ, ◌+◌, ◌-◌, ◌*◌, ◌<◌, ◌≤◌, length, get_or}
use Rattle.summary.specs.Ranks.{ones_from, rank_of}
use Rattle.summary.proofs.plan.ranks.Ranks.of.Given as goal

abbrev pub invariant-loop-i : goal.invariant-loop-i
invariant-loop-i l = record {
  made : length l.steps.items ≡ l.i;
  begun : l.i ≤ 1024 * length l.starts.items;
  no_more : 1024 * length l.starts.items < l.i + 1024;
  rank : l.rank ≡ ones_from l.first l.bits l.i;
  few : l.rank ≤ l.first + 64 * l.i;
  above : l.start ≤ l.rank;
  near : l.rank + 65536 * length l.starts.items ≤ l.start + 64 * l.i + 65536;
  last : 0 < length l.starts.items → get_or l.starts.items (length l.starts.items - 1) 0 ≡ l.start;
  ranks : (k : ℕ) → k < l.i → rank_of l.starts.items l.steps.items k ≡ ones_from l.first l.bits k;
}
