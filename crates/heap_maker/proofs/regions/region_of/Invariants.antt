use Rattle.std.proofs.Common.{◌≡◌, ◌^◌, length}
use Rattle.heap_maker.proofs.regions.region_of.Given as goal

abbrev pub invariant-loop-place : goal.invariant-loop-place
invariant-loop-place l = length l.region ≡ 2 ^ l.region_log
