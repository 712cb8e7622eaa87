use Rattle.std.proofs.Common.{◌≡◌, ◌<◌, ◌≤◌, ◌^◌, ◌*◌, All, length, take}
use Rattle.std.specs.List.{concat}
use Rattle.heap_dump.proofs.limits.words_of.Given as goal

abbrev pub invariant-loop-region : goal.invariant-loop-region
invariant-loop-region l = record {
  count : l.words ≡ length (concat (take l.region-index l.regions));
  few : l.words ≤ l.region-index * 1048576;
  fit : All (λ w. w < 2 ^ 64) (concat (take l.region-index l.regions));
}
