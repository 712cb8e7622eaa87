use Rattle.std.proofs.Common.{◌≡◌, ◌<◌, ◌^◌, All, length, take}
use Rattle.std.specs.List.{concat}
use Rattle.heap_image.proofs.from_regions.word_count.Given as goal

-- the words of the regions so far
abbrev pub invariant-loop-region : goal.invariant-loop-region
invariant-loop-region l = record {
  count : l.words ≡ length (concat (take l.region-index l.regions));
  fit : All (λ w. w < 2 ^ 64) (concat (take l.region-index l.regions));
}
