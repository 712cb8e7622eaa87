use Rattle.std.proofs.Common.{◌≡◌, length, ◌-◌, take, drop}
use Rattle.std.specs.Prelude.{map}
use Rattle.std.specs.List.{concat}
use Rattle.fill.specs.MovedHeap.{cleared}
use Rattle.fill.proofs.cleanup.clear.clear_above.Given as goal

abbrev pub invariant-loop-region : goal.invariant-loop-region
invariant-loop-region l = record {
  kept : l.kept ≡ l.new_top - length (concat (take l.region-index l.initial.regions));
  done : concat (take l.region-index l.regions) ≡ cleared l.new_top (concat (take l.region-index l.initial.regions));
  rest : drop l.region-index l.regions ≡ drop l.region-index l.initial.regions;
  long : map length l.regions ≡ map length l.initial.regions;
}
