use Rattle.std.proofs.Common.{◌≡◌, ◌≤◌, ◌++◌, take, drop, length, vec_len}
use Rattle.std.specs.Prelude.{map}
use Rattle.caller_heap.specs.Lent.{content, held}
use Rattle.caller_heap.proofs.lending.keep_all.Given as goal

-- the first regions are still out, and the others are back
abbrev pub invariant-loop-region : goal.invariant-loop-region
invariant-loop-region l = record {
  out : l.regions.items ≡ take (vec_len l.regions) l.fn.regions.items;
  few : vec_len l.regions ≤ vec_len l.fn.regions;
  front : take (vec_len l.regions) l.words ≡ take (vec_len l.regions) l.initial.words;
  long : length l.words ≡ length l.initial.words;
  kept : map content (drop (vec_len l.regions) l.words) ≡ map held (drop (vec_len l.regions) l.fn.regions.items) ++ map content (drop (vec_len l.fn.regions) l.initial.words);
}

abbrev pub decreases-loop-region : goal.decreases-loop-region
decreases-loop-region l = vec_len l.regions
