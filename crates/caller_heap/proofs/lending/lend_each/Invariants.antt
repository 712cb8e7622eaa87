use Rattle.std.proofs.Common.{◌≡◌, ◌≤◌, take, drop, length, vec_len}
use Rattle.std.specs.Prelude.{All, map}
use Rattle.std.specs.Vec.{vec_capacity}
use Rattle.object_heap.specs.HeapImage.{AreBlocks}
use Rattle.caller_heap.specs.Lent.{IsHeld, IsGone, words_in}
use Rattle.caller_heap.proofs.lending.lend_each.Given as goal

-- the words so far were held and are lent, each a region, and the rest are as they were
abbrev pub invariant-loop-place : goal.invariant-loop-place
invariant-loop-place l = record {
  lent : l.regions.items ≡ map words_in (take l.place-index l.initial.words);
  count : vec_len l.regions ≡ l.place-index;
  held : All IsHeld (take l.place-index l.initial.words);
  gone : All IsGone (take l.place-index l.words);
  rest : drop l.place-index l.words ≡ drop l.place-index l.initial.words;
  long : length l.words ≡ length l.initial.words;
  room : length l.initial.words ≤ vec_capacity l.regions;
  whole : AreBlocks l.region_log (map words_in (take l.place-index l.initial.words));
}
