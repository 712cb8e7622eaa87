use Rattle.std.proofs.Common.{◌≡◌, take}
use Rattle.std.specs.Prelude.{map, sum}
use Rattle.std.specs.List.{range_with_len}
use Rattle.heap_dump.specs.Totals.{held, last_end, last_padding, padding_before, wide_gap_before}
use Rattle.heap_dump.proofs.dead_words.DeadWords.of.Given as goal

abbrev pub invariant-loop-object : goal.invariant-loop-object
invariant-loop-object l = record {
  end : l.end ≡ last_end (take l.object-index l.objects);
  most : l.most ≡ last_padding l.names (take l.object-index l.objects);
  padding : l.padding ≡ held (sum (map (padding_before l.names l.objects) (range_with_len 0 l.object-index)));
  gaps : l.gaps ≡ held (sum (map (wide_gap_before l.names l.objects) (range_with_len 0 l.object-index)));
}
