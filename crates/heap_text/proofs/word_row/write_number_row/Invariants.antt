use Rattle.std.proofs.Common.{◌≡◌, ◌+◌, ◌-◌, ◌*◌, ◌≤◌, drop}
use Rattle.std.specs.Prelude.{flat_map}
use Rattle.object_heap.specs.HeapImage.{word_at}
use Rattle.heap_text.specs.Text.{addresses_between, number_text}
use Rattle.heap_text.proofs.word_row.write_number_row.Given as goal

-- the words from the place on are written, and each word that is left has room
abbrev pub invariant-loop-place : goal.invariant-loop-place
invariant-loop-place l = record {
  from : l.from ≤ l.place;
  to : l.place ≤ l.to;
  begin : l.begin ≤ 352;
  room : 352 ≤ l.begin + 22 * (l.to - l.place);
  text : drop l.begin l.row ≡ flat_map (λ a. number_text (word_at l.image a)) (addresses_between l.place l.to);
}

abbrev pub decreases-loop-place : goal.decreases-loop-place
decreases-loop-place l = l.place - l.from
