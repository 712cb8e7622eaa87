use Rattle.std.proofs.Common.{◌≡◌, ◌<◌, ℕ, List, length, get_or}
use Rattle.heap_marking.specs.Boxes.{arrives, leads}
use Rattle.heap_marking.proofs.marking.start.rows_of.Given as goal

abbrev pub invariant-loop : goal.invariant-loop
invariant-loop l = record {
  count : length l.rows.items ≡ l.counter;
  each : (j : ℕ) → (d : List (List ℕ)) → j < length l.rows.items → length (get_or l.rows.items j d) ≡ l.fn.count;
  sent : (k : ℕ) → (b : ℕ) → arrives l.rows.items k b ≡ leads l.fn.row k b;
}
