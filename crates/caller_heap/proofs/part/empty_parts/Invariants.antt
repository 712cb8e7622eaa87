use Rattle.std.proofs.Common.{◌≡◌, ◌≤◌, All, vec_len}
use Rattle.std.specs.Vec.{vec_capacity}
use Rattle.caller_heap.proofs.part.empty_parts.Given as goal

-- the parts so far have their words from there
abbrev pub invariant-loop : goal.invariant-loop
invariant-loop l = record {
  count : vec_len l.boxes ≡ l.counter;
  origin : All (λ part. part.value.origin ≡ l.fn.origin) l.boxes.items;
  room : l.fn.workers ≤ vec_capacity l.boxes;
}
