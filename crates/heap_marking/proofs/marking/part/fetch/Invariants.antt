use Rattle.std.proofs.Common.{◌≡◌, take, All, get_or}
use Rattle.std.specs.Vec.{vec_capacity}
use Rattle.heap_marking.specs.Marking.{waiting_addresses}
use Rattle.heap_marking.proofs.marking.part.fetch.Given as goal

abbrev pub invariant-loop-address : goal.invariant-loop-address
invariant-loop-address l = record {
  addresses : waiting_addresses l.batch.items ≡ take l.address-index l.addresses;
  fetched : All (λ w. w.header ≡ get_or l.heap.words w.address 0) l.batch.items;
  batch_capacity : vec_capacity l.batch ≡ vec_capacity l.initial.batch;
}
