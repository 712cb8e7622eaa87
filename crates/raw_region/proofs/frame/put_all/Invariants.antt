use Rattle.std.proofs.Common.{◌≡◌, ◌≤◌}
use Rattle.std.specs.Prelude.{map}
use Rattle.std.specs.List.{range_with_len}
use Rattle.std.specs.Vec.{vec_capacity}
use Rattle.raw_region.specs.Frame.{place_of, IsRest}
use Rattle.raw_region.proofs.frame.put_all.Given as goal

abbrev pub invariant-loop : goal.invariant-loop
invariant-loop l =
    (l.place ≡ place_of l.fn.first.root l.fn.first.size l.counter) ×
    IsRest l.fn.first.root l.fn.first.size l.fn.count l.counter l.rest ×
    (l.slots.items ≡ map (place_of l.fn.first.root l.fn.first.size) (range_with_len 0 l.counter)) ×
    (l.fn.count ≤ vec_capacity l.slots)
