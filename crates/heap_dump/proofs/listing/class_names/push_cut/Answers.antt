use Rattle.std.proofs.Common.{arith}
use Rattle.std.proofs.lemmas.List.{length-take}
use Rattle.heap_dump.proofs.listing.class_names.push_cut.Goals as goal

pub slice_bounds-push_bytes-end : goal.slice_bounds-push_bytes-end
slice_bounds-push_bytes-end c = omega (arith, length-take 500 c.args.name.now, c.if-name-le-MOST_SHOWN.false)
