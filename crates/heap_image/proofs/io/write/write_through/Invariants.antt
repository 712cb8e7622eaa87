use Rattle.std.proofs.Common.{◌≡◌, ◌*◌, take}
use Rattle.object_heap.specs.HeapImage.{region_words}
use Rattle.image_streams.specs.Numbers.{numbers}
use Rattle.image_streams.specs.Outgoing.{HasRoom, unsent_bytes, Sends}
use Rattle.heap_image.proofs.io.write.write_through.Given as goal

abbrev pub invariant-loop-r : goal.invariant-loop-r
invariant-loop-r g l = record {
  room : HasRoom l.outgoing;
  sent : Sends (g.W.Outlet.took l.initial.writer) (g.W.Outlet.took l.writer) (unsent_bytes l.initial.outgoing) (unsent_bytes l.outgoing) (numbers (take (l.r * region_words l.image) l.image.words));
  failed : g.W.Outlet.has_failed l.writer ≡ g.W.Outlet.has_failed l.initial.writer;
}
