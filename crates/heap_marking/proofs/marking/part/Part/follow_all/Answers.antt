use Rattle.std.proofs.Common.{◌++◌, arith}
use Rattle.object_heap.specs.HeapImage.{HeapImage}
use Rattle.heap_marking.specs.Marking.{waiting_addresses}
use Rattle.heap_marking.specs.declared.marking.part.Part.{Part}
use Rattle.heap_marking.proofs.Lemmas.Running.{running_cut, waiting_cut}
use Rattle.heap_marking.proofs.marking.part.Part.follow_all.Goals as goal

pub take_batch-requires-clause-inside : goal.take_batch-requires-clause-inside
take_batch-requires-clause-inside c = λ a h. (c.loop-self.invariant.inside a h).0

pub follow_batch-requires-clause-inside : goal.follow_batch-requires-clause-inside
follow_batch-requires-clause-inside c =
    let p : Part = c.loop-self.self in
    let p' : Part = c.take_batch.new.self in
    let taken = c.take_batch.ensures in
    waiting_cut c.args.log c.args.heap.now p p' p.stack.items (waiting_addresses c.take_batch.new.batch.items) taken.first taken.bits taken.cut c.loop-self.invariant.inside

pub loop-self-preserved : goal.loop-self-preserved
loop-self-preserved c =
    let log = c.args.log in
    let image : HeapImage = c.args.heap.now in
    let p : Part = c.loop-self.self in
    let p' : Part = c.take_batch.new.self in
    let taken = c.take_batch.ensures in
    let done = c.in_ok-follow_batch.ensures in
    let before = c.loop-self.invariant in
    record {
      running = λ sent p0 h. done.running sent p0 (running_cut log image sent p0 p p' p.stack.items (p'.stack.items ++ waiting_addresses c.take_batch.new.batch.items) taken.first taken.bits taken.out taken.well_formed taken.cut (before.running sent p0 h));
      part = done.part;
      inside = done.inside;
      batch = record {
        empty = done.empty;
        room = let room = before.batch.room in let one = done.batch_capacity in let two = taken.batch_capacity in omega (arith, room, one, two);
      };
    }
