use Rattle.std.proofs.Common.{◌≡◌, [], length, sym, ◌∙◌, ap, subst, arith}
use Rattle.std.proofs.lemmas.Bool.{eqb-true}
use Rattle.std.specs.Vec.{vec_len}
use Rattle.object_heap.specs.HeapImage.{HeapImage}
use Rattle.heap_marking.specs.Marking.{IsMarking, AreStacked, waiting_addresses}
use Rattle.heap_marking.proofs.Lemmas.MarkingSteps.{none_left, batch_inside}
use Rattle.heap_marking.proofs.marking.Marking.follow_all.Goals as goal

pub take_batch-requires-clause-inside : goal.take_batch-requires-clause-inside
take_batch-requires-clause-inside c =
    let before = c.loop-self.invariant in
    subst (λ n. AreStacked n c.loop-self.self.bits c.loop-self.self.stack.items) (sym before.words) before.some.1.inside

pub follow_batch-requires-clause-inside : goal.follow_batch-requires-clause-inside
follow_batch-requires-clause-inside c =
    let image : HeapImage = c.args.heap.now in
    let new = c.take_batch.new.self in
    let before = c.loop-self.invariant in
    let taken = c.take_batch.ensures.marking before.some.0 before.some.1 in
    let words = c.take_batch.ensures.words ∙ before.words in
    batch_inside image before.some.0 new.words words new.bits new.stack.items (waiting_addresses c.take_batch.new.batch.items) new.well_formed taken

pub follow_batch-requires-clause-bits : goal.follow_batch-requires-clause-bits
follow_batch-requires-clause-bits c =
    let before = c.loop-self.invariant in
    let room = before.some.1.room in
    let words = c.take_batch.ensures.words ∙ before.words in
    let same = ap length c.take_batch.ensures.bits in
    omega (arith, room, words, same)

pub loop-self-preserved : goal.loop-self-preserved
loop-self-preserved c =
    let before = c.loop-self.invariant in
    let taken = c.take_batch.ensures in
    let followed = c.in_ok-follow_batch.ensures in
    record {
      some = (before.some.0, followed.marking before.some.0 (taken.marking before.some.0 before.some.1));
      marking = λ roots m. followed.marking roots (taken.marking roots (before.marking roots m));
      words = followed.words ∙ taken.words ∙ before.words;
      batch = record {
        empty = followed.empty;
        room = let one = followed.batch_capacity in let two = taken.batch_capacity in let room = before.batch.room in omega (arith, one, two, room);
      };
    }

pub returns : goal.returns
returns c = λ roots m.
    let held = c.loop-self.self in
    let empty : held.stack.items ≡ [] = none_left held.stack.items (omega (arith, eqb-true (vec_len held.stack) 0 (sym (c.loop-self-test.ensures)), held.stack.ok.0)) in
    subst (λ xs. IsMarking c.args.heap.now roots held.bits xs held.well_formed) empty (c.loop-self.invariant.marking roots m)
