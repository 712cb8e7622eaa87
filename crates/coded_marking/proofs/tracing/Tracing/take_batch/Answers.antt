use Rattle.std.proofs.Common.{◌≡◌, ℕ, ◌+◌, List, [], ◌∷◌, ◌++◌, set, take, true, refl, subst, arith}
use Rattle.std.proofs.lemmas.List.{length-set, take_more_set}
use Rattle.object_heap.specs.Bits.{has}
use Rattle.coded_marking.specs.declared.waiting.Waiting.{Waiting}
use Rattle.coded_marking.proofs.Lemmas.Batches.{steady_popped, takes_next, takes_nothing}
use Rattle.coded_marking.proofs.Lemmas.Drained.{marked_last}
use Rattle.coded_marking.proofs.Lemmas.Growth.{marked_inside}
use Rattle.coded_marking.proofs.tracing.Tracing.take_batch.Goals as goal

pub returns-in_default-clause-takes : goal.returns-in_default-clause-takes
returns-in_default-clause-takes c =
    let t = c.loop-count.self in
    takes_nothing c.args.heap.now c.args.self.now t (record t { stack = c.pop.new.self }) (take c.loop-count.count c.loop-count.batch) refl refl refl refl c.in_default.ensures.items c.loop-count.invariant.takes

pub word-header-requires : goal.word-header-requires
word-header-requires c =
    let t = c.loop-count.self in
    let before = c.loop-count.invariant in
    let low = marked_inside t before.steady c.in-Some.address (marked_last t c.pop.new.self.items c.in-Some.address before.steady c.in-Some.ensures.items) in
    let same = before.takes.words in
    let are = c.requires.words in
    omega (arith, low, same, are)

pub loop-count-preserved : goal.loop-count-preserved
loop-count-preserved c =
    let image = c.args.heap.now in
    let t = c.loop-count.self in
    let t1 = record t { stack = c.pop.new.self } in
    let a : ℕ = c.in-Some.address in
    let w : Waiting = record { address = a; header = c.word-header.result } in
    let batch : List Waiting = c.loop-count.batch in
    let count : ℕ = c.loop-count.count in
    let before = c.loop-count.invariant in
    let popped : t.stack.items ≡ c.pop.new.self.items ++ a ∷ [] = c.in-Some.ensures.items in
    let here = subst (λ bs. has bs a ≡ true) before.takes.marked (marked_last t c.pop.new.self.items a before.steady popped) in
    let room = c.loop-count-test.true in
    record {
      steady = steady_popped t t1 (a ∷ []) refl refl refl popped c.in-Some.ensures.capacity before.steady;
      takes = takes_next image c.args.self.now t t1 (take count batch) (take (count + 1) (set batch count w)) w refl refl refl refl popped (take_more_set batch count w room) here c.word-header.ensures before.takes;
      inside = let long = length-set batch count w in omega (arith, room, long);
    }
