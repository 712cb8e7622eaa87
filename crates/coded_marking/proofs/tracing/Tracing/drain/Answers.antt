use Rattle.std.proofs.Common.{◌≡◌, inl, inr, true, List, length, take, sym, ◌∙◌, ap, subst, arith}
use Rattle.std.proofs.lemmas.Bool.{false≢true, eq-eqb}
use Rattle.std.specs.Vec.{vec_len}
use Rattle.object_heap.specs.Bits.{has}
use Rattle.coded_marking.specs.declared.waiting.Waiting.{Waiting}
use Rattle.coded_marking.proofs.Lemmas.Batches.{fetched_taken}
use Rattle.coded_marking.proofs.Lemmas.Underway.{underway_taken}
use Rattle.coded_marking.proofs.tracing.Tracing.drain.Goals as goal

pub follow_batch-requires-clause-fetched : goal.follow_batch-requires-clause-fetched
follow_batch-requires-clause-fetched c =
    fetched_taken c.args.heap.now c.loop-batch.self c.take_batch-count.new.self (take c.take_batch-count.result c.take_batch-count.new.batch) c.take_batch-count.ensures.takes

pub loop-batch-preserved : goal.loop-batch-preserved
loop-batch-preserved c =
    let image = c.args.heap.now in
    let t = c.loop-batch.self in
    let t1 = c.take_batch-count.new.self in
    let batch : List Waiting = take c.take_batch-count.result c.take_batch-count.new.batch in
    let takes = c.take_batch-count.ensures.takes in
    let follows = c.follow_batch.ensures in
    let done = c.in_ok-follow_batch.ensures in
    let before = c.loop-batch.invariant in
    record {
      steady = follows.steady;
      words = follows.words ∙ takes.words ∙ before.words;
      goes_on = λ roots test limit u. follows.goes_on roots test limit (underway_taken image roots test limit batch t t1 takes (before.goes_on roots test limit u));
      keeps = λ b h. follows.keeps b (subst (λ bs. has bs b ≡ true) (sym takes.followed) (before.keeps b h));
      emptied = λ b h. elim (before.emptied b h) [
        | inl old ↦ inl (follows.keeps b (subst (λ bs. has bs b ≡ true) (sym takes.followed) old))
        | inr waits ↦ elim (takes.moved b waits) [
          | inl still ↦ inr (done.stacked b still)
          | inr held ↦ inl (done.followed b held)
        ]
      ];
      idle = λ none.
          let short = ap length (before.idle none).0 in
          let zero : vec_len t.stack ≡ 0 = omega (arith, short, t.stack.ok.0) in
          absurd (false≢true (c.loop-batch-test.ensures ∙ eq-eqb (vec_len t.stack) 0 zero));
    }

pub returns-in_err-follow_batch-clause-goes_on : goal.returns-in_err-follow_batch-clause-goes_on
returns-in_err-follow_batch-clause-goes_on c = λ roots test limit u.
    c.follow_batch.ensures.goes_on roots test limit
    (underway_taken c.args.heap.now roots test limit (take c.take_batch-count.result c.take_batch-count.new.batch) c.loop-batch.self c.take_batch-count.new.self c.take_batch-count.ensures.takes (c.loop-batch.invariant.goes_on roots test limit u))
