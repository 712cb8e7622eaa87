use Rattle.std.proofs.Common.{ℕ, ◌+◌, ◌≤◌, inl, inr, List, length, get_or, drop, ◌∙◌, subst, arith}
use Rattle.std.proofs.lemmas.Bool.{or_left}
use Rattle.std.proofs.lemmas.List.{drop_all}
use Rattle.std.proofs.lemmas.Result.{err_from_is_err_and}
use Rattle.object_heap.specs.Bits.{has}
use Rattle.object_heap.specs.HeapImage.{refers_to}
use Rattle.coded_marking.specs.Tracing.{IsHeld, IsUnderway}
use Rattle.coded_marking.specs.declared.waiting.Waiting.{Waiting}
use Rattle.coded_marking.proofs.Lemmas.Batches.{fetched_at, followed_next, held_next}
use Rattle.coded_marking.proofs.Lemmas.Drained.{unsound_there}
use Rattle.coded_marking.proofs.Lemmas.Underway.{follows_kept, held_none, underway_next, underway_stops}
use Rattle.coded_marking.proofs.tracing.Tracing.follow_batch.Goals as goal

pub follow-requires-clause-fetched : goal.follow-requires-clause-fetched
follow-requires-clause-fetched c =
    fetched_at c.args.heap.now c.args.self.now c.loop-object.self c.args.batch.now c.loop-object.object-index (record { address = 0; header = 0 }) c.loop-object-test.true c.loop-object.invariant.marked c.requires.fetched

pub loop-object-preserved : goal.loop-object-preserved
loop-object-preserved c =
    let image = c.args.heap.now in
    let batch : List Waiting = c.args.batch.now in
    let j : ℕ = c.loop-object.object-index in
    let d : Waiting = record { address = 0; header = 0 } in
    let a : ℕ = (get_or batch j d).address in
    let t = c.loop-object.self in
    let new = c.follow.new.self in
    let before = c.loop-object.invariant in
    let l = c.loop-object-test.true in
    let grown = c.in_ok-follow.ensures.growth in
    let follows = c.in_ok-follow.ensures.followed in
    let fetched = fetched_at image c.args.self.now t batch j d l before.marked c.requires.fetched in
    record {
      steady = c.follow.ensures.steady;
      words = grown.words ∙ before.words;
      goes_on = λ roots test limit u. underway_next image roots test limit a (drop j batch) (drop (j + 1) batch) t new (held_next batch j d l) (grown.words ∙ before.words ∙ c.requires.words) c.follow.ensures.steady fetched.marked c.in_ok-follow.ensures.sound grown follows (before.goes_on roots test limit u);
      keeps = λ b h. follows_kept a t new follows b (before.keeps b h);
      marked = λ b h. grown.marks b ∙ or_left (has t.marked b) (refers_to image a b) (before.marked b h);
      followed = λ b held. followed_next batch j d t new l follows b (before.followed b held);
      stacked = λ b h. grown.stacked b (before.stacked b h);
      total = let one = grown.total in let two = before.total in omega (arith, one, two);
    }

pub returns-in_err-follow-clause-goes_on : goal.returns-in_err-follow-clause-goes_on
returns-in_err-follow-clause-goes_on c = λ roots test limit u.
    underway_stops c.args.heap.now roots test limit (drop c.loop-object.object-index c.args.batch.now) c.loop-object.self c.follow.new.self c.in_err-follow.ensures.stops (c.loop-object.invariant.goes_on roots test limit u)

pub returns-in_err-follow-clause-unsound : goal.returns-in_err-follow-clause-unsound
returns-in_err-follow-clause-unsound c =
    let p = err_from_is_err_and c.from_residual.result c.from_residual.ensures.1 in
    let batch : List Waiting = c.args.batch.now in
    let j : ℕ = c.loop-object.object-index in
    let d : Waiting = record { address = 0; header = 0 } in
    let t = c.loop-object.self in
    let is = c.in_err-follow.ensures.unsound in
    let fetched = fetched_at c.args.heap.now c.args.self.now t batch j d c.loop-object-test.true c.loop-object.invariant.marked c.requires.fetched in
    rw (p.1, p.2) (unsound_there c.args.heap.now t c.follow.new.self (get_or batch j d).address c.in_err-follow.field-0.0.address c.in_err-follow.ensures.stops fetched.marked is.0 is.1)

pub returns-clause-goes_on : goal.returns-clause-goes_on
returns-clause-goes_on c = λ roots test limit u.
    let batch : List Waiting = c.args.batch.now in
    let past : length batch ≤ c.loop-object.object-index = omega (arith, c.loop-object-test.false) in
    subst (λ ws. IsUnderway c.args.heap.now roots test limit ws c.loop-object.self) (drop_all c.loop-object.object-index batch past) (c.loop-object.invariant.goes_on roots test limit u)

pub returns-clause-followed : goal.returns-clause-followed
returns-clause-followed c = λ a held.
    let batch : List Waiting = c.args.batch.now in
    let past : length batch ≤ c.loop-object.object-index = omega (arith, c.loop-object-test.false) in
    elim (c.loop-object.invariant.followed a held) [
      | inl done ↦ done
      | inr rest ↦ absurd (held_none a (subst (λ ws. IsHeld ws a) (drop_all c.loop-object.object-index batch past) rest))
    ]
