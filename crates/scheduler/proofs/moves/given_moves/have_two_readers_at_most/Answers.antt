use Rattle.std.proofs.Common.{◌≡◌, ◌+◌, ◌<◌, ℕ, get_or, take, true, false, refl, arith}
use Rattle.std.specs.Prelude.{count_by, slice_index}
use Rattle.std.proofs.lemmas.Bool.{eq-eqb, false≢true}
use Rattle.std.proofs.lemmas.List.Sums.{count_by_more_yes}
use Rattle.std.proofs.lemmas.List.{take_all}
use Rattle.scheduler.specs.MoveTable.{has_source}
use Rattle.scheduler.proofs.Lemmas.Pairs.{more_readers, count_by-take, none_counted, one_more_counted}
use Rattle.scheduler.proofs.moves.given_moves.have_two_readers_at_most.Goals as goal

pub loop-source-init : goal.loop-source-init
loop-source-init c = record { counted = none_counted 16384 (λ pair. pair.1); two = λ s. omega arith }

pub overflow_add-readers : goal.overflow_add-readers
overflow_add-readers c =
    let i : ℕ = c.loop-source.source-index in
    let source : ℕ = (get_or c.args.pairs.now i (0, 0)).1 in
    let n : slice_index c.loop-source.readers source ≡ count_by (has_source source) (take i c.args.pairs.now) = c.loop-source.invariant.counted.each source (c.requires i (0, 0) c.loop-source-test.true) in
    let most = c.loop-source.invariant.two source in
    omega arith

pub loop-source-preserved : goal.loop-source-preserved
loop-source-preserved c =
    let i : ℕ = c.loop-source.source-index in
    let source : ℕ = (get_or c.args.pairs.now i (0, 0)).1 in
    let inside : source < 16384 = c.requires i (0, 0) c.loop-source-test.true in
    let n : slice_index c.loop-source.readers source ≡ count_by (has_source source) (take i c.args.pairs.now) = c.loop-source.invariant.counted.each source inside in
    let most = c.loop-source.invariant.two source in
    record {
      counted = one_more_counted 16384 (λ pair. pair.1) c.args.pairs.now i (0, 0) c.loop-source.readers c.loop-source-test.true inside c.loop-source.invariant.counted;
      two = more_readers c.args.pairs.now i (0, 0) c.loop-source-test.true c.loop-source.invariant.two (let other = c.if-readers-source-eq2.false in omega arith);
    }

pub returns-then-readers-source-eq2 : goal.returns-then-readers-source-eq2
returns-then-readers-source-eq2 c =
    let i : ℕ = c.loop-source.source-index in
    let source : ℕ = (get_or c.args.pairs.now i (0, 0)).1 in
    let n : slice_index c.loop-source.readers source ≡ count_by (has_source source) (take i c.args.pairs.now) = c.loop-source.invariant.counted.each source (c.requires i (0, 0) c.loop-source-test.true) in
    let step = count_by_more_yes (has_source source) c.args.pairs.now i (0, 0) c.loop-source-test.true (eq-eqb source source refl) in
    let part = count_by-take (has_source source) c.args.pairs.now (i + 1) in
    let full = c.if-readers-source-eq2.true in
    (λ e. absurd (let f : false ≡ true = e in false≢true f), λ few. let two = few source in absurd (omega arith))

pub returns : goal.returns
returns c =
    let whole : take c.loop-source.source-index c.args.pairs.now ≡ c.args.pairs.now = take_all c.loop-source.source-index c.args.pairs.now c.loop-source-test.false in
    (λ yes'. λ s. rw whole at (c.loop-source.invariant.two s), λ few. refl)
