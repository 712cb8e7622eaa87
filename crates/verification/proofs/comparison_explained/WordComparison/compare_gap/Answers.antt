use Rattle.std.proofs.Common.{◌≡◌, ◌<◌, refl, subst, arith}
use Rattle.verification.specs.Explanation.{IsTallyOf}
use Rattle.verification.proofs.Lemmas.Strides.{next_cut, piece}
use Rattle.verification.proofs.comparison_explained.WordComparison.compare_gap.Goals as goal

pub loop-at-init : goal.loop-at-init
loop-at-init c = record { low = omega arith; high = c.requires.ordered; cut = λ l h. refl; tally = c.requires.tally }

pub compare_filler-requires-clause-run : goal.compare_filler-requires-clause-run
compare_filler-requires-clause-run c = λ less.
    let h = c.loop-at.invariant in
    let low = h.low in
    let on : c.loop-at.at < c.args.to = c.loop-at-test.true in
    let some : c.args.from < c.args.to = omega arith in
    piece c.args.self.now.before.now c.args.from c.args.to c.loop-at.at c.filler_limit-end.result (c.requires.run some) low on (h.cut on) c.filler_limit-end.ensures.value

pub loop-at-smaller : goal.loop-at-smaller
loop-at-smaller c =
    let above = c.filler_limit-end.ensures.above c.loop-at-test.true in
    let is = c.filler_limit-end.ensures.value in
    omega arith

pub loop-at-preserved : goal.loop-at-preserved
loop-at-preserved c =
    let h = c.loop-at.invariant in
    let low = h.low in
    let on : c.loop-at.at < c.args.to = c.loop-at-test.true in
    let above = c.filler_limit-end.ensures.above on in
    let is = c.filler_limit-end.ensures.value in
    record { low = omega arith; high = omega arith; cut = next_cut c.args.from c.args.to c.loop-at.at c.filler_limit-end.result on is; tally = c.in_ok-compare_filler.ensures }

pub returns : goal.returns
returns c =
    let h = c.loop-at.invariant in
    let high = h.high in
    let done = c.loop-at-test.false in
    let end : c.loop-at.at ≡ c.args.to = omega arith in
    subst (λ n. IsTallyOf c.args.self.now.before.now c.args.self.now.after.now n c.loop-at.tally) end h.tally
