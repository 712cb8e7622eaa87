use Rattle.std.proofs.Common.{◌<◌, refl, arith}
use Rattle.verification.proofs.Lemmas.Joined.{none, joined, later}
use Rattle.verification.proofs.Lemmas.Strides.{next_cut, piece}
use Rattle.verification.proofs.comparison.Comparison.other_in_gap.Goals as goal

pub loop-at-init : goal.loop-at-init
loop-at-init c = record {
  low = omega arith;
  high = c.requires.ordered;
  cut = λ l h. refl;
  alike = none c.args.self.now.before.now c.args.self.now.after.now c.args.from c.args.from (omega arith);
}

pub other_in_filler-requires-clause-run : goal.other_in_filler-requires-clause-run
other_in_filler-requires-clause-run c = λ less.
    let h = c.loop-at.invariant in
    let low = h.low in
    let on : c.loop-at.at < c.args.to = c.loop-at-test.true in
    let some : c.args.from < c.args.to = omega arith in
    piece c.args.self.now.before.now c.args.from c.args.to c.loop-at.at c.filler_limit-end.result (c.requires.run some) low on (h.cut on) c.filler_limit-end.ensures.value

pub returns-in-Some : goal.returns-in-Some
returns-in-Some c =
    let above = c.filler_limit-end.ensures.above c.loop-at-test.true in
    let is = c.filler_limit-end.ensures.value in
    later c.args.self.now.before.now c.args.self.now.after.now c.args.from c.loop-at.at c.filler_limit-end.result c.args.to c.in-Some.p c.loop-at.invariant.low (omega arith) c.loop-at.invariant.alike c.in-Some.ensures

pub loop-at-smaller : goal.loop-at-smaller
loop-at-smaller c =
    let above = c.filler_limit-end.ensures.above c.loop-at-test.true in
    let is = c.filler_limit-end.ensures.value in
    omega arith

pub loop-at-preserved : goal.loop-at-preserved
loop-at-preserved c =
    let h = c.loop-at.invariant in
    let low = h.low in
    let on : c.loop-at.at < c.args.to = c.loop-at-test.true in
    let above = c.filler_limit-end.ensures.above on in
    let is = c.filler_limit-end.ensures.value in
    record {
      low = omega arith;
      high = omega arith;
      cut = next_cut c.args.from c.args.to c.loop-at.at c.filler_limit-end.result on is;
      alike = joined c.args.self.now.before.now c.args.self.now.after.now c.args.from c.loop-at.at c.filler_limit-end.result h.alike c.in_default.ensures;
    }
