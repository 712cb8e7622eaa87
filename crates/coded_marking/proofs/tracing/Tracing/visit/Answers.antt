use Rattle.std.proofs.Common.{◌≡◌, ◌+◌, ◌-◌, ◌<◌, false, sym, ◌∙◌, arith}
use Rattle.object_heap.specs.Bits.{has}
use Rattle.coded_marking.proofs.Lemmas.Growth.{grows_push, steady_insert}
use Rattle.coded_marking.proofs.tracing.Tracing.visit.Goals as goal

pub push-requires-clause-steady : goal.push-requires-clause-steady
push-requires-clause-steady c =
    let low : c.args.reference - 1 < c.args.self.now.words = omega arith in
    steady_insert c.args.self.now (c.args.reference - 1) c.insert.new.self c.requires.steady low c.insert.ensures.room c.insert.ensures.bits

pub returns-clause-growth : goal.returns-clause-growth
returns-clause-growth c =
    let low : c.args.reference - 1 < c.args.self.now.words = omega arith in
    let is : c.args.reference ≡ c.args.reference - 1 + 1 = omega arith in
    let clear : has c.args.self.now.marked (c.args.reference - 1) ≡ false = sym c.has.ensures ∙ c.if-has.false in
    grows_push c.args.reference (c.args.reference - 1) c.args.self.now c.insert.new.self c.push.new.self is low clear c.insert.ensures.bits c.push.ensures.pushes
