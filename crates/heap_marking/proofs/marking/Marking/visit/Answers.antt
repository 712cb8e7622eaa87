use Rattle.std.proofs.Common.{◌≡◌, ℕ, ◌+◌, ◌-◌, ◌<◌, false, refl, sym, ◌∙◌, arith}
use Rattle.object_heap.specs.Bits.{has}
use Rattle.heap_marking.proofs.Lemmas.Growth.{grown_push}
use Rattle.heap_marking.proofs.marking.Marking.visit.Goals as goal

pub returns-clause-growth : goal.returns-clause-growth
returns-clause-growth c =
    let a : ℕ = c.args.reference - 1 in
    let l : a < c.args.self.now.words = omega arith in
    let clear : has c.args.self.now.bits a ≡ false = sym c.has.ensures ∙ c.if-has.false in
    let is : c.args.reference ≡ a + 1 = omega arith in
    record {
      grown = grown_push c.args.self.now.words c.args.reference a c.args.self.now.bits c.insert.new.self c.args.self.now.stack.items c.push.new.self.items is l clear c.insert.ensures.room c.insert.ensures.bits c.in_ok-push.ensures.items;
      words = refl;
    }
