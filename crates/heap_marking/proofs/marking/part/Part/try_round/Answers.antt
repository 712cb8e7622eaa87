use Rattle.std.proofs.Common.{◌/◌, ◌^◌, ◌&&◌, refl, subst}
use Rattle.std.proofs.lemmas.Result.{on_ok_weaker}
use Rattle.heap_marking.specs.Boxes.{arrives}
use Rattle.heap_marking.specs.Spread.{IsSpread, is_in}
use Rattle.heap_marking.specs.declared.marking.part.Part.{Part}
use Rattle.heap_marking.proofs.Lemmas.Running.{running_begins}
use Rattle.heap_marking.proofs.marking.part.Part.try_round.Goals as goal

pub follow_all-requires-clause-inside : goal.follow_all-requires-clause-inside
follow_all-requires-clause-inside c =
    let log = c.args.log in
    let p0 : Part = c.args.self.now in
    let p1 : Part = record { first = p0.first; bits = p0.bits; stack = p0.stack; out = c.clear.new.self; well_formed = p0.well_formed; work = p0.work; failed = p0.failed } in
    let p2 : Part = c.take_all.new.self in
    let begun-here = running_begins log c.args.heap.now c.args.sent.now p0 p1 p2 refl refl refl c.clear.ensures.count c.clear.ensures.empty c.requires.waiting
    (subst (λ n. IsSpread log n (λ b. arrives c.args.sent.now (p1.first / 2 ^ log) b && is_in log p1 b) p1 p2) c.len.ensures.value c.in_ok-take_all.ensures.spread)
    c.in_ok-take_all.ensures.out c.in_ok-take_all.ensures.well_formed in
    begun-here.inside

pub returns : goal.returns
returns c =
    let log = c.args.log in
    let p0 : Part = c.args.self.now in
    let p1 : Part = record { first = p0.first; bits = p0.bits; stack = p0.stack; out = c.clear.new.self; well_formed = p0.well_formed; work = p0.work; failed = p0.failed } in
    let p2 : Part = c.take_all.new.self in
    let begun-here = running_begins log c.args.heap.now c.args.sent.now p0 p1 p2 refl refl refl c.clear.ensures.count c.clear.ensures.empty c.requires.waiting
    (subst (λ n. IsSpread log n (λ b. arrives c.args.sent.now (p1.first / 2 ^ log) b && is_in log p1 b) p1 p2) c.len.ensures.value c.in_ok-take_all.ensures.spread)
    c.in_ok-take_all.ensures.out c.in_ok-take_all.ensures.well_formed in
    on_ok_weaker c.follow_all.result (λ goes. goes c.args.sent.now p0 begun-here) c.follow_all.ensures
