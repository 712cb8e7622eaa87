use Rattle.std.proofs.Common.{◌≡◌, ◌+◌, ◌-◌, false, refl, sym, ◌∙◌}
use Rattle.object_heap.specs.Bits.{has}
use Rattle.heap_marking.specs.declared.marking.part.Part.{Part}
use Rattle.heap_marking.proofs.Lemmas.Spreads.{spread_mark}
use Rattle.heap_marking.proofs.marking.part.Part.mark.Goals as goal

pub returns : goal.returns
returns c = λ words l.
    let p : Part = c.args.self.now in
    let p' : Part = record { first = p.first; bits = c.insert.new.self; stack = c.push.new.self; out = p.out; well_formed = p.well_formed; work = p.work; failed = p.failed } in
    let clear : has p.bits (c.args.a - p.first) ≡ false = sym c.has.ensures ∙ c.if-has.false in
    record {
      spread = spread_mark c.args.log words (c.args.a + 1) c.args.a p p' refl l c.requires.inside clear refl refl c.insert.ensures.room c.insert.ensures.bits c.in_ok-push.ensures.items;
      out = refl;
      well_formed = refl;
    }
