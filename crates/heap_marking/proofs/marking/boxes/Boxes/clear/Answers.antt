use Rattle.std.proofs.Common.{◌∙◌, arith}
use Rattle.std.proofs.lemmas.List.{length-set}
use Rattle.heap_marking.proofs.Lemmas.Rows.{empty_more}
use Rattle.heap_marking.proofs.marking.boxes.Boxes.clear.Goals as goal

pub loop-k-preserved : goal.loop-k-preserved
loop-k-preserved c =
    let items = c.loop-k.self-inside.boxes.items in
    let k = c.loop-k.k in
    record {
      empty = empty_more (λ v. v.items) items k c.clear.new.self (omega (arith, c.loop-k-test.true, c.len-k-end.ensures, c.loop-k.invariant.count, c.self.inside.boxes.ok.0)) c.clear.ensures.items c.loop-k.invariant.empty;
      count = length-set items k c.clear.new.self ∙ c.loop-k.invariant.count;
    }
