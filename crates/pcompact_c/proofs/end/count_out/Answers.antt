use Rattle.std.proofs.Common.{◌∙◌, arith}
use Rattle.std.proofs.lemmas.List.{length-set}
use Rattle.pcompact_c.specs.Handles.{Handle}
use Rattle.pcompact_c.proofs.Lemmas.Shares.{same_at}
use Rattle.pcompact_c.proofs.end.count_out.Goals as goal

pub loop-handle-preserved : goal.loop-handle-preserved
loop-handle-preserved c =
    let l = c.loop-handle in
    let i = l.handle-index in
    let h = c.count_out.new.self in
    record {
      long = length-set l.handles i h ∙ l.invariant.long;
      parts = same_at (λ (g : Handle). g.2) l.handles i h c.handle-item.result (let inside = c.loop-handle-test.true in let long = l.invariant.long in omega arith) c.count_out.ensures ∙ l.invariant.parts;
    }
