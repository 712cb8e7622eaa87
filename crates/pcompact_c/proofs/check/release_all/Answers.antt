use Rattle.std.proofs.Common.{◌≡◌, ◌∙◌, false, arith}
use Rattle.std.specs.Prelude.{None}
use Rattle.std.proofs.lemmas.List.{length-set}
use Rattle.pcompact_c.specs.Handles.{Handle}
use Rattle.pcompact_c.proofs.Lemmas.Shares.{one_more, all_of}
use Rattle.pcompact_c.proofs.check.release_all.Goals as goal

pub loop-handle-preserved : goal.loop-handle-preserved
loop-handle-preserved c =
    let l = c.loop-handle in
    let i = l.handle-index in
    let h = c.leave.new.self in
    let inside = c.loop-handle-test.true in
    record {
      long = length-set l.handles i h ∙ l.invariant.long;
      free = one_more (λ (g : Handle). g.0 ≡ false) l.handles i h (let long = l.invariant.long in omega arith) l.invariant.free c.leave.ensures.free;
      none = one_more (λ (g : Handle). g.2 ≡ None) l.handles i h (let long = l.invariant.long in omega arith) l.invariant.none c.leave.ensures.none;
    }

pub returns : goal.returns
returns c =
    let l = c.loop-handle in
    record {
      free = all_of (λ (g : Handle). g.0 ≡ false) l.handles l.handle-index (let end = c.loop-handle-test.false in let long = l.invariant.long in omega arith) l.invariant.free;
      none = all_of (λ (g : Handle). g.2 ≡ None) l.handles l.handle-index (let end = c.loop-handle-test.false in let long = l.invariant.long in omega arith) l.invariant.none;
      count = l.invariant.long;
    }
