use Rattle.std.proofs.Common.{◌≡◌, ◌∙◌, ap, arith, Box, Global}
use Rattle.std.specs.Prelude.{Some, option_map, option_and_then}
use Rattle.std.proofs.lemmas.List.{length-set}
use Rattle.collector.specs.Sessions.{image_of, held_of}
use Rattle.caller_heap.specs.declared.part.Part.{Part}
use Rattle.caller_heap.specs.LentChecks.{IsCheckPartOf}
use Rattle.caller_heap.specs.Parts.{IsPartOf}
use Rattle.pcompact_c.specs.Checks.{IsCheckHandleOf}
use Rattle.pcompact_c.specs.Handles.{Handle, IsHandleOf}
use Rattle.pcompact_c.specs.Slides.{held_in}
use Rattle.pcompact_c.proofs.Lemmas.Shares.{behind, next, one_more, all_of, front_and_last}
use Rattle.pcompact_c.proofs.begin.hand_out.Goals as goal

pub enter-requires : goal.enter-requires
enter-requires c =
    let i = c.loop-handle.handle-index in
    ap (λ h. h.0) (next c.loop-handle.handles c.args.handles.now i c.handle-item.result c.loop-handle.invariant.rest)
    ∙ c.requires.free i c.handle-item.result c.loop-handle-test.true

pub loop-handle-preserved : goal.loop-handle-preserved
loop-handle-preserved c =
    let l = c.loop-handle in
    let i = l.handle-index in
    let h = c.enter.new.self in
    record {
      long = length-set l.handles i h ∙ l.invariant.long;
      left = let one = c.in-Some.ensures.cases in let so_far = l.invariant.left in omega arith;
      rest = behind l.handles c.args.handles.now i h l.invariant.rest;
      parts = λ image origin all.
          let so_far = l.invariant.parts image origin all in
          let both = front_and_last (λ (b : Box Part Global). IsPartOf image origin b.value) l.parts.items c.pop.new.self.items c.in-Some.part c.in-Some.ensures.items so_far.0 in
          let here : IsHandleOf image origin h = (
            ap (λ o. option_map image_of (option_and_then (λ (part : Part). part.share) o)) c.enter.ensures ∙ both.1.0,
            ap (option_map (λ (part : Part). part.origin)) c.enter.ensures ∙ ap Some both.1.1,
          ) in
          (both.0, one_more (IsHandleOf image origin) l.handles i h (let inside = c.loop-handle-test.true in let long = l.invariant.long in omega arith) so_far.1 here);
      held = λ held all.
          let so_far = l.invariant.held held all in
          let both = front_and_last (λ (b : Box Part Global). option_map held_of b.value.share ≡ Some held) l.parts.items c.pop.new.self.items c.in-Some.part c.in-Some.ensures.items so_far.0 in
          let here : held_in h ≡ Some held = ap (λ o. option_map held_of (option_and_then (λ (part : Part). part.share) o)) c.enter.ensures ∙ both.1 in
          (both.0, one_more (λ (g : Handle). held_in g ≡ Some held) l.handles i h (let inside = c.loop-handle-test.true in let long = l.invariant.long in omega arith) so_far.1 here);
      checks = λ heap origin all.
          let so_far = l.invariant.checks heap origin all in
          let both = front_and_last (λ (b : Box Part Global). IsCheckPartOf heap origin b.value) l.parts.items c.pop.new.self.items c.in-Some.part c.in-Some.ensures.items so_far.0 in
          let here : IsCheckHandleOf heap origin h = (
            ap (λ o. option_and_then (λ (part : Part). part.check) o) c.enter.ensures ∙ both.1.0,
            ap (option_map (λ (part : Part). part.origin)) c.enter.ensures ∙ ap Some both.1.1,
          ) in
          (both.0, one_more (IsCheckHandleOf heap origin) l.handles i h (let inside = c.loop-handle-test.true in let long = l.invariant.long in omega arith) so_far.1 here);
    }

pub returns : goal.returns
returns c = record {
  parts = λ image origin all. all_of (IsHandleOf image origin) c.loop-handle.handles c.loop-handle.handle-index
      (let end = c.loop-handle-test.false in let long = c.loop-handle.invariant.long in omega arith) (c.loop-handle.invariant.parts image origin all).1;
  held = λ held all. all_of (λ (g : Handle). held_in g ≡ Some held) c.loop-handle.handles c.loop-handle.handle-index
      (let end = c.loop-handle-test.false in let long = c.loop-handle.invariant.long in omega arith) (c.loop-handle.invariant.held held all).1;
  checks = λ heap origin all. all_of (IsCheckHandleOf heap origin) c.loop-handle.handles c.loop-handle.handle-index
      (let end = c.loop-handle-test.false in let long = c.loop-handle.invariant.long in omega arith) (c.loop-handle.invariant.checks heap origin all).1;
}
