use Rattle.std.proofs.Common.{◌≡◌, ◌∙◌, ap, sym, subst, arith, Box, Global}
use Rattle.std.specs.Prelude.{All, Some}
use Rattle.std.proofs.lemmas.List.Elements.{All-push, All-pop}
use Rattle.caller_heap.specs.LentChecks.{IsCheckPartOf}
use Rattle.caller_heap.specs.declared.part.Part.{Part}
use Rattle.caller_heap.proofs.lent_check.with_checks.Goals as goal

pub loop-part-preserved : goal.loop-part-preserved
loop-part-preserved c =
    let l = c.loop-part in
    let i = l.invariant in
    let left = c.in-Some.ensures.cases in
    let more = c.push_reserved.ensures.len in
    let count = i.count in
    record {
      count = omega arith;
      room = let room = i.room in let capacity = c.push_reserved.ensures.capacity in omega arith;
      parts = λ origin empty.
          let before = i.parts origin empty in
          let parts = All-pop (λ (part : Box Part Global). part.value.origin ≡ origin) l.parts.items c.pop.new.self.items (Some c.in-Some.part) c.in-Some.ensures.items before.0 in
          let check : c.replace.new.dest ≡ Some c.args.share.now = c.replace.ensures.after ∙ ap Some c.in_ok-other.ensures in
          let IsPart : Box Part Global → Type 0 = λ part. IsCheckPartOf c.args.share.now origin part.value in
          (parts.0, subst (All IsPart) (sym c.push_reserved.ensures.items) (All-push IsPart l.whole.items _ before.1 (check, ap (λ (part : Part). part.origin) c.deref_mut.ensures.value ∙ parts.1)));
    }

pub returns-clause-parts : goal.returns-clause-parts
returns-clause-parts c origin parts = (c.loop-part.invariant.parts origin parts).1
