use Rattle.std.proofs.Common.{◌≡◌, ◌∙◌, ap, sym, subst, arith, Box, Global}
use Rattle.std.specs.Prelude.{All, Some, option_map}
use Rattle.std.proofs.lemmas.List.Elements.{All-push, All-pop}
use Rattle.collector.specs.Sessions.{image_of, held_of}
use Rattle.collector.specs.declared.session.share.Share.{Share}
use Rattle.caller_heap.specs.Parts.{IsPartOf}
use Rattle.caller_heap.specs.declared.part.Part.{Part}
use Rattle.caller_heap.proofs.part.with_shares.Goals as goal

pub loop-part-preserved : goal.loop-part-preserved
loop-part-preserved c =
    let l = c.loop-part in
    let i = l.invariant in
    let left = c.in-Some-Some.ensures.cases in
    let given = c.in-Some-Some.ensures'.cases in
    let more = c.push_reserved.ensures.len in
    let count = i.count in
    let same = i.same in
    record {
      count = omega arith;
      same = omega arith;
      room = let room = i.room in let capacity = c.push_reserved.ensures.capacity in omega arith;
      parts = λ image origin whole empty.
          let before = i.parts image origin whole empty in
          let shares = All-pop (λ (share : Share). image_of share ≡ image) l.shares.items c.pop-in-loop-part.new.self.items (Some c.in-Some-Some.share) c.in-Some-Some.ensures'.items before.0 in
          let parts = All-pop (λ (part : Box Part Global). part.value.origin ≡ origin) l.parts.items c.pop.new.self.items (Some c.in-Some-Some.part) c.in-Some-Some.ensures.items before.1 in
          let share : option_map image_of c.replace.new.dest ≡ Some image = ap (option_map image_of) c.replace.ensures.after ∙ ap Some shares.1 in
          let IsPart : Box Part Global → Type 0 = λ part. IsPartOf image origin part.value in
          (shares.0, parts.0, subst (All IsPart) (sym c.push_reserved.ensures.items) (All-push IsPart l.whole.items _ before.2 (share, ap (λ (part : Part). part.origin) c.deref_mut.ensures.value ∙ parts.1)));
      held = λ held whole.
          let before = i.held held whole in
          let shares = All-pop (λ (share : Share). held_of share ≡ held) l.shares.items c.pop-in-loop-part.new.self.items (Some c.in-Some-Some.share) c.in-Some-Some.ensures'.items before.0 in
          let share : option_map held_of c.replace.new.dest ≡ Some held = ap (option_map held_of) c.replace.ensures.after ∙ ap Some shares.1 in
          let IsPart : Box Part Global → Type 0 = λ part. option_map held_of part.value.share ≡ Some held in
          (shares.0, subst (All IsPart) (sym c.push_reserved.ensures.items) (All-push IsPart l.whole.items _ before.1 share));
    }

pub returns-clause-parts : goal.returns-clause-parts
returns-clause-parts c image origin shares parts = (c.loop-part.invariant.parts image origin shares parts).2

pub returns-clause-held : goal.returns-clause-held
returns-clause-held c held shares = (c.loop-part.invariant.held held shares).1
