use Rattle.std.proofs.Common.{◌≡◌, ◌<◌, ◌^◌, ◌*◌, ◌∷◌, [], ◌++◌, suc, length, sym, ap, subst, ◌∙◌, arith, rules}
use Rattle.std.proofs.lemmas.Iterator.Consumers.{YieldsList-turn}
use Rattle.std.proofs.lemmas.Iterator.Adapters.{YieldsList-from_vec}
use Rattle.std.proofs.lemmas.List.{length_push}
use Rattle.std.proofs.Math.Nat.{mul-le-mul_left}
use Rattle.raw_region.specs.Frame.{part_of, IsPart}
use Rattle.raw_region.specs.PartRoom.{held_by}
use Rattle.raw_region.proofs.Lemmas.Frames.{IsJoined, slot-at, place-at, fits-at, can-join, joined}
use Rattle.raw_region.proofs.frame.Frame.end.Goals as goal

pub into_room-requires-clause-part : goal.into_room-requires-clause-part
into_room-requires-clause-part c =
    let s = c.self.inside in
    let xs = s.slots.items in
    let k = length c.loop-slot.yielded in
    let t = YieldsList-turn (YieldsList-from_vec {s = c.into_iter-slot-iterator.result} xs (search rules) (search rules)) c.loop-slot.yielded c.loop-slot.slot-iterator c.loop-slot.yielded_by _ c.next.new.self c.in-Some.slot c.in-Some.is c.next.ensures.steps in
    subst (λ p. IsPart p (held_by c.in-Some-into_inner.part)) (place-at s.deed s.root.at s.size k c.loop-slot.index xs c.self.invariant t.0 c.loop-slot.invariant.2 c.in-Some.slot t.1) c.in-Some-into_inner.ensures

pub into_room-requires-clause-fits : goal.into_room-requires-clause-fits
into_room-requires-clause-fits c =
    let s = c.self.inside in
    let xs = s.slots.items in
    let k = length c.loop-slot.yielded in
    let t = YieldsList-turn (YieldsList-from_vec {s = c.into_iter-slot-iterator.result} xs (search rules) (search rules)) c.loop-slot.yielded c.loop-slot.slot-iterator c.loop-slot.yielded_by _ c.next.new.self c.in-Some.slot c.in-Some.is c.next.ensures.steps in
    fits-at s.deed s.root.at s.size k c.loop-slot.index xs c.self.invariant t.0 c.loop-slot.invariant.2

pub overflow_add-index : goal.overflow_add-index
overflow_add-index c =
    let s = c.self.inside in
    let xs = s.slots.items in
    let k = length c.loop-slot.yielded in
    let t = YieldsList-turn (YieldsList-from_vec {s = c.into_iter-slot-iterator.result} xs (search rules) (search rules)) c.loop-slot.yielded c.loop-slot.slot-iterator c.loop-slot.yielded_by _ c.next.new.self c.in-Some.slot c.in-Some.is c.next.ensures.steps in
    let index = c.loop-slot.index in
    omega (arith, fits-at s.deed s.root.at s.size k index xs c.self.invariant t.0 c.loop-slot.invariant.2, mul-le-mul_left index c.self.invariant.some)

pub join-whole-requires : goal.join-whole-requires
join-whole-requires c =
    let s = c.self.inside in
    let xs = s.slots.items in
    let self = c.args.self in
    let k = length c.loop-slot.yielded in
    let t = YieldsList-turn (YieldsList-from_vec {s = c.into_iter-slot-iterator.result} xs (search rules) (search rules)) c.loop-slot.yielded c.loop-slot.slot-iterator c.loop-slot.yielded_by _ c.next.new.self c.in-Some.slot c.in-Some.is c.next.ensures.steps in
    let place : c.in-Some.slot ≡ part_of self k = slot-at s.deed.at s.size k xs c.in-Some.slot c.self.invariant.slots_are t.0 t.1 ∙ ap (λ f. part_of f k) c.self.view_is in
    let inside : k < self.count = subst (λ f. k < f.count) c.self.view_is t.0 in
    let fits : self.count * self.size < 2 ^ 60 = subst (λ f. f.count * f.size < 2 ^ 60) c.self.view_is c.self.invariant.fits in
    let part : IsPart (part_of self k) c.into_room.result = subst (λ b. IsPart (part_of self k) b) (sym c.into_room.ensures) (subst (λ p. IsPart p (held_by c.in-Some-into_inner.part)) place c.in-Some-into_inner.ensures) in
    can-join self.root self.size self.count k c.loop-slot.whole c.into_room.result c.loop-slot.invariant.3 part fits inside

pub loop-slot-preserved : goal.loop-slot-preserved
loop-slot-preserved c =
    let s = c.self.inside in
    let xs = s.slots.items in
    let self = c.args.self in
    let k = length c.loop-slot.yielded in
    let t = YieldsList-turn (YieldsList-from_vec {s = c.into_iter-slot-iterator.result} xs (search rules) (search rules)) c.loop-slot.yielded c.loop-slot.slot-iterator c.loop-slot.yielded_by _ c.next.new.self c.in-Some.slot c.in-Some.is c.next.ensures.steps in
    let place : c.in-Some.slot ≡ part_of self k = slot-at s.deed.at s.size k xs c.in-Some.slot c.self.invariant.slots_are t.0 t.1 ∙ ap (λ f. part_of f k) c.self.view_is in
    let more : suc k ≡ length (c.loop-slot.yielded ++ c.in-Some.slot ∷ []) = omega (arith, length_push c.loop-slot.yielded c.in-Some.slot) in
    let part : IsPart (part_of self k) c.into_room.result = subst (λ b. IsPart (part_of self k) b) (sym c.into_room.ensures) (subst (λ p. IsPart p (held_by c.in-Some-into_inner.part)) place c.in-Some-into_inner.ensures) in (
      tt,
      tt,
      omega (arith, more, c.loop-slot.invariant.2),
      subst (λ m. IsJoined self.root self.size self.count m c.join-whole.result) more (joined self.root self.size self.count k c.loop-slot.whole c.into_room.result c.loop-slot.invariant.3 part c.join-whole.result c.join-whole.ensures),
    )
