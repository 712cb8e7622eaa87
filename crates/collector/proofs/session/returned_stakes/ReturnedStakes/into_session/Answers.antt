use Rattle.std.proofs.Common.{◌≡◌, ◌-◌, ◌∙◌, ℕ, ap, refl, subst, arith, vec_len}
use Rattle.collector.specs.SessionIds.{SessionView}
use Rattle.collector.specs.Stakes.{IsStakeOf}
use Rattle.collector.proofs.Lemmas.Passes.{front_and_last}
use Rattle.collector.proofs.Lemmas.Stakes.{one_part}
use Rattle.collector.proofs.session.returned_stakes.ReturnedStakes.into_session.Goals as goal

pub loop-slot-init : goal.loop-slot-init
loop-slot-init c =
    let id = c.args.self in
    let known = c.self.invariant in
    let both = front_and_last (λ (slot : SessionView). slot ≡ id) c.self.inside.slots.items c.pop.new.self.items c.in_ok-pop.field-0 c.in_ok-pop.ensures.items (λ k d l. known.same k d l ∙ c.self.view_is) in
    let count = known.count in
    let same : c.self.inside.id.workers ≡ id.workers = ap (λ (v : SessionView). v.workers) c.self.view_is in
    let left = c.in_ok-pop.ensures.cases in
    record {
      same = both.0;
      few = omega arith;
      stake = one_part c.in_ok-pop.field-0 id (id.workers - vec_len c.pop.new.self) c.in_ok-stake.stake both.1 (omega arith) c.in_ok-stake.ensures;
    }

pub join-requires : goal.join-requires
join-requires c =
    let below = (front_and_last (λ (slot : SessionView). slot ≡ c.args.self) c.loop-slot.slots.items c.pop-in-loop-slot.new.self.items c.in-Some.slot c.in-Some.ensures.items c.loop-slot.invariant.same).1 in
    let few = c.self.invariant.few in
    let same : c.self.inside.id.workers ≡ c.args.self.workers = ap (λ (v : SessionView). v.workers) c.self.view_is in
    (c.args.self, c.args.self.workers - vec_len c.loop-slot.slots, omega arith, one_part c.in-Some.slot c.args.self 1 c.in_ok-below.below below refl c.in_ok-below.ensures, c.loop-slot.invariant.stake)

pub loop-slot-preserved : goal.loop-slot-preserved
loop-slot-preserved c =
    let id = c.args.self in
    let i = c.loop-slot.invariant in
    let both = front_and_last (λ (slot : SessionView). slot ≡ id) c.loop-slot.slots.items c.pop-in-loop-slot.new.self.items c.in-Some.slot c.in-Some.ensures.items i.same in
    let left = c.in-Some.ensures.cases in
    let few = i.few in
    record {
      same = both.0;
      few = omega arith;
      stake = subst (λ (n : ℕ). IsStakeOf id n c.join.new.self) (omega arith)
          (c.join.ensures id (id.workers - vec_len c.loop-slot.slots) (one_part c.in-Some.slot id 1 c.in_ok-below.below both.1 refl c.in_ok-below.ensures) i.stake);
    }

pub returns-clause-heap : goal.returns-clause-heap
returns-clause-heap c =
    let id = c.args.self in
    let none = c.in_default.ensures.cases in
    c.into_session.ensures.heap id (subst (λ (n : ℕ). IsStakeOf id n c.loop-slot.stake) (omega arith) c.loop-slot.invariant.stake)
