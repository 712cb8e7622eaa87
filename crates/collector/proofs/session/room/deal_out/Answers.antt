use Rattle.std.proofs.Common.{◌≡◌, ◌-◌, ◌≤◌, ◌∙◌, ℕ, ap, sym, subst, arith, vec_len}
use Rattle.std.specs.Prelude.{All}
use Rattle.std.specs.Arc.{arc_value}
use Rattle.std.proofs.lemmas.List.Elements.{All-push}
use Rattle.collector.specs.SessionIds.{SessionView}
use Rattle.collector.specs.Sessions.{heap_of}
use Rattle.collector.specs.Stakes.{Leads}
use Rattle.collector.specs.declared.session.share.Share.{Share}
use Rattle.collector.proofs.Lemmas.Passes.{front_and_last}
use Rattle.collector.proofs.Lemmas.Stakes.{dealt, of_some, remains, IsLast}
use Rattle.collector.proofs.session.room.deal_out.Goals as goal

pub new-requires-clause-stake : goal.new-requires-clause-stake
new-requires-clause-stake c =
    let own = (front_and_last (λ r. arc_value r ≡ c.args.id.now) c.loop-workers.returned.items c.pop-in-loop-workers.new.self.items c.in-Some-Some.own c.in-Some-Some.ensures'.items c.loop-workers.invariant.returned).1 in
    let l = c.loop-workers in
    dealt c.args.id.now (vec_len l.shares) l.lead l.workers.items c.pop.new.self.items c.in-Some-Some.worker c.in-Some-Some.ensures.items l.invariant.lead
    (arc_value c.in-Some-Some.own) c.split_one-session.result _ own c.split_one-session.ensures.one (λ x is. search)

pub new-requires-clause-numbered : goal.new-requires-clause-numbered
new-requires-clause-numbered c =
    let own = (front_and_last (λ r. arc_value r ≡ c.args.id.now) c.loop-workers.returned.items c.pop-in-loop-workers.new.self.items c.in-Some-Some.own c.in-Some-Some.ensures'.items c.loop-workers.invariant.returned).1 in
    let same : (arc_value c.in-Some-Some.own).workers ≡ c.args.id.now.workers = ap (λ (v : SessionView). v.workers) own in
    let left = c.in-Some-Some.ensures.cases in
    let count = c.loop-workers.invariant.count in
    let number = c.len-number.ensures in
    omega arith

pub loop-workers-preserved : goal.loop-workers-preserved
loop-workers-preserved c =
    let own = (front_and_last (λ r. arc_value r ≡ c.args.id.now) c.loop-workers.returned.items c.pop-in-loop-workers.new.self.items c.in-Some-Some.own c.in-Some-Some.ensures'.items c.loop-workers.invariant.returned).1 in
    let l = c.loop-workers in
    let i = l.invariant in
    let id = c.args.id.now in
    let shared = c.push_reserved.ensures.len in
    let left = c.in-Some-Some.ensures.cases in
    let free = c.in-Some-Some.ensures'.cases in
    let more = c.loop-workers-test.true in
    let length = c.len.ensures in
    let IsOfIt : Share → Type 0 = λ share. heap_of share ≡ id.heap in
    let one : IsOfIt c.new.result = ap (λ r. (arc_value {X = SessionView} r).heap) c.new.ensures ∙ ap (λ (v : SessionView). v.heap) own in
    let count = i.count in
    let some : 1 ≤ l.lead.rest.parts = let parts = i.lead.parts in let few = c.requires.few in omega arith in
    let rest = remains id (vec_len l.shares) l.lead l.workers.items c.pop.new.self.items c.in-Some-Some.worker c.in-Some-Some.ensures.items i.lead c.split_one-session.new.self some c.split_one-session.ensures.left in
    record {
      lead = subst (λ (n : ℕ). Leads id n (record { deed = l.lead.deed; rest = c.split_one-session.new.self }) c.pop.new.self.items) (omega arith) rest;
      some = omega arith;
      count = omega arith;
      returned = (front_and_last (λ r. arc_value r ≡ id) l.returned.items c.pop-in-loop-workers.new.self.items c.in-Some-Some.own c.in-Some-Some.ensures'.items i.returned).0;
      owners = let owners = i.owners in omega arith;
      room = let room = i.room in let capacity = c.push_reserved.ensures.capacity in omega arith;
      heap = subst (All IsOfIt) (sym c.push_reserved.ensures.items) (All-push IsOfIt l.shares.items c.new.result i.heap one);
    }

pub new-requires-2-clause-stake : goal.new-requires-2-clause-stake
new-requires-2-clause-stake c =
    let own = (front_and_last (λ r. arc_value r ≡ c.args.id.now) c.loop-workers.returned.items c.pop-3.new.self.items c.in-Some-Some-2.own c.in-Some-Some-2.ensures'.items c.loop-workers.invariant.returned).1 in
    let l = c.loop-workers in
    let i = l.invariant in
    let id = c.args.id.now in
    let left = c.split_one-session-2.ensures.left in
    let origin = ap (λ s. s.origin) left ∙ i.lead.rest in
    let parts : c.split_one-session-2.new.self.parts ≡ l.lead.rest.parts - 1 = ap (λ s. s.parts) left in
    let last = c.loop-workers-test.false in
    let length = c.len.ensures in
    let some = i.some in
    let count = i.count in
    let all = i.lead.parts in
    let few = c.requires.few in
    dealt id (vec_len l.shares) l.lead l.workers.items c.pop-2.new.self.items c.in-Some-Some-2.worker c.in-Some-Some-2.ensures.items i.lead
    (arc_value c.in-Some-Some-2.own) c.split_one-session-2.result _ own c.split_one-session-2.ensures.one
    (of_some (IsLast id (vec_len l.shares) l.lead l.workers.items c.pop-2.new.self.items c.in-Some-Some-2.worker c.in-Some-Some-2.ensures.items i.lead) (record { deed = l.lead.deed; rest = c.split_one-session-2.new.self })
    (i.lead.deed, i.lead.same, origin, omega arith))

pub new-requires-2-clause-numbered : goal.new-requires-2-clause-numbered
new-requires-2-clause-numbered c =
    let own = (front_and_last (λ r. arc_value r ≡ c.args.id.now) c.loop-workers.returned.items c.pop-3.new.self.items c.in-Some-Some-2.own c.in-Some-Some-2.ensures'.items c.loop-workers.invariant.returned).1 in
    let same : (arc_value c.in-Some-Some-2.own).workers ≡ c.args.id.now.workers = ap (λ (v : SessionView). v.workers) own in
    let some = c.requires.some in
    omega arith

pub returns-clause-heap : goal.returns-clause-heap
returns-clause-heap c =
    let own = (front_and_last (λ r. arc_value r ≡ c.args.id.now) c.loop-workers.returned.items c.pop-3.new.self.items c.in-Some-Some-2.own c.in-Some-Some-2.ensures'.items c.loop-workers.invariant.returned).1 in
    let id = c.args.id.now in
    let IsOfIt : Share → Type 0 = λ share. heap_of share ≡ id.heap in
    let one : IsOfIt c.new-2.result = ap (λ r. (arc_value {X = SessionView} r).heap) c.new-2.ensures ∙ ap (λ (v : SessionView). v.heap) own in
    subst (All IsOfIt) (sym c.push_reserved-2.ensures.items) (All-push IsOfIt c.loop-workers.shares.items c.new-2.result c.loop-workers.invariant.heap one)
