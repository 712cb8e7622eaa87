use Rattle.std.proofs.Common.{◌≡◌, ◌≤◌, ◌∙◌, ap, sym, subst, arith, vec_len}
use Rattle.std.specs.Prelude.{Option, Some, is_some}
use Rattle.std.specs.Option.{ForSome}
use Rattle.collector.specs.Rest.{AreOf}
use Rattle.collector.specs.Stakes.{IsOfHeap}
use Rattle.collector.specs.declared.session.Session.{Session}
use Rattle.collector.proofs.Lemmas.Stakes.{of_some}
use Rattle.collector.proofs.session.room.SessionRoom.deal.Goals as goal

pub deal_out-requires-clause-lead : goal.deal_out-requires-clause-lead
deal_out-requires-clause-lead c =
    let made = c.share_out_for-deed.ensures in
    let session = c.args.session in
    let there : c.share_out_for-deed.result.1.value ≡ Some session = made.value.1 ∙ c.replace.ensures.after in
    let of_it : (P : Session → Type 0) → P session → ForSome c.share_out_for-deed.result.1.value P
    = λ P holds. subst (λ (o : Option Session). ForSome o P) (sym there) (of_some P session holds) in
    let count = c.requires.count in
    let queues = c.requires.queues in
    record {
      deed = made.same.0 ∙ sym c.args.self.term_known;
      rest = made.same.1 ∙ sym c.args.self.term_known;
      parts = omega (arith, made.all);
      same = made.value.0 ∙ sym made.value.1;
      there = ap is_some there;
      heap = of_it (IsOfHeap c.args.self.id.heap) c.requires.heap;
      queues = of_it (λ s. c.args.self.id.workers ≤ vec_len s.shared.thieves) (omega arith);
      seated = of_it (λ s. AreOf s.shared.desk c.args.workers.items) c.requires.seats;
      at_rest = c.requires.rest;
    }
