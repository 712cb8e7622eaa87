use Rattle.std.proofs.Common.{◌≡◌, ◌<◌, ℕ, List, length, get_or, ap, subst, sym, arith}
use Rattle.ready_queues.specs.Ready.{Queue}
use Rattle.ready_queues.proofs.own_queue.OwnQueue.pop.Goals as goal

pub returns-clause-pushed : goal.returns-clause-pushed
returns-clause-pushed c =
    let numbers = c.self.inside.numbers in
    let oldest = c.index-oldest.result.now in
    let same = ap (λ (q : Queue). q.pushed) c.self.view_is in
    let inside : c.self.inside.taken < length numbers.items = omega (arith, c.self.invariant.taken_first, c.if-self-len.false, c.len.ensures, numbers.ok.0) in
    subst (λ (xs : List ℕ). (x : ℕ) × (x < length xs) × (get_or xs x oldest ≡ oldest)) same
    (c.self.inside.taken, inside, sym c.index-oldest.ensures)
