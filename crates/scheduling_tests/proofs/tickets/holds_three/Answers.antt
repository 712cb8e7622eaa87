use Rattle.std.proofs.Common.{◌≡◌, ◌∙◌, arith}
use Rattle.scheduling_tests.proofs.tickets.holds_three.Goals as goal

pub returns-clause-zero : goal.returns-clause-zero
returns-clause-zero g c =
    let zero = c.drains.new.ticket in
    let granted = rw c.expect-zero.ensures at c.claims-2.ensures.ticket in
    let here : zero.region ≡ 0 = c.drains.ensures.ticket.0 ∙ granted.0 in
    let granted-one = rw c.expect-one.ensures at c.claims-3.ensures.ticket in
    let one : c.expect-one.result.region ≡ 1 = granted-one.0 in
    let granted-two = rw c.expect-two.ensures at c.claims-4.ensures.ticket in
    let two : c.expect-two.result.region ≡ 2 = granted-two.0 in
    c.drains-3.ensures.others.tickets zero (λ e. omega arith)
    (c.claims-4.ensures.others.tickets zero (λ e. omega arith)
    (c.drains-2.ensures.others.tickets zero (λ e. omega arith)
    (c.claims-3.ensures.others.tickets zero (λ e. omega arith) c.drains.ensures.ticket.1)))

pub returns-clause-one : goal.returns-clause-one
returns-clause-one g c =
    let one = c.drains-2.new.ticket in
    let granted = rw c.expect-one.ensures at c.claims-3.ensures.ticket in
    let here : one.region ≡ 1 = c.drains-2.ensures.ticket.0 ∙ granted.0 in
    let granted-two = rw c.expect-two.ensures at c.claims-4.ensures.ticket in
    let two : c.expect-two.result.region ≡ 2 = granted-two.0 in
    c.drains-3.ensures.others.tickets one (λ e. omega arith)
    (c.claims-4.ensures.others.tickets one (λ e. omega arith) c.drains-2.ensures.ticket.1)
