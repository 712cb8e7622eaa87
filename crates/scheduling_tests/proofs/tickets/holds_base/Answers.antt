use Rattle.std.proofs.Common.{◌≡◌, ◌∙◌, arith}
use Rattle.scheduling_tests.proofs.tickets.holds_base.Goals as goal

pub drains-requires-2 : goal.drains-requires-2
drains-requires-2 g c =
    let one = c.expect-one.result in
    let granted = rw c.expect-one.ensures at c.claims-3.ensures.ticket in
    let here : one.region ≡ 1 = granted.0 in
    (c.looks.ensures.board, c.looks.ensures.watch, (c.looks.ensures.others 0).tickets one (λ e. omega arith) granted.1)

pub returns-clause-zero : goal.returns-clause-zero
returns-clause-zero g c =
    let zero = c.drains.new.ticket in
    let granted = rw c.expect-zero.ensures at c.claims.ensures.ticket in
    let here : zero.region ≡ 0 = c.drains.ensures.ticket.0 ∙ granted.0 in
    let granted-one = rw c.expect-one.ensures at c.claims-3.ensures.ticket in
    let one : c.expect-one.result.region ≡ 1 = granted-one.0 in
    let granted-two = rw c.expect-two.ensures at c.claims-4.ensures.ticket in
    let two : c.expect-two.result.region ≡ 2 = granted-two.0 in
    c.claims-5.ensures.others.tickets zero (λ e. omega arith)
    ((c.looks-2.ensures.others 1).tickets zero (λ e. omega arith)
    (c.drains-3.ensures.others.tickets zero (λ e. omega arith)
    (c.claims-4.ensures.others.tickets zero (λ e. omega arith)
    (c.drains-2.ensures.others.tickets zero (λ e. omega arith)
    ((c.looks.ensures.others 1).tickets zero (λ e. omega arith)
    (c.claims-3.ensures.others.tickets zero (λ e. omega arith) c.drains.ensures.ticket.1))))))

pub returns-clause-one : goal.returns-clause-one
returns-clause-one g c =
    let one = c.drains-2.new.ticket in
    let granted = rw c.expect-one.ensures at c.claims-3.ensures.ticket in
    let here : one.region ≡ 1 = c.drains-2.ensures.ticket.0 ∙ granted.0 in
    let granted-two = rw c.expect-two.ensures at c.claims-4.ensures.ticket in
    let two : c.expect-two.result.region ≡ 2 = granted-two.0 in
    c.claims-5.ensures.others.tickets one (λ e. omega arith)
    ((c.looks-2.ensures.others 0).tickets one (λ e. omega arith)
    (c.drains-3.ensures.others.tickets one (λ e. omega arith)
    (c.claims-4.ensures.others.tickets one (λ e. omega arith) c.drains-2.ensures.ticket.1)))

pub returns-clause-two : goal.returns-clause-two
returns-clause-two g c =
    let two = c.drains-3.new.ticket in
    let granted = rw c.expect-two.ensures at c.claims-4.ensures.ticket in
    let here : two.region ≡ 2 = c.drains-3.ensures.ticket.0 ∙ granted.0 in
    c.claims-5.ensures.others.tickets two (λ e. omega arith)
    ((c.looks-2.ensures.others 0).tickets two (λ e. omega arith) c.drains-3.ensures.ticket.1)
