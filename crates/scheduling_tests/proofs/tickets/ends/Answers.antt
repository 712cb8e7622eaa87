use Rattle.std.proofs.Common.{◌≡◌, ◌∙◌, arith}
use Rattle.scheduling_tests.proofs.tickets.ends.Goals as goal

pub returns-clause-done : goal.returns-clause-done
returns-clause-done g c =
    let two = c.completes-two.result in
    let here : two.region ≡ 2 = c.completes-two.ensures.done.0 ∙ c.requires.regions.2 in
    let zero : c.completes-zero.result.region ≡ 0 = c.completes-zero.ensures.done.0 ∙ c.requires.regions.0 in
    let one : c.completes-one.result.region ≡ 1 = c.completes-one.ensures.done.0 ∙ c.requires.regions.1 in
    (c.polls.ensures.others 0).dones two (λ e. omega arith)
    (c.settles-2.ensures.others.dones two (λ e. omega arith)
    (c.settles.ensures.others.dones two (λ e. omega arith) c.completes-two.ensures.done.1))
