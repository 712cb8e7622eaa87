use Rattle.std.proofs.Common.{◌≡◌, ◌≤◌, sym, ◌∙◌, arith}
use Rattle.std.proofs.lemmas.Bool.{leb-true}
use Rattle.std.proofs.lemmas.Fmt.{decimal_injective}
use Rattle.history.proofs.schedule.reply_text.readers.Goals as goal

pub returns-else-n-le2 : goal.returns-else-n-le2
returns-else-n-le2 c = λ n few same.
    let low : n ≤ 2 = leb-true n 2 few in
    let high = c.if-n-le2.false in
    let e : c.in_ok-n.n ≡ n = decimal_injective c.in_ok-n.n n (omega arith) (omega arith) (sym c.in_ok-n.ensures ∙ same) in
    omega arith
