use Rattle.std.proofs.Common.{arith}
use Rattle.std.proofs.lemmas.Nat.{mul-le}
use Rattle.heap_commands.proofs.map.Cut.cells.Goals as goal

pub overflow_mul-result : goal.overflow_mul-result
overflow_mul-result c =
    let most = mul-le c.min-width.result c.min-rows.result 1000 100 (omega (arith, c.min-width.ensures)) (omega (arith, c.min-rows.ensures)) in
    omega (arith, most)

pub returns-clause-some : goal.returns-clause-some
returns-clause-some c =
    let least = mul-le 1 1 c.min-width.result c.min-rows.result (omega (arith, c.min-width.ensures, c.max.ensures)) (omega (arith, c.min-rows.ensures, c.max-2.ensures)) in
    omega (arith, least)

pub returns-clause-few : goal.returns-clause-few
returns-clause-few c =
    let most = mul-le c.min-width.result c.min-rows.result 1000 100 (omega (arith, c.min-width.ensures)) (omega (arith, c.min-rows.ensures)) in
    omega (arith, most)
