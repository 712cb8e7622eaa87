use Rattle.std.proofs.Common.{◌≡◌, ◌*◌, ◌%◌, ◌^◌, ◌≤◌, arith}
use Rattle.std.proofs.Math.Nat.{mod-eq_of_lt, pow-le-pow_right}
use Rattle.summary.proofs.region_table.RegionTable.region_words.Goals as goal

pub returns-clause-few : goal.returns-clause-few
returns-clause-few c =
    let log = c.self.inside.region_log in
    let same = c.self.invariant.region_log in
    let high = c.self.invariant.valid.limits.region_log_high in
    let small : log ≤ 20 = omega arith in
    let few : 2 ^ log ≤ 2 ^ 20 = pow-le-pow_right {n = 2} (omega arith) small in
    let whole : 1 * 2 ^ log % 18446744073709551616 ≡ 1 * 2 ^ log = mod-eq_of_lt (omega arith) in
    omega arith
