use Rattle.std.proofs.Common.{◌≡◌, ℕ, ◌+◌, ◌-◌, ◌*◌, ◌^◌, ◌<◌, ◌≤◌, sym, ◌∙◌, ap, subst, arith, suc, pow-suc}
use Rattle.std.specs.Int.{bit_at}
use Rattle.std.proofs.lemmas.Nat.Bits.{bit_at_above, bit_at_cat_high}
use Rattle.object_heap.proofs.bits.highest.Goals as goal

pub returns : goal.returns
returns c =
    let word : ℕ = c.args.word in
    let i : ℕ = c.from.result in
    let is : i ≡ c.ilog2.result = c.from.ensures in
    let small : 2 ^ i ≤ word = subst (λ n. 2 ^ n ≤ word) (sym is) c.ilog2.ensures.power_le in
    let large : word < 2 * 2 ^ i = subst (λ n. word < 2 * 2 ^ n) (sym is) c.ilog2.ensures.next_power_gt in
    let parts : word ≡ 1 * 2 ^ i + (word - 2 ^ i) = omega arith in
    let here : i - i ≡ 0 = omega arith in
    let twice : 2 * 2 ^ i ≡ 2 ^ i * 2 = omega arith in
    record {
      below = subst (λ n. n < 64) (sym is) c.ilog2.ensures.bound;
      set = ap (λ n. bit_at n i) parts ∙ bit_at_cat_high 1 i (word - 2 ^ i) i (omega arith) (omega arith) ∙ ap (bit_at 1) here;
      greatest = λ j l. bit_at_above word (suc i) j (subst (λ n. word < n) (twice ∙ sym (pow-suc 2 i)) large) (omega arith);
    }
