use Rattle.std.proofs.Common.{◌≡◌, ℕ, ◌+◌, ◌-◌, ◌*◌, ◌/◌, ◌%◌, ◌<◌, length, get_or, bit_or, ap, ◌∙◌, arith}
use Rattle.std.proofs.lemmas.List.{length-set}
use Rattle.heap_marking.proofs.Lemmas.MovedUp.{moved_on}
use Rattle.heap_marking.proofs.references.moved_up.Goals as goal

pub loop-i-preserved : goal.loop-i-preserved
loop-i-preserved c =
    let words = c.args.words.now in
    let moved = c.loop-i.moved.items in
    let i : ℕ = c.loop-i.i in
    let before = c.loop-i.invariant in
    record {
      room = length-set moved i (bit_or (get_or words i 0 * 2 % 18446744073709551616) (c.loop-i.before / 9223372036854775808)) ∙ before.room;
      bits = moved_on words moved i c.loop-i.before (let room = before.room in let more = c.loop-i-test.true in omega arith) (omega (arith, c.loop-i.auto.before-fits)) before.first before.later before.bits;
      first = λ none. let no : ⊥ = omega arith in absurd no;
      later = λ some. let same : i ≡ i + 1 - 1 = omega arith in ap (λ n. get_or words n 0) same;
    }
