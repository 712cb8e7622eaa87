use Rattle.std.proofs.Common.{◌≡◌, ℕ, ◌+◌, ◌++◌, ◌≤◌, length, sym, ◌∙◌, ap, arith}
use Rattle.object_heap.specs.Bits.{addresses_between}
use Rattle.heap_marking.proofs.Lemmas.Ones.{between-append, length-between-append}
use Rattle.heap_marking.proofs.live_list.+parts.Goals as goal

behind : (cut list all low high back : ℕ) → cut ≡ low → list ≡ all → all ≡ low + high → back + cut ≡ list → back ≡ high
behind cut list all low high back a b c d = omega (arith, a, b, c, d)

fits : (cut list all low high : ℕ) → cut ≡ low → list ≡ all → all ≡ low + high → cut ≤ list
fits cut list all low high a b c = omega (arith, a, b, c)

pub ListWriter::write-split_at_mut-low-requires : goal.ListWriter::write-split_at_mut-low-requires
ListWriter::write-split_at_mut-low-requires g t c =
    let words = c.args.self.now.words.now in
    let first = c.args.first in
    let middle : ℕ = first + c.args.self.now.share in
    let more = c.if-rest-self.false in
    let split = length-between-append words first middle (length words) (omega arith) (omega arith) in
    fits c.ones_between-count.result (length c.args.list.now) (length (addresses_between words first (length words))) (length (addresses_between words first middle)) (length (addresses_between words middle (length words)))
    c.ones_between-count.ensures c.requires.room split

pub ListWriter::write-write_both-requires-clause-low : goal.ListWriter::write-write_both-requires-clause-low
ListWriter::write-write_both-requires-clause-low g t c κs within = c.split_at_mut-low.ensures.front_len ∙ c.ones_between-count.ensures

pub ListWriter::write-write_both-requires-clause-high : goal.ListWriter::write-write_both-requires-clause-high
ListWriter::write-write_both-requires-clause-high g t c κs within =
    let words = c.args.self.now.words.now in
    let first = c.args.first in
    let middle : ℕ = first + c.args.self.now.share in
    let more = c.if-rest-self.false in
    let split = length-between-append words first middle (length words) (omega arith) (omega arith) in
    let cut = c.split_at_mut-low in
    record {
      few = c.requires.few;
      some = c.requires.some;
      inside = omega arith;
      room = behind c.ones_between-count.result (length c.args.list.now) (length (addresses_between words first (length words))) (length (addresses_between words first middle)) (length (addresses_between words middle (length words))) (length cut.result.1.now)
          c.ones_between-count.ensures c.requires.room split cut.ensures.back_len;
    }

pub ListWriter::write-returns : goal.ListWriter::write-returns
ListWriter::write-returns g t c =
    let words = c.args.self.now.words.now in
    let first = c.args.first in
    let middle : ℕ = first + c.args.self.now.share in
    let more = c.if-rest-self.false in
    ap (λ xs. xs ++ c.write_both.new.high) c.write_both.ensures.low
    ∙ ap (λ xs. addresses_between words first middle ++ xs) c.write_both.ensures.high
    ∙ sym (between-append words first middle (length words) (omega arith) (omega arith))
