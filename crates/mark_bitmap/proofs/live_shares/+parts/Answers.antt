use Rattle.std.proofs.Common.{◌≡◌, ◌+◌, length, sym, subst, rules}
use Rattle.object_heap.specs.HeapImage.{is_live_word}
use Rattle.mark_bitmap.specs.Marks.{AreBitsFrom}
use Rattle.mark_bitmap.proofs.Lemmas.PartBits.{join_bits}
use Rattle.mark_bitmap.proofs.live_shares.+parts.Goals as goal

pub returns-clause-bits : goal.returns-clause-bits
returns-clause-bits g t c =
    let image = c.args.self.now.image.now in
    let words = c.split_at_mut-low_words in
    let low : AreBitsFrom (is_live_word image) c.args.start c.low_words-1.given.0 = search rules in
    let high : AreBitsFrom (is_live_word image) (c.args.start + length words.result.0.now) c.high_words-1.given.0 = search rules in
    let room : length c.low_words-1.given.0 ≡ length words.result.0.now = search rules in
    join_bits (is_live_word image) c.args.start c.low_words-1.given.0 c.high_words-1.given.0 low
    (subst (λ n. AreBitsFrom (is_live_word image) (c.args.start + n) c.high_words-1.given.0) (sym room) high)
