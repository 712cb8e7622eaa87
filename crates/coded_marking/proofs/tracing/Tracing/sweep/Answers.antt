use Rattle.std.proofs.Common.{◌≡◌, ◌+◌, ◌*◌, ◌/◌, ◌≤◌, ℕ, length, ◌∙◌, ap, arith}
use Rattle.object_heap.specs.HeapImage.{heap_words}
use Rattle.coded_marking.proofs.Lemmas.Drained.{gets_on_more}
use Rattle.coded_marking.proofs.Lemmas.Underway.{underway_anew, underway_below, underway_incomplete}
use Rattle.coded_marking.proofs.tracing.Tracing.sweep.Goals as goal

pub loop-i-preserved : goal.loop-i-preserved
loop-i-preserved c =
    let before = c.loop-i.invariant in
    let next = c.follow_word.ensures in
    record {
      steady = next.steady;
      words = next.words ∙ before.words;
      goes_on = λ roots test u. next.goes_on roots test (before.goes_on roots test u);
      keeps = λ b h. next.keeps b (before.keeps b h);
      gets_on = gets_on_more c.args.self.now c.loop-i.self c.follow_word.new.self before.words before.keeps next.words next.keeps before.gets_on c.in_ok-follow_word.ensures.gets_on;
      empty = c.in_ok-follow_word.ensures.empty;
    }

pub returns-in_err-follow_word-clause-goes_on : goal.returns-in_err-follow_word-clause-goes_on
returns-in_err-follow_word-clause-goes_on c = λ roots test u.
    let image = c.args.heap.now in
    let next : ℕ = 64 * (c.loop-i.i + 1) in
    underway_incomplete image roots test next (heap_words image) c.follow_word.new.self c.in_err-follow_word.ensures.incomplete
    (c.follow_word.ensures.goes_on roots test (c.loop-i.invariant.goes_on roots test (underway_anew image roots test (heap_words image) c.args.self.now u)))

-- the bits have a word for each address
all_words : (words n i : ℕ) → n ≡ words / 64 + 1 → n ≤ i → words ≤ 64 * i
all_words words n i room past = omega arith

pub returns-clause-goes_on : goal.returns-clause-goes_on
returns-clause-goes_on c = λ roots test u.
    let image = c.args.heap.now in
    let room = c.requires.steady.room in
    let are = c.requires.words in
    let same = ap length c.words-i-end.ensures in
    let past = c.loop-i-test.false in
    let all : heap_words image ≤ 64 * c.loop-i.i = all_words (heap_words image) (heap_words image / 64 + 1) c.loop-i.i (omega arith) (omega (arith, room, are, same, past)) in
    underway_below image roots test (64 * c.loop-i.i) (heap_words image) c.loop-i.self all (c.loop-i.invariant.goes_on roots test (underway_anew image roots test (heap_words image) c.args.self.now u))
