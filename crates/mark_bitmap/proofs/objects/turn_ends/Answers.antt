use Rattle.std.proofs.Common.{◌≡◌, ℕ, ◌+◌, ◌*◌, ◌%◌, ◌^◌, ◌<◌, length, get_or, refl, ap, subst, ◌∙◌, arith, rules}
use Rattle.std.proofs.lemmas.List.{length-set, get_or-set_other}
use Rattle.object_heap.specs.HeapImage.{HeapImage, is_live_word}
use Rattle.mark_bitmap.specs.Marks.{continues_at}
use Rattle.mark_bitmap.proofs.Lemmas.Runs.{one, byte-is, has-set, part_word-is}
use Rattle.mark_bitmap.proofs.objects.turn_ends.Goals as goal

pub loop-i-init : goal.loop-i-init
loop-i-init c = (
  refl,
  (λ k l. let no : ⊥ = omega arith in absurd no),
  (let place : 64 * c.args.start ≡ 64 * (c.args.start + 0) = omega arith in
      c.from-carried.ensures ∙ byte-is c.continues_at.result ∙ ap one c.continues_at.ensures ∙ ap (λ n. one (continues_at c.args.image.now n)) place),
  (λ j l. refl),
)

pub overflow_sub-carried : goal.overflow_sub-carried
overflow_sub-carried c =
    let i : ℕ = c.loop-i.i in
    let live : ℕ = c.live_word-live.result in
    let sum : ℕ = live + c.word.result + c.loop-i.carried in
    let same : get_or c.loop-i.words i 0 ≡ get_or c.args.words.now i 0 = c.loop-i.invariant.3 i (omega arith) in
    let word : get_or c.loop-i.words i 0 < 2 ^ 64 = search rules in
    let fits : get_or c.args.words.now i 0 < 2 ^ 64 = subst (λ n. n < 2 ^ 64) same word in
    let inside : c.args.start + i < length c.args.begins.now = omega (arith, c.requires.inside, c.requires.begins.room) in
    let sums : sum % 2 ^ 64 ≡ 2 * get_or c.args.words.now i 0 % 2 ^ 64 = c.live_word-live.ensures ∙ ap (λ n. 2 * n % 2 ^ 64) same in
    let found = part_word-is c.args.image.now c.requires.valid c.args.begins.now c.args.words.now c.args.start i c.word.result live c.loop-i.carried
    c.requires.begins c.requires.ends inside c.loop-i-test.true c.word.ensures c.word.type_inv fits c.live_word-live.type_inv c.loop-i.invariant.2 sums
    in
    let next = found.1 in
    omega (arith, next, same)

pub loop-i-preserved : goal.loop-i-preserved
loop-i-preserved c =
    let image : HeapImage = c.args.image.now in
    let i : ℕ = c.loop-i.i in
    let live : ℕ = c.live_word-live.result in
    let sum : ℕ = live + c.word.result + c.loop-i.carried in
    let same : get_or c.loop-i.words i 0 ≡ get_or c.args.words.now i 0 = c.loop-i.invariant.3 i (omega arith) in
    let word : get_or c.loop-i.words i 0 < 2 ^ 64 = search rules in
    let fits : get_or c.args.words.now i 0 < 2 ^ 64 = subst (λ n. n < 2 ^ 64) same word in
    let inside : c.args.start + i < length c.args.begins.now = omega (arith, c.requires.inside, c.requires.begins.room) in
    let sums : sum % 2 ^ 64 ≡ 2 * get_or c.args.words.now i 0 % 2 ^ 64 = c.live_word-live.ensures ∙ ap (λ n. 2 * n % 2 ^ 64) same in
    let found = part_word-is image c.requires.valid c.args.begins.now c.args.words.now c.args.start i c.word.result live c.loop-i.carried
    c.requires.begins c.requires.ends inside c.loop-i-test.true c.word.ensures c.word.type_inv fits c.live_word-live.type_inv c.loop-i.invariant.2 sums
    in
    let next = found.1 in
    let room : length c.loop-i.words ≡ length c.args.words.now = c.loop-i.invariant.0 in
    let place : c.args.start + i + 1 ≡ c.args.start + (i + 1) = omega arith in (
      length-set c.loop-i.words i live ∙ room,
      has-set c.loop-i.words i live (λ k. is_live_word image (64 * c.args.start + k)) (omega (arith, room)) c.loop-i.invariant.1 (λ j h. found.0 j h ∙ ap (λ n. one (is_live_word image n)) (omega arith)),
      omega (arith, next, same) ∙ ap (λ n. one (continues_at image (64 * n))) place,
      (λ j l. let apart : j ≡ i → ⊥ = λ e. omega arith in get_or-set_other c.loop-i.words i j live 0 apart ∙ c.loop-i.invariant.3 j (omega arith)),
    )

pub returns-clause-bits : goal.returns-clause-bits
returns-clause-bits c = λ k inside. c.loop-i.invariant.1 k (omega (arith, c.loop-i-test.false, c.loop-i.invariant.0))
