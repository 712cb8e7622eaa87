use Rattle.std.proofs.Common.{◌≡◌, ℕ, zero, suc, ◌+◌, ◌-◌, ◌*◌, ◌/◌, ◌≤◌, List, map, length, get_or, sym, ◌∙◌, ap, subst, refl, arith}
use Rattle.std.specs.Arc.{arc_value}
use Rattle.std.specs.List.{range_with_len}
use Rattle.object_heap.specs.HeapImage.{HeapImage, heap_words, live_words}
use Rattle.mark_bitmap.specs.Marks.{AreLiveBits, bit_words}
use Rattle.summary.specs.NewAddresses.{prefix_end}
use Rattle.summary.specs.Ranks.{ones_before, ones_from}
use Rattle.summary.specs.Redirections.{AreRedirections, first_rank}
use Rattle.summary.proofs.Lemmas.Addresses.{prefix_end-le}
use Rattle.summary.proofs.Lemmas.BitRanks.{map-along, ones-next}
use Rattle.summary.proofs.Lemmas.Ranks.{bits-of, live-next}
use Rattle.summary.proofs.Lemmas.Words.{live_words-le}
use Rattle.summary.proofs.plan.redirections.Redirections.of.Goals as goal

pub live_words-requires-clause-inside : goal.live_words-requires-clause-inside
live_words-requires-clause-inside c =
    let inside = prefix_end-le c.args.image.now c.len.ensures.valid.live_list in
    let prefix = c.requires.prefix in
    let same = ap heap_words c.requires.marks in
    omega arith

pub overflow_sub-dead : goal.overflow_sub-dead
overflow_sub-dead c =
    let few = live_words-le c.args.marks.now 0 c.args.prefix in
    let live = c.live_words.ensures in
    omega arith

pub of-requires-clause-small : goal.of-requires-clause-small
of-requires-clause-small c =
    let inside = prefix_end-le c.args.image.now c.len.ensures.valid.live_list in
    let prefix = c.requires.prefix in
    let limits = c.len.ensures.valid.limits.few_words in
    omega arith

-- the bits set before a word are those of the live words below its first
counted : (m : HeapImage) (live : List ℕ) → AreLiveBits m live → (k : ℕ) → k ≤ length live → ones_before live k ≡ live_words m 0 (64 * k)
counted m live are zero l = refl
counted m live are (suc k) l =
    let before = counted m live are k (omega arith) in
    let ones = ones-next live k (omega arith) in
    let words = live-next m k (get_or live k 0) (bits-of m live are k) in
    let next : suc k ≡ k + 1 = omega arith in
    let here = ap (ones_before live) next in
    let there = ap (λ j. live_words m 0 (64 * j)) next in
    omega arith

pub invariant_of-result : goal.invariant_of-result
invariant_of-result c =
    let m : HeapImage = c.args.image.now in
    let live : List ℕ = arc_value c.in_ok-live.live in
    let first : ℕ = c.args.prefix - c.live_words.result in
    let are : AreLiveBits m live = subst (λ (i : HeapImage). AreLiveBits i live) c.requires.marks c.in_ok-live.ensures in
    let words : c.len.result / 64 + 1 ≡ bit_words m = ap (λ n. n / 64 + 1) c.len.ensures.value in
    let before : c.live_words.result ≡ live_words m 0 (prefix_end m)
    = c.live_words.ensures ∙ ap (λ n. live_words c.args.marks.now 0 n) c.requires.prefix ∙ ap (λ (i : HeapImage). live_words i 0 (prefix_end m)) c.requires.marks in
    let prefix = c.requires.prefix in
    let begins : first ≡ first_rank m = omega arith in
    let long = are.room in
    let is : c.surveyed.result.value ≡ m = c.surveyed.ensures in
    subst (λ (g : HeapImage). AreRedirections g live c.in_ok-ranks.ranks) (sym is) (record {
      valid = c.len.ensures.valid;
      are_live = are;
      ranks_are = c.in_ok-ranks.ensures
          ∙ ap (λ (s : List ℕ). map (ones_from first s) (range_with_len 0 (c.len.result / 64 + 1))) c.deref.ensures
          ∙ ap (λ n. map (ones_from first live) (range_with_len 0 n)) words
          ∙ map-along (ones_from first live) (λ k. first_rank m + live_words m 0 (64 * k)) (bit_words m)
          (λ k l. let same = counted m live are k (omega arith) in omega arith);
    })
