use Rattle.std.proofs.Common.{◌≡◌, ℕ, ◌+◌, ◌-◌, ◌%◌, ◌^◌, ◌≤◌, ◌<◌, inl, inr, List, [], ◌∷◌, ◌++◌, length, get_or, sym, ◌∙◌, ap, subst, arith}
use Rattle.std.specs.Int.RustNames.{count_ones}
use Rattle.std.proofs.lemmas.Bool.{cases_lt}
use Rattle.std.proofs.lemmas.List.{length-append}
use Rattle.summary.specs.Ranks.{ones_from, rank_of}
use Rattle.std.proofs.lemmas.Nat.{ones-le}
use Rattle.std.proofs.Math.Nat.{mod-eq_of_lt}
use Rattle.summary.proofs.Lemmas.BitRanks.{IsBegun, first-begun, other-begun, ones-next, ranks-made, ranks-more}
use Rattle.summary.proofs.plan.ranks.Ranks.of.Goals as goal

-- the block of word i has its first rank
begun : (c : goal.After-from-rank) → IsBegun (ones_from c.args.first c.args.bits.now) c.start_of.new.starts.items c.loop-i.steps.items c.loop-i.i c.in_ok-start.start c.loop-i.rank
begun c = elim (cases_lt 0 (c.loop-i.i % 1024)) [
  | inl other ↦ other-begun (ones_from c.args.first c.args.bits.now) c.loop-i.starts.items c.loop-i.steps.items c.start_of.new.starts.items c.loop-i.i c.loop-i.rank c.loop-i.start c.in_ok-start.start
      other c.loop-i.invariant.begun c.loop-i.invariant.no_more c.loop-i.invariant.last c.loop-i.invariant.above c.loop-i.invariant.near c.loop-i.invariant.ranks (c.in_ok-start.ensures.others other)
  | inr first ↦ (let block : c.loop-i.i % 1024 ≡ 0 = omega arith in first-begun (ones_from c.args.first c.args.bits.now) c.loop-i.starts.items c.loop-i.steps.items c.start_of.new.starts.items c.loop-i.i c.loop-i.rank c.in_ok-start.start
      block c.loop-i.invariant.begun c.loop-i.invariant.no_more c.loop-i.invariant.ranks (c.in_ok-start.ensures.first block))
]

pub loop-i-preserved : goal.loop-i-preserved
loop-i-preserved c =
    let words : List ℕ = c.args.bits.now in
    let i : ℕ = c.loop-i.i in
    let is = begun c in
    let pushed : c.push.new.self.items ≡ c.loop-i.steps.items ++ (c.loop-i.rank - c.in_ok-start.start) ∷ [] = c.in_ok-push.ensures.items in
    let long = length-append c.loop-i.steps.items ((c.loop-i.rank - c.in_ok-start.start) ∷ []) in
    let fits : c.word.result < 2 ^ 64 = c.word.type_inv in
    let whole : c.word.result ≡ get_or words i 0 % 2 ^ 64 = sym (mod-eq_of_lt fits) ∙ ap (λ w. w % 2 ^ 64) c.word.ensures in
    let ones : c.from-rank.result ≡ count_ones (get_or words i 0 % 2 ^ 64) = c.from-rank.ensures ∙ ap count_ones whole in
    let some : count_ones (get_or words i 0 % 2 ^ 64) ≤ 64 = ones-le 64 (get_or words i 0 % 2 ^ 64) (omega arith) in
    let next = ones-next words i (let test = c.loop-i-test.true in let all = c.loop-i.auto.i-end in omega arith) in
    let rank = c.loop-i.invariant.rank in
    let few = c.loop-i.invariant.few in
    let inside = is.inside in
    let more = is.few in
    let above = is.above in
    let near = is.near in
    record {
      made = ap length pushed ∙ long ∙ ap (λ k. k + 1) c.loop-i.invariant.made;
      begun = omega arith;
      no_more = omega arith;
      rank = omega arith;
      few = omega arith;
      above = omega arith;
      near = omega arith;
      last = λ some. is.last;
      ranks = subst (λ (xs : List ℕ). (k : ℕ) → k < i + 1 → rank_of c.start_of.new.starts.items xs k ≡ ones_from c.args.first words k) (sym pushed)
          (ranks-more (ones_from c.args.first words) c.start_of.new.starts.items c.loop-i.steps.items i c.loop-i.rank c.in_ok-start.start
          c.loop-i.invariant.made is.inside is.few is.last is.above c.loop-i.invariant.rank is.ranks);
    }

pub returns : goal.returns
returns c = ranks-made (ones_from c.args.first c.args.bits.now) c.loop-i.starts.items c.loop-i.steps.items c.loop-i.i c.args.words c.loop-i.invariant.made
    (let end = c.loop-i-test.false in let all = c.loop-i.auto.i-end in omega arith) c.loop-i.invariant.ranks
