use Rattle.std.proofs.Common.{◌≡◌, ◌*◌, ◌/◌, ◌%◌, ◌^◌, length, ap, ◌∙◌, arith}
use Rattle.std.proofs.Math.Nat.{mul-mod_left}
use Rattle.heap_dump.proofs.limits.words_within_limits.Goals as goal

pub returns-clause-limits : goal.returns-clause-limits
returns-clause-limits c =
    let log = c.args.region_log in
    let regions = c.args.regions.now in
    let words = c.words_of-words.result in
    let are = c.words_of-words.ensures.count in
    let long : words ≡ length regions * 2 ^ log = are ∙ c.blocks_joined.ensures.words log regions c.requires.whole in
    let rows : words / 2 ^ log ≡ length regions = ap (λ n. n / 2 ^ log) are ∙ c.blocks_joined.ensures.count log regions c.requires.whole in
    let some = c.if-words-eq0.false in
    record {
      region_log_low = c.requires.low;
      region_log_high = omega (arith, c.requires.high);
      not_empty = omega arith;
      whole_regions = ap (λ n. n % 2 ^ log) long ∙ mul-mod_left (length regions) (2 ^ log);
      few_words = omega (arith, c.if-words-max_words.false);
      few_regions = omega arith;
      few_live = omega arith;
    }
