use Rattle.std.proofs.Common.{length, replicate, ℕ, true, false, ◌∙◌, ap, sym, refl}
use Rattle.raw_region.specs.Region.{shown_words}
use Rattle.raw_region.specs.RegionBlock.{is_clear_of}
use Rattle.raw_region.proofs.Lemmas.Seen.{hides-lent, is_clear-set, shown_words-cleared, shown_words-kept}
use Rattle.raw_region.proofs.region.Region.words_mut.Goals as goal
use Rattle.raw_region.proofs.region.Region.words_mut.Goals.{then-hides, else-hides}

-- Where the words were hidden, the block has the zeros by now.
pub returns : goal.returns
unfolding shown_words
returns c =
    let clear = is_clear_of c.self.inside.home in
    let ws = c.self.inside.block.words in
    let got = c.words.result.now in (
      (refl, λ w. ap (λ flag. shown_words flag w) (is_clear-set c.set_clear.new.self c.if-hides.self-inside.home false c.set_clear.ensures)),
      record {
        writes_back = tt;
        value = c.words_mut-2.ensures.value ∙ elim c.if-hides.branch [
          | then-hides w ↦ ap (λ i. i.block.words) w.self-inside-is ∙ w.zero.ensures ∙ ap (λ l. replicate {A = ℕ} (length l) 0) w.words_mut.ensures.value ∙ sym (shown_words-cleared clear ws (hides-lent clear ws c.is_clear.result got c.hides.result true c.is_clear.ensures c.words.ensures.value c.hides.ensures.value w.if-hides.true)) ∙ c.self.view_is
          | else-hides w ↦ ap (λ i. i.block.words) w.self-inside-is ∙ sym (shown_words-kept clear ws (hides-lent clear ws c.is_clear.result got c.hides.result false c.is_clear.ensures c.words.ensures.value c.hides.ensures.value w.if-hides.false)) ∙ c.self.view_is
        ];
      },
    )
