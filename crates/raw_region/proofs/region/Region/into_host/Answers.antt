use Rattle.std.proofs.Common.{◌≡◌, length, replicate, ℕ, true, false, None, ◌∙◌, ap, sym, subst}
use Rattle.raw_region.specs.RegionBlock.{IsAtHome, is_clear_of}
use Rattle.raw_region.proofs.Lemmas.Seen.{hides-lent, shown_words-cleared, shown_words-kept}
use Rattle.raw_region.proofs.region.Region.into_host.Goals as goal
use Rattle.raw_region.proofs.region.Region.into_host.Goals.{then-hides, else-hides}

-- Where the words were hidden, the block has the zeros by now.
pub returns-after-hides-clause-block : goal.returns-after-hides-clause-block
returns-after-hides-clause-block c =
    let clear = is_clear_of c.self.inside.home in
    let is = sym (ap is_clear_of c.in-Host.is) in
    let b = c.self.inside.block in
    let got = c.words.result.now in
    let deed : b.deed ≡ None = subst (λ home. IsAtHome home b) c.in-Host.is c.self.invariant.at_home in
    elim c.if-hides.branch [
      | then-hides w ↦ (
        ap (λ i. i.words) w.block-is ∙ w.zero.ensures ∙ ap (λ l. replicate {A = ℕ} (length l) 0) w.words_mut.ensures.value ∙ sym (shown_words-cleared clear b.words (hides-lent clear b.words c.in-Host.is_clear got c.hides.result true is c.words.ensures.value c.hides.ensures.value w.if-hides.true)) ∙ c.self.view_is,
        ap (λ i. i.deed) w.block-is ∙ deed,
      )
      | else-hides w ↦ (
        ap (λ i. i.words) w.block-is ∙ sym (shown_words-kept clear b.words (hides-lent clear b.words c.in-Host.is_clear got c.hides.result false is c.words.ensures.value c.hides.ensures.value w.if-hides.false)) ∙ c.self.view_is,
        ap (λ i. i.deed) w.block-is ∙ deed,
      )
    ]
