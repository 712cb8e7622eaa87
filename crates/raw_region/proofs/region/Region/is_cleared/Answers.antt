use Rattle.std.proofs.Common.{◌≡◌, length, replicate, ℕ, Bool, true, List, ◌∙◌, ap, sym}
use Rattle.raw_region.specs.Region.{hides, shown_words}
use Rattle.raw_region.specs.RegionBlock.{is_clear_of}
use Rattle.raw_region.proofs.Lemmas.Seen.{hides-lent, length-shown_words, shown_words-cleared}
use Rattle.raw_region.proofs.region.Region.is_cleared.Goals as goal

cleared : (b clear : Bool) (ws got now : List ℕ) (found : Bool) → clear ≡ b → shown_words b ws ≡ now → got ≡ ws → found ≡ hides clear got → found ≡ true → now ≡ replicate (length now) 0
cleared b clear ws got now found flag is same value clear_now =
    let hidden : hides b ws ≡ true = hides-lent b ws clear got found true flag same value clear_now in
    sym is ∙ shown_words-cleared b ws hidden ∙ ap (λ n. replicate n 0) (sym (length-shown_words b ws) ∙ ap length is)

pub returns : goal.returns
returns c = cleared (is_clear_of c.self.inside.home) c.is_clear.result c.self.inside.block.words c.words.result.now c.args.self.now c.hides.result c.is_clear.ensures c.self.view_is c.words.ensures.value c.hides.ensures.value
