use Rattle.std.proofs.Common.{◌∙◌, ℕ, subst}
use Rattle.object_heap.specs.HeapImage.{HeapImage}
use Rattle.summary.specs.Compaction.{moved_word}
use Rattle.fill.specs.WordBlocks.{Shows}
use Rattle.fill.proofs.Lemmas.WrittenWords.{unwritten_block}
use Rattle.fill.proofs.Lemmas.WrittenTo.{shows_block}
use Rattle.fill.proofs.region.in_prefix.InPrefix.fill.Goals as goal

pub redirect_objects-requires-clause-block : goal.redirect_objects-requires-clause-block
redirect_objects-requires-clause-block c =
    let image : HeapImage = c.args.self.now.site.guide.now in
    let block = unwritten_block image c.args.self.now.site.region c.args.words.now c.image_is_valid.ensures c.args.self.now.site.inside c.requires in
    c.write_fillers.ensures.same_length ∙ block

pub redirect_objects-requires-clause-copied : goal.redirect_objects-requires-clause-copied
redirect_objects-requires-clause-copied c = c.write_fillers.ensures.now

pub returns : goal.returns
returns c =
    let site = c.args.self.now.site in
    let image : HeapImage = site.guide.now in
    let valid = c.image_is_valid.ensures in
    let block = unwritten_block image site.region c.args.words.now valid site.inside c.requires in
    let same = c.redirect_objects.ensures.same_length ∙ c.write_fillers.ensures.same_length in
    let whole = same ∙ block in
    let shows = subst (λ (n : ℕ). Shows (moved_word image) n c.redirect_objects.new.words) site.start c.redirect_objects.ensures.now in
    record { same_length = same; now = shows_block image valid (moved_word image) site.region c.redirect_objects.new.words whole shows }
