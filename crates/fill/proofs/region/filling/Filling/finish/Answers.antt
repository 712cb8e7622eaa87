use Rattle.std.proofs.Common.{◌≡◌, ℕ, ◌+◌, ◌≤◌, ◌<◌, false, length, sym, ◌∙◌, subst, arith}
use Rattle.object_heap.specs.HeapImage.{HeapImage, heap_words, region_count, start_of}
use Rattle.summary.specs.NewAddresses.{prefix_end}
use Rattle.summary.specs.WordMoves.{reads}
use Rattle.claim_board.specs.RegionBoards.{original_words}
use Rattle.fill.specs.declared.region.site.Site.{Site}
use Rattle.fill.specs.WordBlocks.{Shows}
use Rattle.fill.specs.CopiedWords.{copied_word}
use Rattle.fill.specs.SlidWords.{slid_word}
use Rattle.fill.specs.WrittenWords.{IsBlockOf, IsMoved}
use Rattle.fill.proofs.Lemmas.Held.{shows_copied, keeps_image, keeps_opaque}
use Rattle.fill.proofs.Lemmas.WrittenTo.{shows_block, to_fill-below}
use Rattle.fill.proofs.region.filling.Filling.finish.Goals as goal

pub redirect_objects-requires-clause-own : goal.redirect_objects-requires-clause-own
redirect_objects-requires-clause-own g c = subst (λ (p : Site). p.region < c.args.from) (sym c.requires.site) c.requires.own

pub redirect_objects-requires-clause-within : goal.redirect_objects-requires-clause-within
redirect_objects-requires-clause-within g c = subst (λ (p : Site). c.args.from ≤ region_count p.guide.now) (sym c.requires.site) c.requires.within

pub redirect_objects-requires-clause-last : goal.redirect_objects-requires-clause-last
redirect_objects-requires-clause-last g c = subst (λ (p : Site). (t : ℕ) → c.args.from ≤ t → t < region_count p.guide.now → reads p.guide.now p.region t ≡ false) (sym c.requires.site) c.requires.last

pub redirect_objects-requires-clause-block : goal.redirect_objects-requires-clause-block
redirect_objects-requires-clause-block g c = subst (λ (p : Site). IsBlockOf p.guide.now c.args.words.now) (sym c.requires.site) c.requires.block

pub redirect_objects-requires-clause-copied : goal.redirect_objects-requires-clause-copied
redirect_objects-requires-clause-copied g c =
    let site = c.args.self.now.site in
    let image : HeapImage = site.guide.now in
    let board = g.D.HasBoard.keeps c.args.self.now.desk.now in
    let kept = keeps_image c.args.self.now.redirects image board c.if-self.true c.args.self.now.keeps in
    let behind = subst (λ (p : Site). prefix_end p.guide.now ≤ start_of p.guide.now p.region) c.requires.site c.args.place.now.after_prefix in
    let long = c.requires.block in
    let fits : site.span.start + length c.args.words.now ≤ heap_words image = omega (arith, site.start, site.end, site.in_heap) in
    subst (λ (p : Site). Shows (copied_word p.guide.now) p.span.start c.args.words.now) (sym c.requires.site)
    (shows_copied image c.image_is_valid.ensures (original_words board) kept.original c.plan_laws.ensures site.span.start c.args.words.now (omega (arith, site.start)) fits c.requires.slid)

pub returns-then-self : goal.returns-then-self
returns-then-self g c =
    let site = c.args.self.now.site in
    let image : HeapImage = site.guide.now in
    let board = g.D.HasBoard.keeps c.args.self.now.desk.now in
    let kept = keeps_image c.args.self.now.redirects image board c.if-self.true c.args.self.now.keeps in
    subst (λ (p : Site). IsMoved p.guide.now p.region c.redirect_objects.new.words) c.requires.site c.redirect_objects.ensures.now
    ∙ sym (kept.moved site.region (to_fill-below c.plan_laws.ensures image c.image_is_valid.ensures site.region site.to_fill))

pub returns-else-self : goal.returns-else-self
returns-else-self g c =
    let site = c.args.self.now.site in
    let image : HeapImage = site.guide.now in
    let board = g.D.HasBoard.keeps c.args.self.now.desk.now in
    let valid = c.image_is_valid.ensures in
    let kept = keeps_opaque c.args.self.now.redirects image board c.if-self.false c.args.self.now.keeps in
    let shows = subst (λ (n : ℕ). Shows (slid_word image (original_words board)) n c.args.words.now) site.start c.requires.slid in
    shows_block image valid (slid_word image (original_words board)) site.region c.args.words.now c.requires.block shows
    ∙ sym (kept.slid site.region (to_fill-below c.plan_laws.ensures image valid site.region site.to_fill))
