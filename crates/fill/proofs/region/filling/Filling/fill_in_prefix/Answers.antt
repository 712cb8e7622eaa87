use Rattle.std.proofs.Common.{ℕ, ◌^◌, ◌<◌, sym, ◌∙◌, ap, subst, arith}
use Rattle.std.proofs.lemmas.Nat.{pow_below}
use Rattle.object_heap.specs.HeapImage.{HeapImage, IsValid, region_words, region_count, start_of, block_of}
use Rattle.summary.specs.NewAddresses.{prefix_end}
use Rattle.summary.specs.WordMoves.{reads as image_reads}
use Rattle.scheduler.specs.MoveTable.{IsMoveTable, MoveTable, reads}
use Rattle.scheduler.specs.ImageMoves.{image_table}
use Rattle.claim_board.specs.Boards.{caller}
use Rattle.claim_board.specs.RegionBoards.{moves, original_words}
use Rattle.fill.specs.declared.region.site.Site.{Site}
use Rattle.fill.specs.WrittenWords.{IsUnwritten, IsMoved}
use Rattle.fill.proofs.Lemmas.Held.{keeps_moves, keeps_image, keeps_opaque, block-kept}
use Rattle.fill.proofs.Lemmas.WrittenTo.{to_fill-below}
use Rattle.fill.proofs.Lemmas.Draining.{sources_skip, other_unread}
use Rattle.fill.proofs.region.filling.Filling.fill_in_prefix.Goals as goal
use Rattle.fill.proofs.region.filling.Filling.fill_in_prefix.Goals.{then-self, else-self}

pub returns-clause-no_source : goal.returns-clause-no_source
returns-clause-no_source g c =
    let site = c.args.self.now.site in
    let image : HeapImage = site.guide.now in
    let valid : IsValid image = c.image_is_valid.ensures in
    let d : ℕ = site.region in
    let low : start_of image d < prefix_end image = subst (λ (n : ℕ). n < prefix_end image) site.start c.requires.in_prefix in
    sources_skip (image_table image) d 0 (region_count image) (omega arith) (λ t a b.
    other_unread d t (reads (image_table image) d t) (image_reads image d t) (c.moves_of_images.ensures.reads image valid d t) (c.reads_by_words.ensures.prefix image valid.live_list d t low))

pub fill-requires : goal.fill-requires
fill-requires g c =
    let site = c.args.self.now.site in
    let image : HeapImage = site.guide.now in
    let kept = keeps_image c.args.self.now.redirects image (g.D.HasBoard.keeps c.args.self.now.desk.now) c.if-self.true c.args.self.now.keeps in
    subst (λ (p : Site). IsUnwritten (block_of p.guide.now) p.region c.args.words.now) (sym c.in_prefix.ensures) (c.requires.words ∙ kept.original site.region site.inside)

pub note-requires : goal.note-requires
note-requires g c =
    let site = c.args.self.now.site in
    let high = c.image_is_valid.ensures.limits.region_log_high in
    let short : region_words site.guide.now < 2 ^ 21 = pow_below site.guide.now.region_log 21 (omega arith) in
    elim c.if-self.branch [
      | then-self w ↦ omega (arith, w.written-is, site.start, site.end)
      | else-self w ↦ omega (arith, w.written-is)
    ]

pub returns-clause-moved : goal.returns-clause-moved
returns-clause-moved g c =
    let site = c.args.self.now.site in
    let image : HeapImage = site.guide.now in
    let valid : IsValid image = c.image_is_valid.ensures in
    let board = g.D.HasBoard.keeps c.args.self.now.desk.now in
    let d : ℕ = site.region in
    let filled = to_fill-below c.plan_laws.ensures image valid d site.to_fill in
    elim c.if-self.branch [
      | then-self w ↦
          let kept = keeps_image c.args.self.now.redirects image board w.if-self.true c.args.self.now.keeps in
          w.words-is ∙ (subst (λ (p : Site). IsMoved p.guide.now p.region w.fill.new.words) w.in_prefix.ensures w.fill.ensures.now ∙ sym (kept.moved d filled))
      | else-self w ↦
          let kept = keeps_opaque c.args.self.now.redirects image board w.if-self.false c.args.self.now.keeps in
          let low : start_of image d < prefix_end image = subst (λ (n : ℕ). n < prefix_end image) site.start c.requires.in_prefix in
          w.words-is ∙ (c.requires.words ∙ block-kept c.plan_laws.ensures image valid (original_words board) d low (kept.whole d site.inside) ∙ sym (kept.slid d filled))
    ]

pub returns-clause-none_left : goal.returns-clause-none_left
returns-clause-none_left g c =
    let site = c.args.self.now.site in
    let image : HeapImage = site.guide.now in
    let valid : IsValid image = c.image_is_valid.ensures in
    let d : ℕ = site.region in
    let low : start_of image d < prefix_end image = subst (λ (n : ℕ). n < prefix_end image) site.start c.requires.in_prefix in
    let t = c.requires.ticket in
    let kept = keeps_moves c.args.self.now.redirects image (g.D.HasBoard.keeps c.args.self.now.desk.now) c.args.self.now.keeps in
    let unread = λ (s : ℕ). (
    other_unread d s (reads (image_table image) d s) (image_reads image d s) (c.moves_of_images.ensures.reads image valid d s) (c.reads_by_words.ensures.prefix image valid.live_list d s low)) in
    c.swept_tickets_have_none_left.ensures (moves (g.D.HasBoard.keeps c.args.self.now.desk.now)) (caller c.args.seat.now.pass) c.args.ticket.now.ticket
    (subst IsMoveTable (sym kept) (c.moves_of_images.ensures.lawful image valid)) t.claimed
    (λ s below read. let no : ⊥ = omega (arith, t.unopened) in absurd no)
    (λ s l. ap (λ (m : MoveTable). reads m c.args.ticket.now.ticket.region s) kept ∙ ap (λ (r : ℕ). reads (image_table image) r s) t.region ∙ unread s)
