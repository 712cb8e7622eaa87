use Rattle.std.proofs.Common.{◌+◌, ℕ, ◌∙◌, ap}
use Rattle.object_heap.specs.HeapImage.{HeapImage, region_words, start_of}
use Rattle.summary.specs.WordMoves.{slid}
use Rattle.fill.specs.CopiedWords.{reaches}
use Rattle.fill.proofs.Lemmas.WrittenTo.{region_fits, reads-is}
use Rattle.fill.proofs.region.after_prefix.AfterPrefix.reads_itself.Goals as goal

pub destination-first-requires : goal.destination-first-requires
destination-first-requires c = record { inside = c.args.self.now.site.inside; after_prefix = c.args.self.now.after_prefix }

pub destination_after-after-requires : goal.destination_after-after-requires
destination_after-after-requires c = record { inside = c.args.self.now.site.inside; after_prefix = c.args.self.now.after_prefix }

pub returns : goal.returns
returns c =
    let site = c.args.self.now.site in
    let image : HeapImage = site.guide.now in
    let valid = c.image_is_valid.ensures in
    let d : ℕ = site.region in
    let s : ℕ = start_of image d in
    let e : ℕ = start_of image d + region_words image in
    let behind = c.args.self.now.after_prefix in
    c.reaches.ensures
    ∙ ap (λ m. reaches m site.span.end c.destination-first.result c.destination_after-after.result) site.start
    ∙ ap (λ m. reaches s m c.destination-first.result c.destination_after-after.result) site.end
    ∙ ap (λ m. reaches s e m c.destination_after-after.result) c.destination-first.ensures
    ∙ ap (λ m. reaches s e (slid image s) m) c.destination_after-after.ensures
    ∙ reads-is c.plan_laws.ensures image valid.live_list d d behind behind (region_fits image valid d site.inside)
