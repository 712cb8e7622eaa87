use Rattle.std.proofs.Common.{◌≡◌, ◌<◌, ℕ, Bool, List, [], length, refl, sym, subst, ap, ◌∙◌}
use Rattle.std.specs.Prelude.{Option, Some, None, IfSome, slice_index_or}
use Rattle.object_heap.specs.HeapImage.{HeapImage, IsValid, region_count}
use Rattle.scheduler.specs.MoveTable.{MoveTable, region_count as regions_of, to_fill}
use Rattle.claim_board.specs.RegionBoards.{moves, original_words, moved_words}
use Rattle.claim_board.specs.declared.regions.region_board.RegionBoard.{RegionBoard}
use Rattle.fill.specs.KeptImages.{Keeps, KeepsOpaque}
use Rattle.fill.specs.SlidWords.{slid_block}
use Rattle.collector.specs.Slides.{slid_regions}
use Rattle.collector.proofs.Lemmas.Regions.{all_become}
use Rattle.collector.proofs.session.Session.finish_slide.Goals as goal

if_some : {X : Type 0} (o : Option X) (P : X → Type 0) → ((x : X) → o ≡ Some x → P x) → IfSome o P
if_some None P h = tt
if_some (Some x) P h = h x refl

pub returns-clause-words : goal.returns-clause-words
returns-clause-words c heap is = if_some heap.held _ (λ blocks e.
    let survey : HeapImage = c.args.self.shared.survey in
    let board : RegionBoard = c.args.self.shared.desk in
    let f : ℕ → List ℕ = λ r. slice_index_or blocks r [] in
    let keeps : KeepsOpaque survey board = subst (λ (redirects : Bool). Keeps redirects survey board) (sym c.is_some.ensures ∙ c.if-is_some.false) c.args.self.shared.keeps in
    let valid : IsValid survey = subst IsValid c.plan.ensures c.planned_image_is_valid.ensures in
    let same : regions_of (moves board) ≡ region_count survey = ap regions_of keeps.moves ∙ c.moves_of_images.ensures.regions survey in
    let held : (r : ℕ) → r < region_count survey → original_words board r ≡ f r = λ r inside. is.words blocks e r (subst (λ (i : HeapImage). r < region_count i) is.image inside) in
    let law = c.opaque_regions_slide.ensures in
    let all : c.in_ok-regions.regions.items ≡ slid_regions survey blocks = all_become survey (moves board) (original_words board) (moved_words board) (slid_block survey f) c.in_ok-regions.regions.items
    (c.in_ok-regions.ensures.count ∙ same)
    (λ r inside. c.in_ok-regions.ensures.words r (subst (λ (n : ℕ). r < n) (sym same) inside))
    (λ r. ap (λ (m : MoveTable). to_fill m r) keeps.moves ∙ (c.moves_of_images.ensures.to_fill survey valid r ∙ c.regions_to_fill.ensures.count survey r))
    (λ r inside below. keeps.slid r below ∙ law.same survey valid (original_words board) f held r inside)
    (λ r inside after. held r inside ∙ sym (law.above survey valid f (λ q l. ap length (sym (held q l)) ∙ keeps.whole q l) r after inside)) in
    subst (λ (i : HeapImage). c.in_ok-regions.regions.items ≡ slid_regions i blocks) is.image all)
