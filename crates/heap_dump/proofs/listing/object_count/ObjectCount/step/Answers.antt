use Rattle.std.proofs.Common.{◌≡◌, ◌+◌, refl, sym, subst}
use Rattle.std.specs.Prelude.{MatchOption}
use Rattle.object_heap.specs.HeapImage.{word_at}
use Rattle.heap_dump.specs.declared.listing.object_count.ObjectCount.{ObjectCount}
use Rattle.heap_dump.specs.Listing.{HasObjectsBefore, IsObjectAt}
use Rattle.heap_dump.proofs.Lemmas.Listings.{count_dead, count_live}
use Rattle.heap_dump.proofs.listing.object_count.ObjectCount.step.Goals as goal
use Rattle.heap_dump.proofs.listing.object_count.ObjectCount.step.Goals.{then-is_next_live, else-is_next_live}

pub returns-clause-before : goal.returns-clause-before
returns-clause-before c =
    let image = c.args.image.now in
    let at = c.args.at in
    let words = c.in-Some.words in
    let count = c.args.self.now in
    let object : IsObjectAt image at words =
    subst (λ o. MatchOption o (word_at image at ≡ 0) (λ words. IsObjectAt image at words)) c.in-Some.is c.in_ok-words.ensures.found in
    elim c.if-is_next_live.branch [
      | then-is_next_live w ↦ subst (λ (s : ObjectCount). HasObjectsBefore image s.live (at + words) s.objects) (sym w.self-is)
          (count_live image count.live at words count.objects object (w.if-is_next_live.ensures.next refl) c.requires.before)
      | else-is_next_live w ↦ subst (λ (s : ObjectCount). HasObjectsBefore image s.live (at + words) s.objects) (sym w.self-is)
          (count_dead image count.live at words count.objects object c.requires.before)
    ]
