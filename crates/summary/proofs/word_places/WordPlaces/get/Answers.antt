use Rattle.std.proofs.Common.{◌≡◌, true, false, subst}
use Rattle.std.specs.Prelude.{MatchOption}
use Rattle.object_heap.specs.HeapImage.{HeapImage, is_live_word}
use Rattle.summary.specs.WordMoves.{slid}
use Rattle.summary.proofs.word_places.WordPlaces.get.Goals as goal

pub returns : goal.returns
returns c =
    let a = c.args.address in
    subst (λ (m : HeapImage). MatchOption c.place_of.result (is_live_word m a ≡ false) (λ to. (is_live_word m a ≡ true) × (to ≡ slid m a)))
    c.self.view_is c.place_of.ensures
