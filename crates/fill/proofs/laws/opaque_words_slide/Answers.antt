use Rattle.fill.proofs.laws.opaque_words_slide.Goals as goal
use Rattle.fill.proofs.Lemmas.Slides.{slid_word-above, slid_word-slid}
use Rattle.fill.proofs.Lemmas.SlidBlocks.{slid_word-nowhere}

pub returns : goal.returns
returns c = record { live = λ image valid. slid_word-slid c.plan_laws.ensures image valid.live_list; others = slid_word-nowhere; free = slid_word-above }
