use Rattle.scheduler.proofs.Lemmas.Pairs.{IsSlide, slide_of}
use Rattle.scheduler.proofs.laws.pairs_slide_down.Goals as goal

pub returns : goal.returns
returns c m d s table e = let slide : IsSlide m d s = slide_of m d s table e in (slide.down, slide.from_inside, slide.fills)
