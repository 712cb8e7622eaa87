use Rattle.object_pairs.proofs.Lemmas.Texts.{join2}
use Rattle.object_pairs.proofs.json.push_space.Goals as goal

pub returns : goal.returns
returns c = join2 _ _ _ _ _ c.in_ok-write.ensures.bytes c.in_ok-write-2.ensures.bytes
