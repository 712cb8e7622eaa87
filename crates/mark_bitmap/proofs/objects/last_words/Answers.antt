use Rattle.std.proofs.Common.{ℕ, All, take, drop}
use Rattle.std.proofs.lemmas.List.Elements.{All-take, All-drop}
use Rattle.object_heap.specs.HeapImage.{HeapImage, HasSoundHeader}

-- some objects of a valid image are sound
sound : (image : HeapImage) (from n : ℕ) → All (HasSoundHeader image) image.live → All (HasSoundHeader image) (take n (drop from image.live))
sound image from n all = All-take (HasSoundHeader image) n (drop from image.live) (All-drop (HasSoundHeader image) from image.live all)
