-- The words of a body.
use Rattle.std.proofs.Common.{◌≡◌, ℕ, ◌*◌, ◌^◌, List, length, ap, ◌∙◌}
use Rattle.std.specs.List.{concat}
use Rattle.object_heap.specs.HeapImage.{AreBlocks}
use Rattle.heap_image.proofs.Lemmas.BlockWords.{length-concat}

-- the number of words of these blocks
pub length-blocks : (log many : ℕ) (regions : List (List ℕ)) → AreBlocks log regions → length regions ≡ many → length (concat regions) ≡ many * 2 ^ log
length-blocks log many regions blocks count = length-concat (2 ^ log) regions blocks ∙ ap (λ n. n * 2 ^ log) count
