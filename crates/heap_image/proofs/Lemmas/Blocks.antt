-- The blocks of an image, one after the other.
use Rattle.std.proofs.Common.{◌≡◌, ◌+◌, ◌*◌, ◌/◌, ◌^◌, ◌<◌, ℕ, List, [], ◌∷◌, ◌++◌, length, get_or, take, drop, ◌∙◌, ap, sym, arith}
use Rattle.std.specs.Prelude.{map, Option}
use Rattle.std.specs.List.{concat, range_with_len}
use Rattle.std.proofs.lemmas.List.{same_lists, get_or_default, take_more, append-nil}
use Rattle.std.proofs.lemmas.List.Folds.{concat-append}
use Rattle.std.proofs.lemmas.List.FromFn.{length-map-range_with_len, get_or-map-range_with_len}
use Rattle.object_heap.specs.HeapImage.{AreBlocks, AreValidParts, region_count, block_of, versioned_image_of}
use Rattle.object_heap.specs.declared.version.Version.{Version}

-- the blocks of an image are those of its regions, by the laws of blocks that are joined
pub blocks_are : ((log : ℕ) (blocks : List (List ℕ)) → AreBlocks log blocks → length (concat blocks) / 2 ^ log ≡ length blocks)
    → ((log : ℕ) (blocks : List (List ℕ)) → AreBlocks log blocks → (r : ℕ) → r < length blocks → take (2 ^ log) (drop (r * 2 ^ log) (concat blocks)) ≡ get_or blocks r [])
    → (version : Version) (log allowance : ℕ) (blocks : List (List ℕ)) (live : List ℕ) (roots : Option (List ℕ)) → AreValidParts version log allowance blocks live roots
    → blocks ≡ map (block_of (versioned_image_of version log allowance blocks live roots)) (range_with_len 0 (region_count (versioned_image_of version log allowance blocks live roots)))
blocks_are counted placed version log allowance blocks live roots parts =
    let image = versioned_image_of version log allowance blocks live roots in
    let n = region_count image in
    let count : n ≡ length blocks = counted log blocks parts.whole in
    same_lists blocks (map (block_of image) (range_with_len 0 n)) (sym count ∙ sym (length-map-range_with_len (block_of image) 0 n)) (λ k d l.
    let inside : k < n = omega arith in
    get_or_default blocks k d [] l
    ∙ sym (placed log blocks parts.whole k l)
    ∙ sym (get_or-map-range_with_len (block_of image) 0 n k k d inside (omega arith)))

-- the words up to the end of the i-th block
pub concat_more : (blocks : List (List ℕ)) (i : ℕ) (block : List ℕ) → i < length blocks → get_or blocks i [] ≡ block
    → concat (take (i + 1) blocks) ≡ concat (take i blocks) ++ block
concat_more blocks i block l is =
    ap concat (take_more blocks i [] l)
    ∙ concat-append (take i blocks) (get_or blocks i [] ∷ [])
    ∙ ap (λ xs. concat (take i blocks) ++ xs) (append-nil (get_or blocks i []) ∙ is)
