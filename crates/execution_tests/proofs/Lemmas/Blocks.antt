-- The regions of an image, as a board keeps them.
use Rattle.std.proofs.Common.{◌≡◌, ℕ, ◌<◌, ◌≤◌, List, [], length, sym, ◌∙◌, subst, inl, inr, arith, ltb}
use Rattle.std.specs.Prelude.{Bool, map, slice_index_or, if◌then◌else◌}
use Rattle.std.specs.List.{range_with_len}
use Rattle.std.proofs.lemmas.Bool.{cases_lt, lt-ltb, le-ltb, true≢false}
use Rattle.std.proofs.lemmas.List.{ext_get_or}
use Rattle.std.proofs.lemmas.List.FromFn.{length-map-range_with_len, get_or-map-range_with_len}
use Rattle.scheduler.specs.MoveTable.{to_fill}
use Rattle.claim_board.specs.declared.regions.region_board.RegionBoard.{RegionBoard}
use Rattle.claim_board.specs.RegionBoards.{moves, original_words, moved_words}
use Rattle.fill.specs.KeptImages.{KeepsImage}
use Rattle.object_heap.specs.HeapImage.{HeapImage, region_count, start_of, block_of}
use Rattle.summary.specs.NewAddresses.{new_top}
use Rattle.summary.specs.WordMoves.{is_to_fill}
use Rattle.summary.specs.Compaction.{moved}
use Rattle.summary.specs.RegionData.{fill_count}
use Rattle.region_cells.specs.Blocks.{moved_block}

-- a region's words in a list of all regions
pub block_at : (f : ℕ → List ℕ) (n r : ℕ) → r < n → slice_index_or (map f (range_with_len 0 n)) r [] ≡ f r
block_at f n r inside = get_or-map-range_with_len f 0 n r r [] inside (omega arith)

-- A region that is not to be filled keeps its words. The premises are laws.
pub block_left : (image : HeapImage) (r : ℕ)
    → is_to_fill image r ≡ ltb r (fill_count image)
    → block_of (moved image) r ≡ moved_block image r
    → (new_top image ≤ start_of image r → block_of (moved image) r ≡ block_of image r)
    → fill_count image ≤ r → block_of image r ≡ moved_block image r
block_left image r count moved kept after =
    elim (cases_lt (start_of image r) (new_top image)) [
      | inl below ↦ absurd (true≢false (sym (lt-ltb (start_of image r) (new_top image) below) ∙ count ∙ le-ltb r (fill_count image) after))
      | inr above ↦ sym (kept above) ∙ moved
    ]

-- lists that have the same blocks as the moved heap
pub all_moved : (image : HeapImage) (blocks : List (List ℕ)) → length blocks ≡ region_count image
    → ((r : ℕ) → r < region_count image → slice_index_or blocks r [] ≡ moved_block image r)
    → blocks ≡ map (moved_block image) (range_with_len 0 (region_count image))
all_moved image blocks count same =
    let n : ℕ = region_count image in
    let all : List (List ℕ) = map (moved_block image) (range_with_len 0 n) in
    ext_get_or [] blocks all (count ∙ sym (length-map-range_with_len (moved_block image) 0 n)) (λ r inside.
    let here : r < n = omega (arith, inside, count) in
    same r here ∙ sym (block_at (moved_block image) n r here))

-- a region that comes back from a board has its moved words
pub filled_at : (image : HeapImage) (b : RegionBoard) (words : List ℕ) (r : ℕ) → KeepsImage image b → to_fill (moves b) r ≡ ltb r (fill_count image) → r < region_count image
    → (fill_count image ≤ r → block_of image r ≡ moved_block image r)
    → words ≡ (if to_fill (moves b) r then moved_words b r else original_words b r) → words ≡ moved_block image r
filled_at image b words r keeps fills inside left is =
    elim (cases_lt r (fill_count image)) [
      | inl below ↦ subst (λ (t : Bool). words ≡ (if t then moved_words b r else original_words b r)) (fills ∙ lt-ltb r (fill_count image) below) is ∙ keeps.moved r below
      | inr after ↦ subst (λ (t : Bool). words ≡ (if t then moved_words b r else original_words b r)) (fills ∙ le-ltb r (fill_count image) after) is
          ∙ (keeps.original r inside ∙ left after)
    ]
