-- The regions of an image, from their words one by one.
use Rattle.std.proofs.Common.{◌≡◌, ℕ, ◌<◌, ◌≤◌, Bool, List, [], length, sym, ap, ◌∙◌, inl, inr, ltb, arith}
use Rattle.std.specs.Prelude.{map, slice_index_or, if◌then◌else◌}
use Rattle.std.specs.List.{range_with_len}
use Rattle.std.proofs.lemmas.Bool.{cases_lt, lt-ltb, le-ltb, true≢false}
use Rattle.std.proofs.lemmas.List.{same_lists, get_or_default}
use Rattle.std.proofs.lemmas.List.FromFn.{length-map-range_with_len, get_or-map-range_with_len}
use Rattle.object_heap.specs.HeapImage.{HeapImage, region_count, start_of, block_of}
use Rattle.summary.specs.NewAddresses.{new_top}
use Rattle.summary.specs.WordMoves.{is_to_fill}
use Rattle.summary.specs.Compaction.{moved}
use Rattle.summary.specs.RegionData.{fill_count}
use Rattle.scheduler.specs.MoveTable.{MoveTable, to_fill}
use Rattle.region_cells.specs.Blocks.{moved_block}

-- a list that has the words of f at each number
pub blocks_by : (f : ℕ → List ℕ) (n : ℕ) (xs : List (List ℕ)) → length xs ≡ n → ((r : ℕ) → r < n → slice_index_or xs r [] ≡ f r) → xs ≡ map f (range_with_len 0 n)
blocks_by f n xs long each =
    same_lists xs (map f (range_with_len 0 n)) (long ∙ sym (length-map-range_with_len f 0 n)) (λ k d inside.
    let below : k < n = omega (arith, inside, long) in
    get_or_default xs k d [] inside ∙ (each k below ∙ sym (get_or-map-range_with_len f 0 n k k d below (omega arith))))

-- A region that is not to be filled keeps its words. The premises are laws.
pub block_stays : (image : HeapImage) (r : ℕ) → is_to_fill image r ≡ ltb r (fill_count image) → block_of (moved image) r ≡ moved_block image r
    → (new_top image ≤ start_of image r → block_of (moved image) r ≡ block_of image r) → fill_count image ≤ r → block_of image r ≡ moved_block image r
block_stays image r count moved kept after =
    elim (cases_lt (start_of image r) (new_top image)) [
      | inl below ↦ absurd (true≢false (sym (lt-ltb (start_of image r) (new_top image) below) ∙ count ∙ le-ltb r (fill_count image) after))
      | inr above ↦ sym (kept above) ∙ moved
    ]

-- the regions are as they are to be, if each that was to be filled is, and the others were already
pub all_become : (image : HeapImage) (m : MoveTable) (old new end : ℕ → List ℕ) (xs : List (List ℕ)) → length xs ≡ region_count image
    → ((r : ℕ) → r < region_count image → slice_index_or xs r [] ≡ (if to_fill m r then new r else old r))
    → ((r : ℕ) → to_fill m r ≡ ltb r (fill_count image))
    → ((r : ℕ) → r < region_count image → r < fill_count image → new r ≡ end r)
    → ((r : ℕ) → r < region_count image → fill_count image ≤ r → old r ≡ end r)
    → xs ≡ map end (range_with_len 0 (region_count image))
all_become image m old new end xs long words fills become stay = blocks_by end (region_count image) xs long each
  where
    each : (r : ℕ) → r < region_count image → slice_index_or xs r [] ≡ end r
    each r inside =
        elim (cases_lt r (fill_count image)) [
          | inl below ↦ words r inside ∙ (ap (λ (b : Bool). if b then new r else old r) (fills r ∙ lt-ltb r (fill_count image) below) ∙ become r inside below)
          | inr after ↦ words r inside ∙ (ap (λ (b : Bool). if b then new r else old r) (fills r ∙ le-ltb r (fill_count image) after) ∙ stay r inside after)
        ]
