-- The blocks of a heap once its regions are together again.
use Rattle.std.proofs.Common.{◌≡◌, ℕ, ◌+◌, ◌-◌, ◌<◌, ◌≤◌, [], ◌∷◌, ◌++◌, List, true, false, inl, inr, sym, ap, refl, ◌∙◌, ltb, length, drop, arith}
use Rattle.std.specs.Prelude.{map}
use Rattle.std.specs.List.{range_with_len}
use Rattle.std.proofs.lemmas.Bool.{cases_lt, lt-ltb, le-ltb, true≢false}
use Rattle.std.proofs.lemmas.List.{same_lists, take-append-drop, get_or-drop, length-drop}
use Rattle.std.proofs.lemmas.List.FromFn.{take-map-range_with_len, length-map-range_with_len, get_or-map-range_with_len}
use Rattle.object_heap.specs.HeapImage.{HeapImage, region_count, start_of, block_of}
use Rattle.summary.specs.NewAddresses.{new_top}
use Rattle.summary.specs.WordMoves.{is_to_fill}
use Rattle.summary.specs.Compaction.{moved}
use Rattle.summary.specs.RegionData.{fill_count}
use Rattle.region_cells.specs.Blocks.{blocks_of, moved_block, final_block}
use Rattle.region_cells.specs.Cells.{place_of, places, other_blocks}
use Rattle.region_cells.specs.Views.{ImageRegion}

-- a list of numbers, through places
through : {A : Type 0} (f : ImageRegion → A) (g : ℕ → ImageRegion) (rs : List ℕ) → map f (map g rs) ≡ map (λ r. f (g r)) rs
through f g [] = refl
through f g (r ∷ rs) = ap (λ xs. f (g r) ∷ xs) (through f g rs)

module _ (image : HeapImage) (few : fill_count image ≤ region_count image) where
  -- the first regions of all, by their numbers
  firsts : (f : ℕ → List ℕ) → map f (range_with_len 0 (fill_count image)) ++ drop (fill_count image) (map f (range_with_len 0 (region_count image)))
      ≡ map f (range_with_len 0 (region_count image))
  firsts f =
      let n : ℕ = fill_count image in
      let all : List (List ℕ) = map f (range_with_len 0 (region_count image)) in
      ap (λ xs. xs ++ drop n all) (sym (take-map-range_with_len f 0 (region_count image) n few)) ∙ take-append-drop n all

  -- the regions as they were
  pub originals_again : (slots : List ImageRegion) (others regions : List (List ℕ)) → slots ≡ places image → others ≡ other_blocks image
      → regions ≡ map (final_block false) slots ++ others → regions ≡ blocks_of image
  originals_again slots others regions slots_are others_are together =
      together
      ∙ ap (λ xs. map (final_block false) xs ++ others) slots_are
      ∙ ap (λ ys. map (final_block false) (places image) ++ ys) others_are
      ∙ ap (λ xs. xs ++ other_blocks image) (through (final_block false) (place_of image) (range_with_len 0 (fill_count image)))
      ∙ firsts (block_of image)

  -- the last regions, of which each is the same in both lists
  lasts : (f g : ℕ → List ℕ) → ((r : ℕ) → fill_count image ≤ r → r < region_count image → f r ≡ g r)
      → drop (fill_count image) (map f (range_with_len 0 (region_count image))) ≡ drop (fill_count image) (map g (range_with_len 0 (region_count image)))
  lasts f g same =
      let n : ℕ = fill_count image in
      let c : ℕ = region_count image in
      let old : List (List ℕ) = map f (range_with_len 0 c) in
      let new : List (List ℕ) = map g (range_with_len 0 c) in
      let long : length (drop n old) ≡ c - n = omega (arith, length-drop n old, length-map-range_with_len f 0 c) in
      let as_long : length (drop n new) ≡ c - n = omega (arith, length-drop n new, length-map-range_with_len g 0 c) in
      same_lists (drop n old) (drop n new) (omega (arith, long, as_long)) (λ k d below.
      let inside : n + k < c = omega (arith, below, long, few) in
      get_or-drop n old k d
      ∙ get_or-map-range_with_len f 0 c (n + k) (n + k) d inside (omega arith)
      ∙ same (n + k) (omega arith) inside
      ∙ sym (get_or-map-range_with_len g 0 c (n + k) (n + k) d inside (omega arith))
      ∙ sym (get_or-drop n new k d))

  -- the regions of the moved heap, if those that are not to be filled have their moved words
  pub moved_again : (slots : List ImageRegion) (others regions : List (List ℕ)) → slots ≡ places image → others ≡ other_blocks image
      → regions ≡ map (final_block true) slots ++ others
      → ((r : ℕ) → fill_count image ≤ r → r < region_count image → block_of image r ≡ moved_block image r)
      → regions ≡ map (moved_block image) (range_with_len 0 (region_count image))
  moved_again slots others regions slots_are others_are together same =
      together
      ∙ ap (λ xs. map (final_block true) xs ++ others) slots_are
      ∙ ap (λ ys. map (final_block true) (places image) ++ ys) others_are
      ∙ ap (λ xs. xs ++ other_blocks image) (through (final_block true) (place_of image) (range_with_len 0 (fill_count image)))
      ∙ ap (λ xs. map (moved_block image) (range_with_len 0 (fill_count image)) ++ xs) (lasts (block_of image) (moved_block image) same)
      ∙ firsts (moved_block image)

-- A region that is not to be filled keeps its words. The premises are laws.
pub block_left : (image : HeapImage) (r : ℕ)
    → is_to_fill image r ≡ ltb r (fill_count image)
    → block_of (moved image) r ≡ moved_block image r
    → (new_top image ≤ start_of image r → block_of (moved image) r ≡ block_of image r)
    → fill_count image ≤ r → block_of image r ≡ moved_block image r
block_left image r count moved kept after =
    elim (cases_lt (start_of image r) (new_top image)) [
      | inl below ↦ absurd (true≢false (sym (lt-ltb (start_of image r) (new_top image) below) ∙ count ∙ le-ltb r (fill_count image) after))
      | inr above ↦ sym (kept above) ∙ moved
    ]
