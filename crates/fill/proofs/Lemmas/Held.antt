-- The words that the regions of a board hold, at the start and once all live words have slid.
use Rattle.std.proofs.Common.{◌≡◌, ℕ, ◌+◌, ◌*◌, ◌/◌, ◌%◌, ◌≤◌, ◌<◌, inl, inr, Bool, true, false, List, length, get_or, refl, sym, ◌∙◌, ap, subst, arith}
use Rattle.std.proofs.lemmas.Bool.{cases_lt}
use Rattle.std.proofs.lemmas.Nat.{div-add-mod', mod_below, div_below}
use Rattle.std.specs.Prelude.{Some, None, Option}
use Rattle.object_heap.specs.HeapImage.{HeapImage, IsValid, heap_words, region_words, region_count, start_of, word_at, is_live_word, block_of}
use Rattle.summary.specs.NewAddresses.{prefix_end, new_top}
use Rattle.summary.specs.WordMoves.{origin}
use Rattle.summary.specs.PlanLaws.{PlanLaws}
use Rattle.scheduler.specs.ImageMoves.{image_table}
use Rattle.claim_board.specs.declared.regions.region_board.RegionBoard.{RegionBoard}
use Rattle.claim_board.specs.RegionBoards.{moves as moves_of, original_words}
use Rattle.fill.specs.WordBlocks.{Shows}
use Rattle.fill.specs.CopiedWords.{copied_word}
use Rattle.fill.specs.SlidWords.{AreWhole, held_word, slid_word, slid_block}
use Rattle.fill.specs.KeptImages.{KeepsImage, KeepsOpaque, Keeps}
use Rattle.fill.proofs.Lemmas.Regions.{region_is, region_some}
use Rattle.fill.proofs.Lemmas.Slides.{slid_word-above, slid_word-below, word_by-above, word_by-below, carried-none}
use Rattle.fill.proofs.Lemmas.WrittenTo.{all_regions, shows_start, length_start, shows_block}

module _ (image : HeapImage) (held : ℕ → List ℕ) where
  -- the words of region d
  held-at : (d k : ℕ) → k < region_words image → held_word image held (start_of image d + k) ≡ get_or (held d) k 0
  held-at d k l =
      let R : ℕ = region_words image in
      let p : ℕ = d * R + k in
      let at : p / R ≡ d = region_is R d p (omega arith) (omega arith) in
      let same : p / R * R ≡ d * R = ap (λ n. n * R) at in
      let whole = div-add-mod' p R in
      let place : p % R ≡ k = omega arith in
      ap (λ r. get_or (held r) (p % R) 0) at ∙ ap (λ n. get_or (held d) n 0) place

  pub shows_held : (d : ℕ) → length (held d) ≡ region_words image → Shows (held_word image held) (start_of image d) (held d)
  shows_held d long = λ k l. sym (held-at d k (omega arith))

module _ (law : PlanLaws) (image : HeapImage) (valid : IsValid image) (held : ℕ → List ℕ) where
  -- words of the prefix stay
  slid-kept : (p : ℕ) → p < prefix_end image → slid_word image held p ≡ held_word image held p
  slid-kept p low = each (is_live_word image p) refl
    where
      top : p < new_top image
      top = let up = law.top-above image valid.live_list in omega arith

      each : (live : Bool) → is_live_word image p ≡ live → slid_word image held p ≡ held_word image held p
      each true e = slid_word-below image held p (Some p) top (law.origin-live image valid.live_list p low e)
      each false e = slid_word-below image held p None top (law.origin-dead image valid.live_list p low e)

  pub block-kept : (d : ℕ) → start_of image d < prefix_end image → length (held d) ≡ region_words image → held d ≡ slid_block image held d
  block-kept d low long =
      let end = law.prefix_region image d low in
      shows_block image valid (slid_word image held) d (held d) long (λ k l. shows_held image held d long k l ∙ sym (slid-kept (start_of image d + k) (omega arith)))

-- regions that hold the words of the image
module _ (image : HeapImage) (valid : IsValid image) (held : ℕ → List ℕ) (same : (r : ℕ) → r < region_count image → held r ≡ block_of image r) where
  whole-image : AreWhole image held
  whole-image = λ r l. ap length (same r l) ∙ length_start image valid r l

  held-image : (q : ℕ) → q < heap_words image → held_word image held q ≡ word_at image q
  held-image q l =
      let R : ℕ = region_words image in
      let some = region_some image in
      let all = all_regions image valid in
      let inside : q / R < region_count image = div_below q R (region_count image) some (omega arith) in
      let low = mod_below q R some in
      let whole = div-add-mod' q R in
      let at : start_of image (q / R) + q % R ≡ q = omega arith in
      let long = length_start image valid (q / R) inside in
      ap (λ xs. get_or xs (q % R) 0) (same (q / R) inside) ∙ shows_start image valid (q / R) inside (q % R) (omega arith) ∙ ap (word_at image) at

  -- after the prefix, live words are copied as they slide
  slid-copied : PlanLaws → (p : ℕ) → prefix_end image ≤ p → p < heap_words image → slid_word image held p ≡ copied_word image p
  slid-copied law p low high = elim (cases_lt p (new_top image)) [
    | inr top ↦ slid_word-above image held p top ∙ held-image p high ∙ sym (word_by-above law image (λ _. false) p top)
    | inl below ↦ each (origin image p) refl below
  ]
    where
      each : (o : Option ℕ) → origin image p ≡ o → p < new_top image → slid_word image held p ≡ copied_word image p
      each None e below = let in_prefix = law.nowhere-in_prefix image valid.live_list p below e in let no : ⊥ = omega arith in absurd no
      each (Some q) e below =
          let live = (law.origin-Some image valid.live_list p q e).0 in
          slid_word-below image held p (Some q) below e
          ∙ held-image q (law.live_below image valid.live_list q live)
          ∙ sym (word_by-below law image (λ _. false) p (Some q) below e ∙ carried-none law image q)

  pub shows_copied : PlanLaws → (start : ℕ) (words : List ℕ) → prefix_end image ≤ start → start + length words ≤ heap_words image → Shows (slid_word image held) start words → Shows (copied_word image) start words
  shows_copied law start words low high shows = λ k l. shows k l ∙ slid-copied law (start + k) (omega arith) (omega arith)

-- ---- a board that keeps either kind

pub keeps_moves : (redirects : Bool) (image : HeapImage) (b : RegionBoard) → Keeps redirects image b → moves_of b ≡ image_table image
keeps_moves true image b h = h.moves
keeps_moves false image b h = h.moves

pub keeps_whole : (redirects : Bool) (image : HeapImage) (b : RegionBoard) → IsValid image → Keeps redirects image b → AreWhole image (original_words b)
keeps_whole true image b valid h = whole-image image valid (original_words b) h.original
keeps_whole false image b valid h = h.whole

pub keeps_image : (redirects : Bool) (image : HeapImage) (b : RegionBoard) → redirects ≡ true → Keeps redirects image b → KeepsImage image b
keeps_image redirects image b e h = subst (λ (r : Bool). Keeps r image b) e h

pub keeps_opaque : (redirects : Bool) (image : HeapImage) (b : RegionBoard) → redirects ≡ false → Keeps redirects image b → KeepsOpaque image b
keeps_opaque redirects image b e h = subst (λ (r : Bool). Keeps r image b) e h
