-- Words of a heap compared one by one with those of the compaction of another.
use Rattle.std.proofs.Common.{◌≡◌, ℕ, zero, suc, ◌+◌, ◌-◌, ◌≤◌, ◌<◌, ◌≢◌, List, ◌∷◌, refl, sym, ◌∙◌, ap, subst, arith}
use Rattle.std.specs.Prelude.{slice_range, replicate, Contains, Option}
use Rattle.std.proofs.lemmas.List.Elements.{All-contains}
use Rattle.object_heap.specs.Header.{filler_header}
use Rattle.object_heap.specs.HeapImage.{HeapImage, IsValid, HasSoundHeader, heap_words, word_at, size_at, references_at}
use Rattle.summary.specs.LiveObjects.{object_count}
use Rattle.summary.specs.NewAddresses.{new_top}
use Rattle.summary.specs.Compaction.{compacted_word, compact}
use Rattle.verification.specs.Compared.{IsPlaced, AreKnown, behind}
use Rattle.verification.specs.Tally.{IsTally}
use Rattle.verification.specs.declared.difference_tally.OtherWord.{OtherWord}
use Rattle.verification.proofs.Lemmas.Gaps.{behind-zero, behind-suc}
use Rattle.verification.proofs.Lemmas.Placing.{place_end, filler_zeros, data_words, compact_word}

pub tally_to : {wanted found : ℕ → ℕ} {count : ℕ} {first : List OtherWord} {last : Option ℕ} (p q : ℕ) → p ≡ q → IsTally wanted found p count first last → IsTally wanted found q count first last
tally_to {wanted} {found} {count} {first} {last} p q e tally = subst (λ n. IsTally wanted found n count first last) e tally

-- a word of a filler after its header
pub gap_zero : (image : HeapImage) (from to p : ℕ) → from < to → slice_range (compact image).words from to ≡ filler_header (to - from) ∷ replicate (to - from - 1) 0
    → from ≤ p → p < to → p ≢ from → word_at (compact image) p ≡ 0
gap_zero image from to p some run low high ne =
    let j : ℕ = p - (from + 1) in
    let l : j < to - from - 1 = omega (arith, low, high, ne) in
    let at : from + 1 + j ≡ p = omega (arith, low, ne) in
    ap (word_at (compact image)) (sym at) ∙ (filler_zeros image from to some run).word j l

-- a word after the references of an object
pub data_word : (image : HeapImage) (a place references words j : ℕ) → IsPlaced image a place → references ≡ references_at image a → words ≡ size_at image a
    → 1 + references ≤ j → j < words → word_at (compact image) (place + j) ≡ word_at image (a + j)
data_word image a place references words j placed r s low high =
    let k : ℕ = j - (1 + references) in
    let at : place + (1 + references) + k ≡ place + j = omega (arith, low) in
    let from : a + (1 + references) + k ≡ a + j = omega (arith, low) in
    ap (word_at (compact image)) (sym at)
    ∙ (data_words image a place placed (1 + references) (size_at image a - (1 + references)) (ap (λ n. 1 + n) r) refl).word k (within (size_at image a) s)
    ∙ ap (word_at image) from
  where
    within : (size : ℕ) → words ≡ size → j - (1 + references) < size - (1 + references)
    within size e = omega (arith, e, low, high)

pub zero_above : (image : HeapImage) (p : ℕ) → new_top image ≤ p → p < heap_words image → ((q : ℕ) → new_top image ≤ q → compacted_word image q ≡ 0) → word_at (compact image) p ≡ 0
zero_above image p high inside zeros = compact_word image p inside ∙ zeros p high

-- the end of the last object is the new top
pub top_exact : (image : HeapImage) → AreKnown image → behind (place_end image) (object_count image) ≤ new_top image
top_exact image known = exact (object_count image) refl
  where
    exact : (m : ℕ) → m ≡ object_count image → behind (place_end image) m ≤ new_top image
    exact zero e = subst (λ n. n ≤ new_top image) (sym (behind-zero (place_end image))) (omega arith)
    exact (suc m) e =
        let l : m < object_count image = omega (arith, e) in
        subst (λ n. n ≤ new_top image) (sym (behind-suc (place_end image) m)) (known.below m l)

-- a field of a live object lies in the heap
pub field_inside : (image : HeapImage) → IsValid image → (a f : ℕ) → Contains image.live a → f < references_at image a → a + 1 + f < heap_words image
field_inside image valid a f live few =
    let sound : HasSoundHeader image a = All-contains (HasSoundHeader image) image.live a valid.live_list.sound live in
    within (references_at image a) (size_at image a) (heap_words image) few sound.references sound.inside
  where
    within : (r s n : ℕ) → f < r → r < s → a + s ≤ n → a + 1 + f < n
    within r s n h k l = omega (arith, h, k, l)

-- a live object lies in the heap
pub object_inside : (image : HeapImage) → IsValid image → (a : ℕ) → Contains image.live a → a < heap_words image
object_inside image valid a live =
    let sound : HasSoundHeader image a = All-contains (HasSoundHeader image) image.live a valid.live_list.sound live in
    within (size_at image a) (heap_words image) sound.header sound.inside
  where
    within : (s n : ℕ) → 0 < s → a + s ≤ n → a < n
    within s n h l = omega (arith, h, l)
