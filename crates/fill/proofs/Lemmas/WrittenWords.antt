-- Regions that are written, from one moment to the next.
use Rattle.std.proofs.Common.{◌≡◌, ℕ, ◌+◌, List, length, refl, ◌∙◌, ap, subst, ◌<◌, sym}
use Rattle.object_heap.specs.HeapImage.{HeapImage, IsValid, region_words, region_count, start_of, block_of}
use Rattle.fill.specs.WordBlocks.{IsSplitAt}
use Rattle.fill.specs.CopiedWords.{written_to}
use Rattle.fill.specs.SlidWords.{held_word, slid_word}
use Rattle.fill.specs.WrittenWords.{Becomes, IsBlockOf, IsUnwritten, IsCopied}
use Rattle.fill.proofs.Lemmas.WrittenTo.{length_start, next_start}

pub unwritten_block : (heap : HeapImage) (d : ℕ) (words : List ℕ) → IsValid heap → d < region_count heap → IsUnwritten (block_of heap) d words → IsBlockOf heap words
unwritten_block heap d words valid inside u = ap length u ∙ length_start heap valid d inside

-- a call that wrote these words, so that more of the region is written
pub written_on : (f g : ℕ → ℕ) (start to : ℕ) (first before after xs : List ℕ) → length before ≡ length first → after ≡ xs → length after ≡ length before → IsSplitAt f g start xs to
    → (length after ≡ length first) × IsSplitAt f g start after to
written_on f g start to first before after xs same e long split = (long ∙ same, subst (λ (ys : List ℕ). IsSplitAt f g start ys to) (sym e) split)

-- a region once all words from its sources up to s are copied
pub copied_from : (heap : HeapImage) (held : ℕ → List ℕ) (d s start to : ℕ) (before after : List ℕ) → start ≡ start_of heap d → IsBlockOf heap before → length after ≡ length before
    → IsSplitAt (slid_word heap held) (held_word heap held) start after to → to ≡ written_to heap (start_of heap d) (start_of heap s + region_words heap)
    → Becomes (IsCopied heap held d (s + 1) to) before after
copied_from heap held d s start to before after at block same split place = record {
  same_length = same;
  now = record {
    block = same ∙ block;
    place = place ∙ ap (written_to heap (start_of heap d)) (next_start heap s (s + 1) refl);
    split = subst (λ (n : ℕ). IsSplitAt (slid_word heap held) (held_word heap held) n after to) at split;
  };
}
