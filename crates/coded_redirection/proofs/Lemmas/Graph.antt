-- The graph of the objects once their words have slid.
use Rattle.std.proofs.Common.{◌≡◌, ◌↔◌, ℕ, ◌+◌, ◌<◌, List, refl, sym, ◌∙◌, ap, subst, arith, add-zero}
use Rattle.std.proofs.lemmas.List.{get_or-map}
use Rattle.std.proofs.lemmas.List.FromFn.{get_or-map-range_with_len}
use Rattle.std.specs.Prelude.{Option, Some, slice_index}
use Rattle.object_heap.specs.HeapImage.{HeapImage, HasLiveList, heap_words, word_at, size_at, references_at, reference_at}
use Rattle.object_heap.specs.Layout.{reference_in}
use Rattle.summary.specs.LiveObjects.{object_count, object_at}
use Rattle.summary.specs.NewAddresses.{new_address, new_live}
use Rattle.summary.specs.WordMoves.{origin, slid}
use Rattle.summary.specs.Compaction.{compact, compacted_word}
use Rattle.summary.specs.PlanLaws.{PlanLaws}
use Rattle.summary.specs.SameGraph.{IsSameGraph}

-- A heap with the new live list in which each word that goes somewhere is that of the compaction.
module _ (law : PlanLaws) (image : HeapImage) (sound : HasLiveList image) (graph : IsSameGraph image (compact image)) (words : List ℕ) (roots : Option (List ℕ))
    (goes : (p q : ℕ) → origin image p ≡ Some q → slice_index words p ≡ compacted_word image p) where
  abbrev after : HeapImage
  after = record image { words = words; live = new_live image; roots = roots }

  abbrev place : ℕ → ℕ
  place i = object_at after i

  word-agrees : (i j p : ℕ) → i < object_count image → j < size_at image (object_at image i) → place i + j ≡ p → word_at after p ≡ word_at (compact image) p
  word-agrees i j p l m is =
      let a : ℕ = object_at image i in
      let new : place i ≡ new_address image a = get_or-map (new_address image) image.live i 0 0 l in
      let to : p ≡ slid image (a + j) = sym is ∙ ap (λ n. n + j) new ∙ law.new_address-slid image sound i j l m in
      let live = law.is_live image sound i (a + j) l (omega arith) (omega (arith, m)) in
      let from : origin image p ≡ Some (a + j) = ap (origin image) to ∙ law.origin-slid image sound (a + j) (law.live_below image sound (a + j) live) live in
      let below = law.origin-below image sound p (a + j) from in
      let top = law.top-le image sound in
      goes p (a + j) from ∙ sym (get_or-map-range_with_len (compacted_word image) 0 (heap_words image) p p 0 (omega (arith, below, top)) (omega arith))

  -- an object has fewer references than words
  fewer : (i f : ℕ) → i < object_count image → f < references_at image (object_at image i) → 1 + f < size_at image (object_at image i)
  fewer i f l n = let less = (sound.sound i 0 l).references in omega (arith, less, n)

  reference-agrees : (i f : ℕ) → i < object_count image → f < references_at image (object_at image i) → reference_at (compact image) (place i) f ≡ reference_at after (place i) f
  reference-agrees i f l n = sym (ap (reference_in image.layout) (word-agrees i (1 + f) (place i + 1 + f) l (fewer i f l n) (omega arith)))

  pub slid-IsSameGraph : IsSameGraph image after
  slid-IsSameGraph = record {
    objects = graph.objects;
    headers = λ i l. word-agrees i 0 (place i) l (sound.sound i 0 l).header (add-zero (place i)) ∙ graph.headers i l;
    null = λ i f l n. subst (λ r. (reference_at image (object_at image i) f ≡ 0) ↔ (r ≡ 0)) (reference-agrees i f l n) (graph.null i f l n);
    references = λ i f k l n m. subst (λ r. (reference_at image (object_at image i) f ≡ object_at image k + 1) ↔ (r ≡ place k + 1)) (reference-agrees i f l n) (graph.references i f k l n m);
    others = λ i j l m n. word-agrees i j (place i + j) l n refl ∙ graph.others i j l m n;
  }
