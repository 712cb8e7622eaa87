-- What the first difference between an image and the compaction of another says.
use Rattle.std.proofs.Common.{◌≡◌, ℕ, ◌<◌, List, [], length, get_or, refl, ap, sym, ◌∙◌, subst, arith}
use Rattle.std.specs.Prelude.{Option, None, Some, map, option_map}
use Rattle.std.specs.Option.{is_some}
use Rattle.std.proofs.lemmas.Bool.{true≢false}
use Rattle.std.proofs.lemmas.List.{get_or-map, length-map, ext_get_or}
use Rattle.object_heap.specs.HeapImage.{HeapImage, heap_words, word_at, roots_or, roots_of}
use Rattle.summary.specs.LiveObjects.{object_count, object_at}
use Rattle.summary.specs.NewAddresses.{new_address, new_live}
use Rattle.summary.specs.Compaction.{redirected, compact}
use Rattle.verification.specs.Difference.{AreAlike, IsLeastDifference}
use Rattle.verification.specs.Compared.{AreCompacted, IsFirstOther}
use Rattle.verification.specs.Verdict.{HaveSameShape, IsVerdict, IsVerdictBelow, IsVerdictOnLists, root_count, root_at}
use Rattle.verification.specs.declared.verdict.Verdict.{Verdict}
use Rattle.verification.specs.declared.verdict.Verdict.TheVariants.{Same, Shape, Word, Live, Root}

same_image : (x y : HeapImage) → x.layout ≡ y.layout → x.version ≡ y.version → x.region_log ≡ y.region_log → x.allowance ≡ y.allowance → x.words ≡ y.words → x.live ≡ y.live → x.roots ≡ y.roots → x ≡ y
same_image x y l v a b c d e = λ i. record { version = v i; layout = l i; region_log = a i; allowance = b i; words = c i; live = d i; roots = e i }

-- the same numbers, where both images have roots or neither
same_roots : (o p : Option (List ℕ)) → is_some o ≡ is_some p → roots_or [] o ≡ roots_or [] p → o ≡ p
same_roots None None v e = refl
same_roots None (Some ys) v e = absurd (true≢false (sym v))
same_roots (Some xs) None v e = absurd (true≢false v)
same_roots (Some xs) (Some ys) v e = ap Some e

same_some : (f : List ℕ → List ℕ) (o : Option (List ℕ)) → is_some (option_map f o) ≡ is_some o
same_some f None = refl
same_some f (Some xs) = refl

new_roots : (f : ℕ → ℕ) (o : Option (List ℕ)) → roots_or [] (option_map (map f) o) ≡ map f (roots_or [] o)
new_roots f None = refl
new_roots f (Some xs) = refl

module _ (before after : HeapImage) (long : heap_words (compact before) ≡ heap_words before) where
  live_count : object_count (compact before) ≡ object_count before
  live_count = length-map before.live (new_address before)

  roots_are : roots_of (compact before) ≡ map (redirected before) (roots_of before)
  roots_are = new_roots (redirected before) before.roots

  root_count_same : root_count (compact before) ≡ root_count before
  root_count_same = ap length roots_are ∙ length-map (roots_of before) (redirected before)

  new_root_at : (k : ℕ) → k < root_count before → root_at (compact before) k ≡ redirected before (root_at before k)
  new_root_at k l = ap (λ (xs : List ℕ). get_or xs k 0) roots_are ∙ get_or-map (redirected before) (roots_of before) k 0 0 l

  abbrev pub new_root : ℕ → ℕ
  new_root i = redirected before (root_at before i)

  pub shape : HaveSameShape before after → HaveSameShape (compact before) after
  shape h = record { layout = h.layout; region_log = h.region_log; words = h.words ∙ sym long; allowance = h.allowance; live = h.live ∙ sym live_count; version = h.version; rooted = h.rooted ∙ sym (same_some (map (redirected before)) before.roots); roots = h.roots ∙ sym root_count_same }

  pub shape_back : HaveSameShape (compact before) after → HaveSameShape before after
  shape_back h = record { layout = h.layout; region_log = h.region_log; words = h.words ∙ long; allowance = h.allowance; live = h.live ∙ live_count; version = h.version; rooted = h.rooted ∙ same_some (map (redirected before)) before.roots; roots = h.roots ∙ root_count_same }

  pub words_same : HaveSameShape before after → AreCompacted before after 0 (heap_words before) → after.words ≡ (compact before).words
  words_same h alike = ext_get_or 0 after.words (compact before).words (h.words ∙ sym long) (λ k l. alike.alike k (omega arith) (subst (λ n. k < n) h.words l))

  pub word_other : (a : ℕ) → IsFirstOther before after 0 (heap_words before) a → IsLeastDifference (word_at (compact before)) (word_at after) (heap_words (compact before)) a
  word_other a other = record { inside = subst (λ n. a < n) (sym long) other.inside; differs = other.differs; least = λ k l. other.least k (omega arith) l }

  place_at : (k : ℕ) → k < object_count before → object_at (compact before) k ≡ new_address before (object_at before k)
  place_at k l = get_or-map (new_address before) before.live k 0 0 l

  abbrev pub places : ℕ → ℕ
  places i = new_address before (object_at before i)

  pub live_same : HaveSameShape before after → AreAlike places (object_at after) (object_count before) → after.live ≡ new_live before
  live_same h alike = ext_get_or 0 after.live (new_live before) (h.live ∙ sym live_count) (λ k l.
      let m : k < object_count before = subst (λ n. k < n) h.live l in
      alike k m ∙ sym (place_at k m))

  pub live_other : (i : ℕ) → IsLeastDifference places (object_at after) (object_count before) i → IsLeastDifference (object_at (compact before)) (object_at after) (object_count (compact before)) i
  live_other i other = record {
    inside = subst (λ n. i < n) (sym live_count) other.inside;
    differs = λ same. other.differs (same ∙ place_at i other.inside);
    least = λ k l. other.least k l ∙ sym (place_at k (below k i (object_count before) l other.inside));
  }
    where
      below : (k i n : ℕ) → k < i → i < n → k < n
      below k i n h m = omega (arith, h, m)

  pub roots_same : HaveSameShape before after → AreAlike new_root (root_at after) (root_count before) → after.roots ≡ (compact before).roots
  roots_same h alike = same_roots after.roots (compact before).roots (h.rooted ∙ sym (same_some (map (redirected before)) before.roots))
      (ext_get_or 0 (roots_of after) (roots_of (compact before)) (h.roots ∙ sym root_count_same) (λ k l.
      let m : k < root_count before = subst (λ n. k < n) h.roots l in
      alike k m ∙ sym (new_root_at k m)))

  pub root_other : (i : ℕ) → IsLeastDifference new_root (root_at after) (root_count before) i → IsLeastDifference (root_at (compact before)) (root_at after) (root_count (compact before)) i
  root_other i other = record {
    inside = subst (λ n. i < n) (sym root_count_same) other.inside;
    differs = λ same. other.differs (same ∙ new_root_at i other.inside);
    least = λ k l. other.least k l ∙ sym (new_root_at k (below k i (root_count before) l other.inside));
  }
    where
      below : (k i n : ℕ) → k < i → i < n → k < n
      below k i n h m = omega (arith, h, m)

  -- the verdict on live lists and roots, once all words agree
  pub after_words : HaveSameShape before after → AreCompacted before after 0 (heap_words before)
      → (verdict : Verdict) → IsVerdictOnLists (compact before) after verdict → IsVerdict (compact before) after verdict
  after_words h words Same lists = same_image after (compact before) h.layout h.version h.region_log h.allowance (words_same h words) lists.0 lists.1
  after_words h words Shape w = absurd w
  after_words h words (Word a) w = absurd w
  after_words h words (Live i) other = (shape h, words_same h words, other)
  after_words h words (Root i) lists = (shape h, words_same h words, lists.0, lists.1)

  -- the same below a limit
  alike_below : (limit : ℕ) → AreCompacted before after 0 limit → AreAlike (word_at (compact before)) (word_at after) limit
  alike_below limit words = λ k l. words.alike k (omega arith) l

  pub least_below : (limit a : ℕ) → IsFirstOther before after 0 limit a → IsLeastDifference (word_at (compact before)) (word_at after) limit a
  least_below limit a other = record { inside = other.inside; differs = other.differs; least = λ k l. other.least k (omega arith) l }

  pub after_words_below : (limit : ℕ) → HaveSameShape before after → AreCompacted before after 0 limit
      → (verdict : Verdict) → IsVerdictOnLists (compact before) after verdict → IsVerdictBelow limit (compact before) after verdict
  after_words_below limit h words Same lists = (shape h, alike_below limit words, lists.0, lists.1)
  after_words_below limit h words Shape w = absurd w
  after_words_below limit h words (Word a) w = absurd w
  after_words_below limit h words (Live i) other = (shape h, alike_below limit words, other)
  after_words_below limit h words (Root i) lists = (shape h, alike_below limit words, lists.0, lists.1)
