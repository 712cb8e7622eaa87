-- A region as its objects are redirected, one after another.
use Rattle.std.proofs.Common.{◌≡◌, ℕ, ◌+◌, ◌-◌, ◌≤◌, ◌<◌, inl, inr, true, false, List, length, get_or, sym, ◌∙◌, ap, subst, arith, max, eqb}
use Rattle.summary.specs.PlanLaws.{PlanLaws}
use Rattle.std.proofs.lemmas.Bool.{cases_lt, true≢false, eqb-true, eq-eqb}
use Rattle.std.proofs.lemmas.List.{get_or_default, get_or-map, length-map}
use Rattle.std.proofs.lemmas.List.Folds.{list_any_at, Any-from_list_any}
use Rattle.std.specs.Prelude.{MatchOption, Option, Some, None, map}
use Rattle.object_heap.specs.Bits.{NoneBetween, IsFirstBetween}
use Rattle.mark_bitmap.specs.Marks.{is_begin}
use Rattle.raw_region.specs.Region.{with_words, part}
use Rattle.object_heap.specs.Header.{size_of}
use Rattle.summary.specs.Own.{IsOwn}
use Rattle.object_heap.specs.HeapImage.{HeapImage, HasLiveList, start_of, word_at, size_at, references_at, reference_at, is_null_or_live}
use Rattle.summary.specs.NewAddresses.{new_address, new_top}
use Rattle.summary.specs.WordMoves.{slid}
use Rattle.summary.specs.Compaction.{moved_word, redirected_word, is_deferred}
use Rattle.fill.specs.WordBlocks.{IsSplitAt, Shows}
use Rattle.fill.specs.CopiedWords.{copied_word}
use Rattle.fill.specs.Objects.{IsObject, IsNextObject, HasNoObject, IsPassed, IsMovedTo}
use Rattle.fill.proofs.Lemmas.Writing.{split_none, split_skip, split_more, split_all, length-part, get_or-part}
use Rattle.fill.proofs.Lemmas.Redirects.{slid-ordered, moved-object, moved-header, moved-rest, moved-reference, moved-deferred, moved-between, moved-top, passed-start, new_address-is, object_size}

module _ (law : PlanLaws) (image : HeapImage) (sound : HasLiveList image) where
  abbrev m : ℕ → ℕ
  m = moved_word image

  abbrev c : ℕ → ℕ
  c = copied_word image

  pub word-copied : (a j : ℕ) → IsObject image a → j < size_at image a → c (new_address image a + j) ≡ word_at image (a + j)
  word-copied a j o = subst (λ (n : ℕ). j < size_at image n → c (new_address image n + j) ≡ word_at image (n + j)) o.is (λ k. (moved-object law image sound o.index j o.inside k).0)

  header-same : (a : ℕ) → IsObject image a → c (new_address image a) ≡ m (new_address image a)
  header-same a o = subst (λ (n : ℕ). c (new_address image n) ≡ m (new_address image n)) o.is (moved-header law image sound o.index o.inside)

  rest-same : (a j : ℕ) → IsObject image a → references_at image a < j → j < size_at image a → c (new_address image a + j) ≡ m (new_address image a + j)
  rest-same a j o = subst (λ (n : ℕ). references_at image n < j → j < size_at image n → c (new_address image n + j) ≡ m (new_address image n + j)) o.is (λ k l. moved-rest law image sound o.index j o.inside k l)

  late-same : (a j : ℕ) → IsObject image a → is_deferred image a ≡ true → j < size_at image a → c (new_address image a + j) ≡ m (new_address image a + j)
  late-same a j o = subst (λ (n : ℕ). is_deferred image n ≡ true → j < size_at image n → c (new_address image n + j) ≡ m (new_address image n + j)) o.is (λ k l. moved-deferred law image sound o.index j o.inside l k)

  reference-moves : (a f : ℕ) → IsObject image a → is_deferred image a ≡ false → f < references_at image a
      → (c (new_address image a + 1 + f) ≡ word_at image (a + 1 + f)) × (m (new_address image a + 1 + f) ≡ redirected_word image (word_at image (a + 1 + f)))
  reference-moves a f o = subst (λ (n : ℕ). is_deferred image n ≡ false → f < references_at image n
      → (c (new_address image n + 1 + f) ≡ word_at image (n + 1 + f)) × (m (new_address image n + 1 + f) ≡ redirected_word image (word_at image (n + 1 + f)))) o.is (λ k l. moved-reference law image sound o.index f o.inside l k)

  pub reference-sound : (a f : ℕ) → IsObject image a → f < references_at image a → is_null_or_live image (reference_at image a f) ≡ true
  reference-sound a f o = subst (λ (n : ℕ). f < references_at image n → is_null_or_live image (reference_at image n f) ≡ true) o.is (λ l. sound.references o.index 0 o.inside f l)

  -- ---- within an object

  pub header-read : (a start at : ℕ) (xs : List ℕ) → IsObject image a → at ≡ new_address image a → start ≤ at → at < start + length xs → IsSplitAt m c start xs at → get_or xs (at - start) 0 ≡ word_at image a
  header-read a start at xs o e low high h =
      let size = object_size law image sound a o in
      let k : start + (at - start) ≡ new_address image a + 0 = omega arith in
      let z : a + 0 ≡ a = omega arith in
      h.above (at - start) (omega arith) (omega arith) ∙ ap c k ∙ word-copied a 0 o size.0 ∙ ap (word_at image) z

  pub header-size : (own : IsOwn image) (a start at w n : ℕ) (xs : List ℕ) → IsMovedTo image at a → start ≤ at → at < start + length xs → IsSplitAt m c start xs at → w ≡ get_or xs (at - start) 0 → n ≡ size_of w → n ≡ size_at image a
  header-size own a start at w n xs on low high h e f = f ∙ ap size_of (e ∙ header-read a start at xs on.object on.place low high h) ∙ sym (own.sizes (word_at image a))

  pub object-begin : (a start at : ℕ) (xs : List ℕ) → IsObject image a → at ≡ new_address image a → IsSplitAt m c start xs at → IsSplitAt m c start xs (at + 1)
  object-begin a start at xs o e h = split_skip m c start xs at (at + 1) h (omega arith) (λ p l n k.
      let same : p ≡ new_address image a = omega arith in
      ap c same ∙ header-same a o ∙ ap m (sym same))

  -- a reference of an object that is not redirected yet
  pub reference-read : (a f start at : ℕ) (xs : List ℕ) → IsObject image a → is_deferred image a ≡ false → at ≡ new_address image a → start ≤ at → at + size_at image a ≤ start + length xs → f < references_at image a
      → IsSplitAt m c start xs at → get_or xs (at - start + 1 + f) 0 ≡ word_at image (a + 1 + f)
  reference-read a f start at xs o early e low high few h =
      let size = object_size law image sound a o in
      let less : references_at image a < size_at image a = size.2 in
      let k : start + (at - start + 1 + f) ≡ new_address image a + 1 + f = omega arith in
      h.above (at - start + 1 + f) (omega arith) (omega arith) ∙ ap c k ∙ (reference-moves a f o early few).0

  -- all references of an object, redirected at once
  pub object-row : (a start at : ℕ) (xs : List ℕ) → IsObject image a → is_deferred image a ≡ false → at ≡ new_address image a → start ≤ at → at + size_at image a ≤ start + length xs
      → IsSplitAt m c start xs at → IsSplitAt m c start (with_words xs (at - start + 1) (map (redirected_word image) (part xs (at - start + 1) (references_at image a)))) (at + 1 + references_at image a)
  object-row a start at xs o early e low high h =
      let n : ℕ = references_at image a in
      let from : ℕ = at - start + 1 in
      let zs : List ℕ = map (redirected_word image) (part xs from n) in
      let size = object_size law image sound a o in
      let less : n < size_at image a = size.2 in
      let long : length zs ≡ n = length-map (part xs from n) (redirected_word image) ∙ length-part xs from n (omega arith) in
      let i : at + 1 - start ≡ from = omega arith in
      let end : at + 1 + length zs ≡ at + 1 + n = ap (λ k. at + 1 + k) long in
      let each : (f : ℕ) → f < length zs → get_or zs f 0 ≡ m (at + 1 + f) = λ f l. (
      let few : f < n = omega arith in
      let inside : f < length (part xs from n) = omega (arith, length-part xs from n (omega arith)) in
      let k : new_address image a + 1 + f ≡ at + 1 + f = omega arith in
      get_or-map (redirected_word image) (part xs from n) f 0 0 inside
      ∙ ap (redirected_word image) (get_or-part xs from n f few ∙ reference-read a f start at xs o early e low high few h)
      ∙ sym ((reference-moves a f o early few).1) ∙ ap m k) in
      let row = split_more m c start xs zs (at + 1) (object-begin a start at xs o e h) (omega arith) (omega arith) each in
      subst (IsSplitAt m c start (with_words xs from zs)) end (subst (λ (j : ℕ). IsSplitAt m c start (with_words xs j zs) (at + 1 + length zs)) i row)

  pub object-done : (a start at : ℕ) (xs : List ℕ) → IsObject image a → at ≡ new_address image a → IsSplitAt m c start xs (at + 1 + references_at image a) → IsSplitAt m c start xs (at + size_at image a)
  object-done a start at xs o e h =
      let size = object_size law image sound a o in
      let less : references_at image a < size_at image a = size.2 in
      split_skip m c start xs (at + 1 + references_at image a) (at + size_at image a) h (omega arith) (λ p l n k.
      let j : ℕ = p - new_address image a in
      let same : p ≡ new_address image a + j = omega arith in
      ap c same ∙ rest-same a j o (omega arith) (omega arith) ∙ ap m (sym same))

  pub object-late : (a start at : ℕ) (xs : List ℕ) → IsObject image a → is_deferred image a ≡ true → at ≡ new_address image a → IsSplitAt m c start xs at → IsSplitAt m c start xs (at + size_at image a)
  object-late a start at xs o late e h = split_skip m c start xs at (at + size_at image a) h (omega arith) (λ p l n k.
      let j : ℕ = p - new_address image a in
      let same : p ≡ new_address image a + j = omega arith in
      ap c same ∙ late-same a j o late (omega arith) ∙ ap m (sym same))

  -- ---- from object to object

  pub next-place : (from a : ℕ) → IsNextObject image from a → slid image from ≤ new_address image a
  next-place from a n = let to = new_address-is law image sound a n.object in let up = slid-ordered law image from a n.after in omega arith

  pub region-next : (from a start : ℕ) (xs : List ℕ) → IsPassed image from → IsNextObject image from a → IsSplitAt m c start xs (slid image from) → IsSplitAt m c start xs (new_address image a)
  region-next from a start xs passed n h = split_skip m c start xs (slid image from) (new_address image a) h (next-place from a n) (λ p l less k. moved-between law image sound from p passed (λ b u up.
      let to = new_address-is law image sound a n.object in
      let goes = new_address-is law image sound b u in
      let far = slid-ordered law image a b (n.first b u up) in
      omega arith) l)

  -- all words for the block lie below `to`
  abbrev pub IsReached : ℕ → ℕ → List ℕ → Type 0
  IsReached to start xs = (p : ℕ) → start ≤ p → p < start + length xs → p < new_top image → p < slid image to

  pub region-last : (from to start : ℕ) (xs : List ℕ) → IsPassed image from → HasNoObject image from to → IsReached to start xs → start ≤ slid image from → IsSplitAt m c start xs (slid image from) → Shows m start xs
  region-last from to start xs passed none reached low h =
      let end : ℕ = max (slid image from) (start + length xs) in
      split_all m c start xs end (split_skip m c start xs (slid image from) end h (omega arith) (λ p l less k. same p l k)) (omega arith)
    where
      same : (p : ℕ) → slid image from ≤ p → p < start + length xs → c p ≡ m p
      same p l k = elim (cases_lt p (new_top image)) [
        | inr top ↦ moved-top law image sound p top
        | inl below ↦ moved-between law image sound from p passed (λ b u up.
            let goes = new_address-is law image sound b u in
            let far = slid-ordered law image to b (none b u up) in
            let here = reached p (omega arith) k below in
            omega arith) l
      ]

  -- the same for a region whose words come from `first` on, before any object is redirected
  region-begin : (d first : ℕ) (xs : List ℕ) → slid image first ≡ start_of image d → Shows c (start_of image d) xs → IsSplitAt m c (start_of image d) xs (slid image first)
  region-begin d first xs e shows = subst (IsSplitAt m c (start_of image d) xs) (sym e) (split_none m c (start_of image d) xs shows)

  pub region-first : (d first a : ℕ) (xs : List ℕ) → slid image first ≡ start_of image d → IsNextObject image first a → Shows c (start_of image d) xs → IsSplitAt m c (start_of image d) xs (new_address image a)
  region-first d first a xs e n shows = region-next first a (start_of image d) xs (passed-start law image sound d first e) n (region-begin d first xs e shows)

  pub region-none : (d first to : ℕ) (xs : List ℕ) → slid image first ≡ start_of image d → HasNoObject image first to → IsReached to (start_of image d) xs → Shows c (start_of image d) xs → Shows m (start_of image d) xs
  region-none d first to xs e none reached shows = region-last first to (start_of image d) xs (passed-start law image sound d first e) none reached (omega arith) (region-begin d first xs e shows)

  pub region-header : (from a start at : ℕ) (xs : List ℕ) → IsPassed image from → IsNextObject image from a → IsSplitAt m c start xs (slid image from) → at ≡ new_address image a → start ≤ slid image from → at < start + length xs
      → IsSplitAt m c start xs at × (get_or xs (at - start) 0 ≡ word_at image a) × (start ≤ at)
  region-header from a start at xs passed n h e low high =
      let up = next-place from a n in
      let on = subst (IsSplitAt m c start xs) (sym e) (region-next from a start xs passed n h) in
      let behind : start ≤ at = omega arith in
      (on, header-read a start at xs n.object e behind high on, behind)

-- an object begins where the marks say so
begin-object : (image : HeapImage) (a : ℕ) → is_begin image a ≡ true → IsObject image a
begin-object image a h =
    let at = Any-from_list_any (λ b. eqb b a) image.live h in
    record { index = at.0; inside = at.2; is = get_or_default image.live at.0 0 at.1 at.2 ∙ at.3 ∙ eqb-true at.1 a at.4 }

object-marked : (image : HeapImage) (b : ℕ) → IsObject image b → is_begin image b ≡ true
object-marked image b o = list_any_at (λ x. eqb x b) image.live o.index 0 o.inside (eq-eqb (get_or image.live o.index 0) b o.is)

pub next-from_begin : (image : HeapImage) (from to : ℕ) (o : Option ℕ) → MatchOption o (NoneBetween (is_begin image) from to) (IsFirstBetween (is_begin image) from to) → MatchOption o (HasNoObject image from to) (IsNextObject image from)
next-from_begin image from to None none = λ b o up. elim (cases_lt b to) [
  | inl less ↦ absurd (true≢false (sym (object-marked image b o) ∙ none b up less))
  | inr more ↦ more
]
next-from_begin image from to (Some a) found = record {
  object = begin-object image a found.first.passes;
  after = found.first.behind;
  first = λ b o up. elim (cases_lt b a) [
    | inl less ↦ absurd (true≢false (sym (object-marked image b o) ∙ found.first.least b up less))
    | inr more ↦ more
  ];
}
