-- The order of the live objects at their new addresses, and the references between them.
use Rattle.std.proofs.Common.{◌≡◌, ◌⊎◌, ℕ, ◌+◌, ◌-◌, ◌≤◌, ◌<◌, inl, inr, true, false, ◌&&◌, length, ◌∙◌, ap, arith, ltb, leb, eqb}
use Rattle.std.proofs.lemmas.Bool.{cases_Bool, cases_order, cond-true, cond-false, and_left, and_right, lt-leb, eq-eqb, eqb-true, or_cases}
use Rattle.std.proofs.lemmas.List.{get_or_default}
use Rattle.std.proofs.lemmas.List.Folds.{Any-from_list_any}
use Rattle.std.specs.List.{list_any}
use Rattle.object_heap.specs.HeapImage.{HeapImage, HasLiveList, heap_words, word_at, size_at, references_at, reference_at, is_null_or_live}
use Rattle.summary.specs.LiveObjects.{object_count, object_at}
use Rattle.summary.specs.NewAddresses.{new_address, new_end_of, new_top}
use Rattle.summary.specs.WordMoves.{slid}
use Rattle.summary.specs.Compaction.{compact, redirected, is_reference_of, redirected_word}
use Rattle.summary.specs.Redirection.{RedirectsReferences}
use Rattle.summary.specs.SameGraph.{IsSameGraph}
use Rattle.summary.proofs.Lemmas.Objects.{new_ends_before}
use Rattle.summary.proofs.Lemmas.Runs.{carried-object}
use Rattle.summary.proofs.Lemmas.Steps.{place-ordered}
use Rattle.summary.proofs.Lemmas.Updates.{new_word}
use Rattle.summary.proofs.Lemmas.Valid.{word_of, header_of_moved, reference_of_moved, new_at, count_same}
use Rattle.summary.proofs.Lemmas.Words.{slid-le, slid-below}

module _ (image : HeapImage) (sound : HasLiveList image) where
  pub new-apart : (i k : ℕ) → i < k → k < object_count image → new_end_of image (object_at image i) ≤ new_address image (object_at image k)
  new-apart i k l m =
      let some = (sound.sound i 0 (omega arith)).header in
      let before = place-ordered image sound i k l m in
      new_ends_before image sound i k (omega arith) m (omega arith)

  pub new-ordered : (i k : ℕ) → i < k → k < object_count image → new_address image (object_at image i) < new_address image (object_at image k)
  new-ordered i k l m =
      let some = (sound.sound i 0 (omega arith)).header in
      let apart = new-apart i k l m in
      omega arith

  pub new-down : (i : ℕ) → i < object_count image → new_address image (object_at image i) ≤ object_at image i
  new-down i l =
      let some = (sound.sound i 0 l).header in
      let to : slid image (object_at image i + 0) ≡ new_address image (object_at image i) + 0 = (new_word image sound i 0 l some).1 in
      let down = slid-le image (object_at image i + 0) in
      omega arith

  pub new-below : (i : ℕ) → i < object_count image → new_end_of image (object_at image i) ≤ new_top image
  new-below i l =
      let some = (sound.sound i 0 l).header in
      let j : ℕ = size_at image (object_at image i) - 1 in
      let w = new_word image sound i j l (omega arith) in
      let to : slid image (object_at image i + j) ≡ new_address image (object_at image i) + j = w.1 in
      let below = slid-below image sound (object_at image i + j) w.0 in
      omega arith

  -- two live objects do not go to one address
  pub new-different : (i k : ℕ) → i < object_count image → k < object_count image → new_address image (object_at image i) ≡ new_address image (object_at image k) → i ≡ k
  new-different i k l m e = elim (cases_order i k) [
    | inl same ↦ same
    | inr other ↦ elim other [
      | inl less ↦ let up = new-ordered i k less m in let no : ⊥ = omega arith in absurd no
      | inr more ↦ let up = new-ordered k i more l in let no : ⊥ = omega arith in absurd no
    ]
  ]

  redirected-null : (w : ℕ) → w ≡ 0 → redirected image w ≡ 0
  redirected-null w e = cond-true (eqb w 0) 0 (new_address image (w - 1) + 1) (eq-eqb w 0 e)

  redirected-object : (w a : ℕ) → w ≡ a + 1 → redirected image w ≡ new_address image a + 1
  redirected-object w a e =
      let some : eqb w 0 ≡ false = elim (cases_Bool (eqb w 0)) [
        | inr some ↦ some
        | inl none ↦ let z = eqb-true w 0 none in let no : ⊥ = omega arith in absurd no
      ] in
      let at : w - 1 ≡ a = omega arith in
      cond-false (eqb w 0) 0 (new_address image (w - 1) + 1) some ∙ ap (λ c. new_address image c + 1) at

  -- a reference is null, or leads to some live object
  leads_to : (w : ℕ) → is_null_or_live image w ≡ true → (w ≡ 0) ⊎ ((k : ℕ) × (k < object_count image) × (w ≡ object_at image k + 1))
  leads_to w h = elim (or_cases (eqb w 0) (list_any (λ a. eqb w (a + 1)) image.live) h) [
    | inl null ↦ inl (eqb-true w 0 null)
    | inr found ↦
        let at = Any-from_list_any (λ a. eqb w (a + 1)) image.live found in
        let k : ℕ = at.0 in
        let x : ℕ = at.1 in
        let l : k < length image.live = at.2 in
        let is : object_at image k ≡ x = get_or_default image.live k 0 x l ∙ at.3 in
        let e : w ≡ x + 1 = eqb-true w (x + 1) at.4 in
        inr (k, l, omega arith)
  ]

  abbrev after : HeapImage
  after = compact image

  abbrev old_reference : ℕ → ℕ → ℕ
  old_reference i f = reference_at image (object_at image i) f

  abbrev new_reference : ℕ → ℕ → ℕ
  new_reference i f = reference_at after (new_address image (object_at image i)) f

  pub reference-object : RedirectsReferences image.layout (heap_words image) → (i k f : ℕ) → i < object_count image → k < object_count image → f < references_at image (object_at image i)
      → old_reference i f ≡ object_at image k + 1 → new_reference i f ≡ new_address image (object_at image k) + 1
  reference-object lawful i k f l m n e = reference_of_moved image sound lawful i f l n ∙ redirected-object (old_reference i f) (object_at image k) e

  pub reference-null : RedirectsReferences image.layout (heap_words image) → (i f : ℕ) → i < object_count image → f < references_at image (object_at image i) → old_reference i f ≡ 0 → new_reference i f ≡ 0
  reference-null lawful i f l n e = reference_of_moved image sound lawful i f l n ∙ redirected-null (old_reference i f) e

  null-back : RedirectsReferences image.layout (heap_words image) → (i f : ℕ) → i < object_count image → f < references_at image (object_at image i) → new_reference i f ≡ 0 → old_reference i f ≡ 0
  null-back lawful i f l n e = elim (leads_to (old_reference i f) (sound.references i 0 l f n)) [
    | inl null ↦ null
    | inr to ↦
        let goes = reference-object lawful i to.0 f l to.1 n to.2 in
        let no : ⊥ = omega arith in absurd no
  ]

  object-back : RedirectsReferences image.layout (heap_words image) → (i k f : ℕ) → i < object_count image → k < object_count image → f < references_at image (object_at image i)
      → new_reference i f ≡ new_address image (object_at image k) + 1 → old_reference i f ≡ object_at image k + 1
  object-back lawful i k f l m n e = elim (leads_to (old_reference i f) (sound.references i 0 l f n)) [
    | inl null ↦ let z = reference-null lawful i f l n null in let no : ⊥ = omega arith in absurd no
    | inr to ↦
        let goes = reference-object lawful i to.0 f l to.1 n to.2 in
        let same : to.0 ≡ k = new-different to.0 k to.1 m (omega arith) in
        to.2 ∙ ap (λ j. object_at image j + 1) same
  ]

  other_word : (i j : ℕ) → i < object_count image → references_at image (object_at image i) < j → j < size_at image (object_at image i)
      → word_at after (new_address image (object_at image i) + j) ≡ word_at image (object_at image i + j)
  other_word i j l m n =
      let a : ℕ = object_at image i in
      let q : ℕ = a + j in
      word_of image sound i j l n
      ∙ carried-object image sound (λ _. true) i q l (omega arith) (omega arith)
      ∙ cond-false (is_reference_of image a q && true) (redirected_word image (word_at image q)) (word_at image q) (and_left (is_reference_of image a q) true (and_right (ltb a q) (leb q (a + references_at image a)) (lt-leb q (a + references_at image a) (omega arith))))

  pub compact-IsSameGraph : RedirectsReferences image.layout (heap_words image) → IsSameGraph image (compact image)
  compact-IsSameGraph lawful = record {
    objects = count_same image sound;
    headers = λ i l. rw (new_at image sound i 0 l) (header_of_moved image sound i l);
    null = λ i f l n. rw (new_at image sound i 0 l) (reference-null lawful i f l n, null-back lawful i f l n);
    references = λ i f k l n m. rw (new_at image sound i 0 l, new_at image sound k 0 m) (reference-object lawful i k f l m n, object-back lawful i k f l m n);
    others = λ i j l m n. rw (new_at image sound i 0 l) (other_word i j l m n);
  }
