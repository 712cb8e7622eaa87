-- Which words are redirected as a region is filled.
use Rattle.std.proofs.Common.{◌≡◌, ℕ, ◌+◌, ◌-◌, ◌*◌, ◌/◌, ◌≤◌, ◌<◌, inl, inr, Bool, true, false, cond, ◌&&◌, length, get_or, refl, sym, ◌∙◌, ap, subst, arith, ltb, leb, eqb}
use Rattle.std.proofs.lemmas.Bool.{cases_lt, cases_order, cond-true, cond-false, and_from, and_left, and_right, lt-ltb, le-ltb, le-leb, lt-leb, eq-eqb, ne_eqb, not_from_true, not_from_false}
use Rattle.std.specs.Prelude.{not, Some, None, Option}
use Rattle.std.specs.List.{list_any}
use Rattle.object_heap.specs.HeapImage.{HeapImage, HasLiveList, heap_words, region_words, word_at, size_at, references_at, end_of, is_live_word, live_words}
use Rattle.summary.specs.NewAddresses.{prefix_end, new_address, new_top}
use Rattle.summary.specs.WordMoves.{slid, origin}
use Rattle.summary.specs.Compaction.{moved_word, redirected_word, is_reference_of, is_deferred}
use Rattle.summary.specs.PlanLaws.{PlanLaws}
use Rattle.fill.proofs.Lemmas.Regions.{region_is, region_low, region_high, region-le, region_some}
use Rattle.summary.specs.Compaction.{word_by}
use Rattle.fill.specs.CopiedWords.{copied_word}
use Rattle.fill.specs.Objects.{IsObject, IsPassed, IsMovedTo, IsBetween}
use Rattle.fill.proofs.Lemmas.Slides.{slid-run, slid-monotone, word_by-above, word_by-below, word_by-slid, copied-slid}

module _ (law : PlanLaws) (image : HeapImage) where
  abbrev B : ℕ
  B = prefix_end image

  pub slid-ordered : (a b : ℕ) → a ≤ b → slid image a ≤ slid image b
  slid-ordered a b l = elim (cases_lt a B) [
    | inr high ↦ slid-monotone law image a b high l
    | inl low ↦
        let one = law.slid-low image a low in
        elim (cases_lt b B) [
          | inl below ↦ let two = law.slid-low image b below in omega arith
          | inr above ↦ let two = law.slid-above image b above in omega arith
        ]
  ]

  pub slid-whole : (a n : ℕ) → ((q : ℕ) → a ≤ q → q < a + n → is_live_word image q ≡ true) → slid image (a + n) ≡ slid image a + n
  slid-whole a n live = elim (cases_lt a B) [
    | inr high ↦ slid-run law image a n high live
    | inl low ↦
        let one = law.slid-low image a low in
        elim (cases_lt (a + n) B) [
          | inl below ↦ let two = law.slid-low image (a + n) below in omega arith
          | inr above ↦
              let m : ℕ = a + n - B in
              let e : B + m ≡ a + n = omega arith in
              let run = slid-run law image B m (omega arith) (λ q x y. live q (omega arith) (omega arith)) in
              let start = slid-run law image B 0 (omega arith) (λ q x y. (let no : ⊥ = omega arith in absurd no)) in
              let at = law.slid-high image B (omega arith) in
              let none : live_words image B B ≡ 0 = nothing in
              let same : slid image (B + m) ≡ slid image (a + n) = ap (slid image) e in
              omega arith
        ]
  ]
    where
      nothing : live_words image B B ≡ 0
      nothing = let z : B - B ≡ 0 = omega arith in ap (λ n. Rattle.std.specs.Prelude.count_by (is_live_word image) (Rattle.std.specs.List.range_with_len B n)) z

  -- a word below an end in the prefix goes below where that end goes
  pub below-kept : (p end : ℕ) → p < end → end ≤ B → p < slid image end
  below-kept p end l k = elim (cases_lt end B) [
    | inl less ↦ let same = law.slid-low image end less in omega arith
    | inr more ↦ let up = law.slid-above image end more in omega arith
  ]

module _ (law : PlanLaws) (image : HeapImage) (sound : HasLiveList image) where
  abbrev place : ℕ → ℕ
  place i = get_or image.live i 0

  abbrev early : ℕ → Bool
  early a = not (is_deferred image a)

  -- what is the same before and after the references of early objects are redirected
  pub moved-top : (p : ℕ) → new_top image ≤ p → copied_word image p ≡ moved_word image p
  moved-top p l = word_by-above law image (λ _. false) p l ∙ sym (word_by-above law image early p l)

  pub moved-None : (p : ℕ) → p < new_top image → origin image p ≡ None → copied_word image p ≡ moved_word image p
  moved-None p l e = word_by-below law image (λ _. false) p None l e ∙ sym (word_by-below law image early p None l e)

  -- the word j of an object once it is moved
  pub moved-object : (i j : ℕ) → i < length image.live → j < size_at image (place i)
      → (copied_word image (new_address image (place i) + j) ≡ word_at image (place i + j))
      × (moved_word image (new_address image (place i) + j) ≡ cond (is_reference_of image (place i) (place i + j) && early (place i)) (redirected_word image (word_at image (place i + j))) (word_at image (place i + j)))
  moved-object i j l k =
      let to = law.new_address-slid image sound i j l k in
      let live = law.is_live image sound i (place i + j) l (omega arith) (omega arith) in
      let which = law.reference-owner image sound early i (place i + j) l (omega arith) (omega arith) in (
        ap (copied_word image) to ∙ copied-slid law image sound (place i + j) live,
        ap (word_by image early) to ∙ word_by-slid law image sound early (place i + j) live ∙ ap (λ b. cond b (redirected_word image (word_at image (place i + j))) (word_at image (place i + j))) which,
      )

  -- a word of a deferred object, or one that is no reference, is moved as it is copied
  pub moved-same : (i j : ℕ) → i < length image.live → j < size_at image (place i) → (is_reference_of image (place i) (place i + j) && early (place i)) ≡ false
      → copied_word image (new_address image (place i) + j) ≡ moved_word image (new_address image (place i) + j)
  moved-same i j l k h =
      let both = moved-object i j l k in
      both.0 ∙ sym (both.1 ∙ cond-false (is_reference_of image (place i) (place i + j) && early (place i)) (redirected_word image (word_at image (place i + j))) (word_at image (place i + j)) h)

  pub moved-deferred : (i j : ℕ) → i < length image.live → j < size_at image (place i) → is_deferred image (place i) ≡ true
      → copied_word image (new_address image (place i) + j) ≡ moved_word image (new_address image (place i) + j)
  moved-deferred i j l k late = moved-same i j l k (and_right (is_reference_of image (place i) (place i + j)) (early (place i)) (not_from_true (is_deferred image (place i)) late))

  pub moved-header : (i : ℕ) → i < length image.live → copied_word image (new_address image (place i)) ≡ moved_word image (new_address image (place i))
  moved-header i l =
      let some = (sound.sound i 0 l).header in
      let e : new_address image (place i) + 0 ≡ new_address image (place i) = omega arith in
      let no : is_reference_of image (place i) (place i + 0) ≡ false = and_left (ltb (place i) (place i + 0)) (leb (place i + 0) (place i + references_at image (place i))) (le-ltb (place i) (place i + 0) (omega arith)) in
      ap (copied_word image) (sym e) ∙ moved-same i 0 l some (and_left (is_reference_of image (place i) (place i + 0)) (early (place i)) no) ∙ ap (moved_word image) e

  pub moved-rest : (i j : ℕ) → i < length image.live → references_at image (place i) < j → j < size_at image (place i)
      → copied_word image (new_address image (place i) + j) ≡ moved_word image (new_address image (place i) + j)
  moved-rest i j l more k =
      let no : is_reference_of image (place i) (place i + j) ≡ false = and_right (ltb (place i) (place i + j)) (leb (place i + j) (place i + references_at image (place i))) (lt-leb (place i + j) (place i + references_at image (place i)) (omega arith)) in
      moved-same i j l k (and_left (is_reference_of image (place i) (place i + j)) (early (place i)) no)

  -- a reference of an early object
  pub moved-reference : (i f : ℕ) → i < length image.live → f < references_at image (place i) → is_deferred image (place i) ≡ false
      → (copied_word image (new_address image (place i) + 1 + f) ≡ word_at image (place i + 1 + f)) × (moved_word image (new_address image (place i) + 1 + f) ≡ redirected_word image (word_at image (place i + 1 + f)))
  moved-reference i f l k timely =
      let few : references_at image (place i) < size_at image (place i) = (sound.sound i 0 l).references in
      let j : ℕ = 1 + f in
      let both = moved-object i j l (omega arith) in
      let a : ℕ = place i in
      let yes : (is_reference_of image a (a + j) && early a) ≡ true = and_from (is_reference_of image a (a + j)) (early a)
      (and_from (ltb a (a + j)) (leb (a + j) (a + references_at image a)) (lt-ltb a (a + j) (omega arith)) (le-leb (a + j) (a + references_at image a) (omega arith))) (not_from_false (is_deferred image a) timely) in
      let to : new_address image a + j ≡ new_address image a + 1 + f = omega arith in
      let from : a + j ≡ a + 1 + f = omega arith in (
        ap (copied_word image) (sym to) ∙ both.0 ∙ ap (word_at image) from,
        ap (moved_word image) (sym to) ∙ both.1 ∙ cond-true (is_reference_of image a (a + j) && early a) (redirected_word image (word_at image (a + j))) (word_at image (a + j)) yes ∙ ap (λ q. redirected_word image (word_at image q)) from,
      )

  -- ---- objects one after another

  pub new_address-is : (a : ℕ) → IsObject image a → new_address image a ≡ slid image a
  new_address-is a o =
      let some = (sound.sound o.index 0 o.inside).header in
      let e = law.new_address-slid image sound o.index 0 o.inside some in
      let is : place o.index ≡ a = o.is in
      let one : new_address image (place o.index) ≡ new_address image a = ap (new_address image) is in
      let two : slid image (place o.index + 0) ≡ slid image a = ap (slid image) (let z : place o.index + 0 ≡ a = omega arith in z) in
      omega arith

  -- an object of the prefix stays
  pub stays : (a : ℕ) → IsObject image a → a < prefix_end image → a ≡ new_address image a
  stays a o l = sym (new_address-is a o ∙ law.slid-low image a l)

  pub object_size : (a : ℕ) → IsObject image a → (0 < size_at image a) × (end_of image a ≤ heap_words image) × (references_at image a < size_at image a)
  object_size a o =
      let h = sound.sound o.index 0 o.inside in
      (subst (λ (n : ℕ). 0 < size_at image n) o.is h.header, subst (λ (n : ℕ). end_of image n ≤ heap_words image) o.is h.inside, subst (λ (n : ℕ). references_at image n < size_at image n) o.is h.references)

  pub object_live : (a q : ℕ) → IsObject image a → a ≤ q → q < end_of image a → is_live_word image q ≡ true
  object_live a q o l m = law.is_live image sound o.index q o.inside (subst (λ (n : ℕ). n ≤ q) (sym o.is) l) (subst (λ (n : ℕ). q < end_of image n) (sym o.is) m)

  pub object_end : (a : ℕ) → IsObject image a → slid image (end_of image a) ≡ new_address image a + size_at image a
  object_end a o = let to = new_address-is a o in let all = slid-whole law image a (size_at image a) (λ q l m. object_live a q o l m) in omega arith

  pub objects_apart : (a b : ℕ) → IsObject image a → IsObject image b → a < b → end_of image a ≤ b
  objects_apart a b o u l =
      let h = law.ends_before image sound o.index u.index o.inside u.inside (subst (λ (n : ℕ). place o.index < n) (sym u.is) (subst (λ (n : ℕ). n < b) (sym o.is) l)) in
      subst (λ (n : ℕ). end_of image n ≤ b) o.is (subst (λ (n : ℕ). end_of image (place o.index) ≤ n) u.is h)

  -- no object extends across the end of another
  pub passed-object : (a : ℕ) → IsObject image a → IsPassed image (end_of image a)
  passed-object a o = record {
    late = λ b u l m. elim (cases_order b a) [
      | inl same ↦ let e : end_of image b ≡ end_of image a = ap (end_of image) same in let no : ⊥ = omega arith in absurd no
      | inr other ↦ elim other [
        | inl less ↦ let h = objects_apart b a u o less in let no : ⊥ = omega arith in absurd no
        | inr more ↦ let h = objects_apart a b o u more in let no : ⊥ = omega arith in absurd no
      ]
    ];
  }

  -- objects stay apart as they are moved
  pub moved-apart : (a b : ℕ) → IsObject image a → IsObject image b → a < b → new_address image a + size_at image a ≤ new_address image b
  moved-apart a b o u l =
      let apart = objects_apart a b o u l in
      let end = object_end a o in
      let up = slid-ordered law image (end_of image a) b apart in
      let to = new_address-is b u in
      omega arith

  -- and none extends across the new address of another, or across its end
  pub between-object : (a : ℕ) → IsObject image a → IsBetween image (new_address image a)
  between-object a o = λ b u l. elim (cases_order b a) [
    | inl same ↦ let e : new_address image b ≡ new_address image a = ap (new_address image) same in let no : ⊥ = omega arith in absurd no
    | inr other ↦ elim other [
      | inl less ↦ moved-apart b a u o less
      | inr more ↦ let h = moved-apart a b o u more in let no : ⊥ = omega arith in absurd no
    ]
  ]

  pub between-end : (a : ℕ) → IsObject image a → IsBetween image (new_address image a + size_at image a)
  between-end a o = λ b u l. elim (cases_order b a) [
    | inl same ↦
        let to : new_address image b ≡ new_address image a = ap (new_address image) same in
        let size : size_at image b ≡ size_at image a = ap (size_at image) same in
        omega arith
    | inr other ↦ elim other [
      | inl less ↦ let h = moved-apart b a u o less in omega arith
      | inr more ↦ let h = moved-apart a b o u more in let no : ⊥ = omega arith in absurd no
    ]
  ]

  -- after the prefix, an object goes to each such address
  pub object-at : (at : ℕ) → prefix_end image ≤ at → at < new_top image → IsBetween image at → (a : ℕ) × IsMovedTo image at a
  object-at at low high between =
      let on = law.slid-onto image sound at low high in
      let q : ℕ = on.0 in
      let live : is_live_word image q ≡ true = on.2 in
      let to : slid image q ≡ at = on.3 in
      let o = law.owner image sound q live in
      let i : ℕ = o.0 in
      let l : i < length image.live = o.1 in
      let b : ℕ = place i in
      let on_it : b ≤ q = o.2 in
      let end : q < end_of image b = o.3 in
      let is : IsObject image b = record { index = i; inside = l; is = refl } in
      let j : ℕ = q - b in
      let word = law.new_address-slid image sound i j l (omega arith) in
      let from : b + j ≡ q = omega arith in
      let same : slid image (b + j) ≡ slid image q = ap (slid image) from in
      let here : new_address image b + j ≡ at = omega arith in
      let first : at ≡ new_address image b = elim (cases_lt (new_address image b) at) [
        | inl less ↦ let over = between b is less in let no : ⊥ = omega arith in absurd no
        | inr up ↦ omega arith
      ] in
      (b, record { object = is; place = first })

  -- an object that begins before the word that goes to the start of a region, and ends after it, is deferred
  pub passed-start : (d first : ℕ) → slid image first ≡ d * region_words image → IsPassed image first
  passed-start d first e = record {
    late = λ b u l m. (
        let R : ℕ = region_words image in
        let size = object_size b u in
        let some : 0 < size_at image b = size.0 in
        let live = object_live b b u (omega arith) (omega arith) in
        let less = law.slid-increasing image b first live l in
        let end = object_end b u in
        let to = new_address-is b u in
        let last = object_live b (end_of image b - 1) u (omega arith) (omega arith) in
        let one : end_of image b - 1 + 1 ≡ end_of image b = omega arith in
        let over = slid-ordered law image first (end_of image b - 1) (omega arith) in
        let more = law.slid-increasing image (end_of image b - 1) (end_of image b) last (omega arith) in
        not_from_false (eqb (new_address image b / R) ((new_address image b + size_at image b - 1) / R))
        (ne_eqb (new_address image b / R) ((new_address image b + size_at image b - 1) / R) (λ same.
        let low : new_address image b / R * R ≤ new_address image b = region_low R (new_address image b) in
        let high : d ≤ (new_address image b + size_at image b - 1) / R = subst (λ (n : ℕ). n ≤ (new_address image b + size_at image b - 1) / R) (region_is R d (d * R) (omega arith) (let pos = region_some image in omega arith)) (region-le R (d * R) (new_address image b + size_at image b - 1) (region_some image) (omega arith)) in
        let up : d * R ≤ new_address image b / R * R = Rattle.std.proofs.lemmas.Nat.mul-le d R (new_address image b / R) R (omega arith) (omega arith) in
        omega arith)));
  }

  -- between the visited words and the next object, words are moved as they are copied
  pub moved-between : (from p : ℕ) → IsPassed image from → ((b : ℕ) → IsObject image b → from ≤ b → p < new_address image b) → slid image from ≤ p → copied_word image p ≡ moved_word image p
  moved-between from p passed next low = elim (cases_lt p (new_top image)) [
    | inr top ↦ moved-top p top
    | inl below ↦ each (origin image p) refl below
  ]
    where
      each : (o : Option ℕ) → origin image p ≡ o → p < new_top image → copied_word image p ≡ moved_word image p
      each None e below = moved-None p below e
      each (Some q) e below =
          let h = law.origin-Some image sound p q e in
          let live : is_live_word image q ≡ true = h.0 in
          let to : slid image q ≡ p = h.1 in
          let o = law.owner image sound q live in
          let i : ℕ = o.0 in
          let l : i < length image.live = o.1 in
          let b : ℕ = place i in
          let on : b ≤ q = o.2 in
          let end : q < end_of image b = o.3 in
          let is : IsObject image b = record { index = i; inside = l; is = refl } in
          let goes = new_address-is b is in
          let up = slid-ordered law image b q on in
          let before : b < from = elim (cases_lt b from) [
            | inl less ↦ less
            | inr more ↦ let over : p < new_address image b = next b is more in let no : ⊥ = omega arith in absurd no
          ] in
          let from_on : from ≤ q = elim (cases_lt q from) [
            | inl less ↦ let over = law.slid-increasing image q from live less in let no : ⊥ = omega arith in absurd no
            | inr more ↦ more
          ] in
          let late = passed.late b is before (omega arith) in
          let j : ℕ = q - b in
          let at : b + j ≡ q = omega arith in
          let word = law.new_address-slid image sound i j l (omega arith) in
          let same : slid image (b + j) ≡ slid image q = ap (slid image) at in
          let here : new_address image b + j ≡ p = omega arith in
          ap (copied_word image) (sym here) ∙ moved-deferred i j l (omega arith) late ∙ ap (moved_word image) here

  -- ---- what decides that an object is deferred
  pub deferred-not : (d a : ℕ) → IsObject image a → d * region_words image ≤ new_address image a → new_address image a + size_at image a ≤ d * region_words image + region_words image → is_deferred image a ≡ false
  deferred-not d a o low high =
      let R : ℕ = region_words image in
      let some = object_size a o in
      let size : 0 < size_at image a = some.0 in
      let one = region_is R d (new_address image a) low (omega arith) in
      let two = region_is R d (new_address image a + size_at image a - 1) (omega arith) (omega arith) in
      not_from_true (eqb (new_address image a / R) ((new_address image a + size_at image a - 1) / R)) (eq-eqb (new_address image a / R) ((new_address image a + size_at image a - 1) / R) (one ∙ sym two))

  pub deferred-over : (d a : ℕ) → IsObject image a → d * region_words image ≤ new_address image a → new_address image a < d * region_words image + region_words image → d * region_words image + region_words image < new_address image a + size_at image a → is_deferred image a ≡ true
  deferred-over d a o low high over =
      let R : ℕ = region_words image in
      let one = region_is R d (new_address image a) low high in
      let some = region_some image in
      not_from_false (eqb (new_address image a / R) ((new_address image a + size_at image a - 1) / R)) (ne_eqb (new_address image a / R) ((new_address image a + size_at image a - 1) / R) (λ same.
      let last : (new_address image a + size_at image a - 1) / R ≡ d = sym same ∙ one in
      let up = region_high R (new_address image a + size_at image a - 1) some in
      let e : (new_address image a + size_at image a - 1) / R * R ≡ d * R = ap (λ n. n * R) last in
      omega arith))
