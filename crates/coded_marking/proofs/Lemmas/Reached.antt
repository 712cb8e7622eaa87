-- What is marked in the end is what the roots reach.
use Rattle.std.proofs.Common.{◌≡◌, ℕ, ◌<◌, inl, inr, Bool, true, false, ◌||◌, List, [], ◌∷◌, ◌++◌, refl, sym, ◌∙◌, ap, subst, arith}
use Rattle.std.proofs.lemmas.Bool.{false≢true, cases_Bool, or_left, or_right, or_cases}
use Rattle.std.proofs.lemmas.List.Folds.{list_any-append}
use Rattle.std.specs.Prelude.{All, Contains, filter, map, Result, Ok, Err, OnOk}
use Rattle.std.specs.List.{list_any, range_with_len}
use Rattle.object_heap.specs.Bits.{has}
use Rattle.object_heap.specs.HeapImage.{HeapImage, HasSoundHeader, heap_words, is_unsound, leads_to, reachable}
use Rattle.object_heap.specs.Layout.{reference_in}
use Rattle.object_heap.specs.Reachable.{is_listed, IsClosed}
use Rattle.coded_marking.specs.Marking.{set_below, references_by}
use Rattle.coded_marking.specs.Tracing.{IsSteady, IsUnderway, leads_any}
use Rattle.coded_marking.specs.declared.tracing.Tracing.{Tracing}
use Rattle.coded_marking.proofs.Lemmas.Growth.{marked_inside}
use Rattle.coded_marking.proofs.Lemmas.Underway.{held_none}
use Rattle.coded_marking.proofs.Lemmas.Listed.{both_ways, filter_none, filter_same, set_listed, all_listed, listed_all}

pub on_ok_two : {T E P Q R : Type 0} (r : Result T E) → (P → Q → R) → OnOk r P → OnOk r Q → OnOk r R
on_ok_two (Ok x) f p q = f p q
on_ok_two (Err e) f p q = tt

list_any-map : (f : ℕ → ℕ) (p : ℕ → Bool) (xs : List ℕ) → list_any p (map f xs) ≡ list_any (λ x. p (f x)) xs
list_any-map f p [] = refl
list_any-map f p (x ∷ xs) = ap (λ b. p (f x) || b) (list_any-map f p xs)

-- from no roots nothing is reached
pub reachable_none : (image : HeapImage) → ((passes : ℕ → Bool) → IsClosed image [] passes → (a : ℕ) → is_listed (reachable image []) a ≡ true → passes a ≡ true)
    → reachable image [] ≡ filter (is_listed (reachable image [])) (range_with_len 0 (heap_words image)) → reachable image [] ≡ []
reachable_none image least ascending =
    ascending ∙ filter_none (is_listed (reachable image [])) 0 (heap_words image) (λ a l h. elim (cases_Bool (is_listed (reachable image []) a)) [
      | inr out ↦ out
      | inl in' ↦ absurd (false≢true (least (λ _. false) (record { from_roots = λ b m is. is; from_objects = λ b d is refers m. is }) a in'))
    ])

module _ (image : HeapImage) (earlier roots : List ℕ) (t0 t : Tracing) (steady0 : IsSteady t0) (steady : IsSteady t) (are : t.words ≡ heap_words image)
    (underway : IsUnderway image roots (has t0.marked) (heap_words image) [] t) (same : set_below t0.words t0.marked ≡ reachable image earlier)
    (closed : (rs : List ℕ) → IsClosed image rs (is_listed (reachable image rs)))
    (least : (rs : List ℕ) (passes : ℕ → Bool) → IsClosed image rs passes → (a : ℕ) → is_listed (reachable image rs) a ≡ true → passes a ≡ true) where
  abbrev all : List ℕ
  all = earlier ++ references_by image roots

  before_is : (a : ℕ) → has t0.marked a ≡ is_listed (reachable image earlier) a
  before_is a = sym (set_listed t0.words t0.marked steady0.outside a) ∙ ap (λ xs. is_listed xs a) same

  leads_all : (b : ℕ) → list_any (λ w. leads_to w b) all ≡ (list_any (λ w. leads_to w b) earlier || leads_any image.layout roots b)
  leads_all b =
      list_any-append (λ w. leads_to w b) earlier (references_by image roots)
      ∙ ap (λ x. list_any (λ w. leads_to w b) earlier || x) (list_any-map (reference_in image.layout) (λ w. leads_to w b) roots)

  closed_for_earlier : IsClosed image earlier (is_listed (reachable image all))
  closed_for_earlier = record {
    from_roots = λ b l h. (closed all).from_roots b l (leads_all b ∙ or_left (list_any (λ w. leads_to w b) earlier) (leads_any image.layout roots b) h);
    from_objects = (closed all).from_objects;
  }

  -- no more is marked than what is reached
  pub marked_within : (a : ℕ) → has t.marked a ≡ true → is_listed (reachable image all) a ≡ true
  marked_within a h = underway.reached (is_listed (reachable image all))
      (λ b l is. (closed all).from_roots b l (leads_all b ∙ or_right (list_any (λ w. leads_to w b) earlier) (leads_any image.layout roots b) is))
      (λ b d is refers l. (closed all).from_objects b d is refers l)
      (λ b is. least earlier (is_listed (reachable image all)) closed_for_earlier b (sym (before_is b) ∙ is))
      a h

  module _ (complete : t.complete ≡ true) (empty : t.stack.items ≡ []) where
    marked_closed : IsClosed image all (has t.marked)
    marked_closed = record {
      from_roots = λ b l h. elim (or_cases (list_any (λ w. leads_to w b) earlier) (leads_any image.layout roots b) (sym (leads_all b) ∙ h)) [
        | inl old ↦ underway.kept b (before_is b ∙ (closed earlier).from_roots b l old)
        | inr root ↦ underway.started b l root
      ];
      from_objects = λ a b h refers l. elim (underway.waiting complete a (subst (λ n. a < n) are (marked_inside t steady a h)) h) [
        | inl was ↦ underway.kept b (before_is b ∙ (closed earlier).from_objects a b (sym (before_is a) ∙ was) refers l)
        | inr (inr (inr held)) ↦ absurd (held_none a held)
        | inr (inr (inl one)) ↦ one.targets b l refers
        | inr (inl waits) ↦ let none = (subst (λ xs. Contains xs a) empty waits).1 in let never : ⊥ = omega (arith, none) in absurd never
      ];
    }

    -- with nothing left to follow, all that is reached is marked
    pub marks_reached : reachable image all ≡ filter (is_listed (reachable image all)) (range_with_len 0 (heap_words image)) → set_below t.words t.marked ≡ reachable image all
    marks_reached ascending =
        ap (λ n. set_below n t.marked) are
        ∙ filter_same (has t.marked) (is_listed (reachable image all)) 0 (heap_words image) (λ a l m. both_ways (has t.marked a) (is_listed (reachable image all) a) (marked_within a) (least all (has t.marked) marked_closed a))
        ∙ sym ascending

-- with nothing left to follow, each marked object has a sound header if each had that was marked before
pub marks_sound : (image : HeapImage) (roots : List ℕ) (t0 t : Tracing) → IsSteady t0 → IsSteady t → t.words ≡ heap_words image → IsUnderway image roots (has t0.marked) (heap_words image) [] t
    → ((a : ℕ) → is_unsound image a ≡ false → HasSoundHeader image a) → t.complete ≡ true → t.stack.items ≡ []
    → All (λ a. HasSoundHeader image a) (set_below t0.words t0.marked) → All (λ a. HasSoundHeader image a) (set_below t.words t.marked)
marks_sound image roots t0 t steady0 steady are underway header complete empty before =
    all_listed (λ a. HasSoundHeader image a) (set_below t.words t.marked) (λ a listed.
    let h : has t.marked a ≡ true = sym (set_listed t.words t.marked steady.outside a) ∙ listed in
    elim (underway.waiting complete a (subst (λ n. a < n) are (marked_inside t steady a h)) h) [
      | inl was ↦ listed_all (λ b. HasSoundHeader image b) (set_below t0.words t0.marked) before a (set_listed t0.words t0.marked steady0.outside a ∙ was)
      | inr (inr (inr held)) ↦ absurd (held_none a held)
      | inr (inr (inl one)) ↦ header a one.sound
      | inr (inl waits) ↦ let none = (subst (λ xs. Contains xs a) empty waits).1 in let never : ⊥ = omega (arith, none) in absurd never
    ])
