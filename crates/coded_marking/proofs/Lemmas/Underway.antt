-- Marking that is under way, step by step.
use Rattle.std.proofs.Common.{◌≡◌, ◌⊎◌, ℕ, ◌+◌, ◌*◌, ◌/◌, ◌%◌, ◌≤◌, ◌<◌, inl, inr, Bool, true, false, List, [], get_or, sym, ◌∙◌, ap, subst, arith, eqb}
use Rattle.std.proofs.lemmas.Bool.{false≢true, cases_lt, eqb-true, or_left, or_right, or_cases}
use Rattle.std.specs.Int.{bit_at}
use Rattle.std.specs.Prelude.{Contains}
use Rattle.object_heap.specs.HeapImage.{HeapImage, heap_words, is_unsound, refers_to}
use Rattle.object_heap.specs.Bits.{has}
use Rattle.coded_marking.specs.Tracing.{IsSteady, PushesWord, Grows, Follows, Stops, IsFollowed, IsHeld, IsUnderway, Takes, leads_any}
use Rattle.coded_marking.specs.declared.tracing.Tracing.{Tracing}
use Rattle.coded_marking.specs.declared.waiting.Waiting.{Waiting}
use Rattle.coded_marking.proofs.Lemmas.Growth.{marked_inside}

-- with more marks it is followed still
pub followed_still : (image : HeapImage) (bits new_bits : List ℕ) (a : ℕ) → ((b : ℕ) → has bits b ≡ true → has new_bits b ≡ true) → IsFollowed image bits a → IsFollowed image new_bits a
followed_still image bits new_bits a kept one = record {
  sound = one.sound;
  targets = λ b l refers. kept b (one.targets b l refers);
}

-- no object is held in an empty batch
pub held_none : (b : ℕ) → IsHeld [] b → ⊥
held_none b held = let none = held.1.1 in omega (arith, none)

module _ (image : HeapImage) (roots : List ℕ) where
  abbrev inside : (t : Tracing) → t.words ≡ heap_words image → IsSteady t → (a : ℕ) → has t.marked a ≡ true → a < heap_words image
  inside t are steady a h = subst (λ n. a < n) are (marked_inside t steady a h)

  -- with the roots visited
  pub underway_begins : (limit : ℕ) (t t' : Tracing) → t'.words ≡ heap_words image → IsSteady t → IsSteady t' → t'.followed ≡ t.followed → Grows (leads_any image.layout roots) t t'
      → IsUnderway image roots (has t.marked) limit [] t'
  underway_begins limit t t' are steady steady' same grown =
      let kept : (a : ℕ) → has t.marked a ≡ true → has t'.marked a ≡ true = λ a h. grown.marks a ∙ or_left (has t.marked a) (leads_any image.layout roots a) h in
      record {
        kept = kept;
        reached = λ passes from_roots from_objects from_before a h. elim (or_cases (has t.marked a) (leads_any image.layout roots a) (sym (grown.marks a) ∙ h)) [
          | inl old ↦ from_before a old
          | inr root ↦ from_roots a (inside t' are steady' a h) root
        ];
        started = λ b l root. grown.marks b ∙ or_right (has t.marked b) (leads_any image.layout roots b) root;
        followed = λ a h. inl (steady.followed a (subst (λ bs. has bs a ≡ true) same h));
        waiting = λ complete a l h. elim (or_cases (has t.marked a) (leads_any image.layout roots a) (sym (grown.marks a) ∙ h)) [
          | inl old ↦ inl old
          | inr root ↦ elim (grown.pending complete a root) [
            | inl old ↦ inl old
            | inr waits ↦ inr (inl waits)
          ]
        ];
      }

  module _ (before : ℕ → Bool) (limit : ℕ) where
    -- with one more object followed, which is not held any more
    pub underway_next : (a : ℕ) (batch rest : List Waiting) (t t' : Tracing) → ((b : ℕ) → IsHeld batch b → (a ≡ b) ⊎ IsHeld rest b) → t'.words ≡ heap_words image → IsSteady t' → has t.marked a ≡ true
        → is_unsound image a ≡ false → Grows (refers_to image a) t t' → Follows a t t' → IsUnderway image roots before limit batch t → IsUnderway image roots before limit rest t'
    underway_next a batch rest t t' split are steady' here sound grown follows underway =
        let kept : (b : ℕ) → has t.marked b ≡ true → has t'.marked b ≡ true = λ b h. grown.marks b ∙ or_left (has t.marked b) (refers_to image a b) h in
        let done : IsFollowed image t'.marked a = record { sound = sound; targets = λ b l refers. grown.marks b ∙ or_right (has t.marked b) (refers_to image a b) refers } in
        let old-waits : t'.complete ≡ true → (b : ℕ) → b < limit → has t.marked b ≡ true → (before b ≡ true) ⊎ Contains t'.stack.items b ⊎ IsFollowed image t'.marked b ⊎ IsHeld rest b =
        λ complete b l h. elim (underway.waiting (grown.complete complete) b l h) [
          | inl was ↦ inl was
          | inr (inl waits) ↦ inr (inl (grown.stacked b waits))
          | inr (inr (inl one)) ↦ inr (inr (inl (followed_still image t.marked t'.marked b kept one)))
          | inr (inr (inr held)) ↦ elim (split b held) [
            | inl is ↦ inr (inr (inl (subst (λ c. IsFollowed image t'.marked c) is done)))
            | inr still ↦ inr (inr (inr still))
          ]
        ] in
        record {
          kept = λ b h. kept b (underway.kept b h);
          reached = λ passes from_roots from_objects from_before b h. elim (or_cases (has t.marked b) (refers_to image a b) (sym (grown.marks b) ∙ h)) [
            | inl old ↦ underway.reached passes from_roots from_objects from_before b old
            | inr refers ↦ from_objects a b (underway.reached passes from_roots from_objects from_before a here) refers (inside t' are steady' b h)
          ];
          started = λ b l root. kept b (underway.started b l root);
          followed = λ b h. elim (or_cases (has t.followed b) (eqb a b) (sym (follows b) ∙ h)) [
            | inl old ↦ elim (underway.followed b old) [
              | inl was ↦ inl was
              | inr one ↦ inr (followed_still image t.marked t'.marked b kept one)
            ]
            | inr is ↦ inr (subst (λ c. IsFollowed image t'.marked c) (eqb-true a b is) done)
          ];
          waiting = λ complete b l h. elim (or_cases (has t.marked b) (refers_to image a b) (sym (grown.marks b) ∙ h)) [
            | inl old ↦ old-waits complete b l old
            | inr refers ↦ elim (grown.pending complete b refers) [
              | inr waits ↦ inr (inl waits)
              | inl old ↦ old-waits complete b l old
            ]
          ];
        }

    -- where it stops at an object
    pub underway_stops : (batch : List Waiting) (t t' : Tracing) → Stops t t' → IsUnderway image roots before limit batch t → IsUnderway image roots before limit [] t'
    underway_stops batch t t' stops underway = record {
      kept = λ b h. subst (λ bs. has bs b ≡ true) (sym stops.marked) (underway.kept b h);
      reached = λ passes from_roots from_objects from_before b h. underway.reached passes from_roots from_objects from_before b (subst (λ bs. has bs b ≡ true) stops.marked h);
      started = λ b l root. subst (λ bs. has bs b ≡ true) (sym stops.marked) (underway.started b l root);
      followed = λ b h. elim (underway.followed b (subst (λ bs. has bs b ≡ true) stops.followed h)) [
        | inl was ↦ inl was
        | inr one ↦ inr (subst (λ bs. IsFollowed image bs b) (sym stops.marked) one)
      ];
      waiting = λ complete. absurd (false≢true (sym stops.incomplete ∙ complete));
    }

    -- with objects taken from the stack
    pub underway_taken : (batch : List Waiting) (t t' : Tracing) → Takes image t t' batch → IsUnderway image roots before limit [] t → IsUnderway image roots before limit batch t'
    underway_taken batch t t' takes underway = record {
      kept = λ b h. subst (λ bs. has bs b ≡ true) (sym takes.marked) (underway.kept b h);
      reached = λ passes from_roots from_objects from_before b h. underway.reached passes from_roots from_objects from_before b (subst (λ bs. has bs b ≡ true) takes.marked h);
      started = λ b l root. subst (λ bs. has bs b ≡ true) (sym takes.marked) (underway.started b l root);
      followed = λ b h. elim (underway.followed b (subst (λ bs. has bs b ≡ true) takes.followed h)) [
        | inl was ↦ inl was
        | inr one ↦ inr (subst (λ bs. IsFollowed image bs b) (sym takes.marked) one)
      ];
      waiting = λ complete b l h. elim (underway.waiting (sym takes.complete ∙ complete) b l (subst (λ bs. has bs b ≡ true) takes.marked h)) [
        | inl was ↦ inl was
        | inr (inl waits) ↦ elim (takes.moved b waits) [
          | inl still ↦ inr (inl still)
          | inr held ↦ inr (inr (inr held))
        ]
        | inr (inr (inl one)) ↦ inr (inr (inl (subst (λ bs. IsFollowed image bs b) (sym takes.marked) one)))
        | inr (inr (inr held)) ↦ absurd (held_none b held)
      ];
    }

    -- nothing is known of the stack
    pub underway_anew : (t : Tracing) → IsUnderway image roots before limit [] t → IsUnderway image roots before 0 [] (record t { complete = true })
    underway_anew t underway = record {
      kept = underway.kept;
      reached = underway.reached;
      started = underway.started;
      followed = underway.followed;
      waiting = λ complete a l h. let never : ⊥ = omega arith in absurd never;
    }

    -- below a lower limit
    pub underway_below : (lower : ℕ) (t : Tracing) → lower ≤ limit → IsUnderway image roots before limit [] t → IsUnderway image roots before lower [] t
    underway_below lower t low underway = record {
      kept = underway.kept;
      reached = underway.reached;
      started = underway.started;
      followed = underway.followed;
      waiting = λ complete a l h. underway.waiting complete a (omega arith) h;
    }

  module _ (before : ℕ → Bool) (i : ℕ) where
    in_word : (a : ℕ) → a < 64 * (i + 1) → 64 * i ≤ a → a / 64 ≡ i
    in_word a high low = omega arith

    -- with a word of addresses pushed
    pub underway_word : (t t' : Tracing) → PushesWord i t t' → IsUnderway image roots before (64 * i) [] t → IsUnderway image roots before (64 * (i + 1)) [] t'
    underway_word t t' pushes underway = record {
      kept = λ b h. subst (λ bs. has bs b ≡ true) (sym pushes.marked) (underway.kept b h);
      reached = λ passes from_roots from_objects from_before b h. underway.reached passes from_roots from_objects from_before b (subst (λ bs. has bs b ≡ true) pushes.marked h);
      started = λ b l root. subst (λ bs. has bs b ≡ true) (sym pushes.marked) (underway.started b l root);
      followed = λ b h. old-followed b (subst (λ bs. has bs b ≡ true) pushes.followed h);
      waiting = λ complete b l h. elim (cases_lt b (64 * i)) [
        | inl low ↦ elim (underway.waiting (pushes.complete complete) b low (subst (λ bs. has bs b ≡ true) pushes.marked h)) [
          | inl was ↦ inl was
          | inr (inl waits) ↦ inr (inl (pushes.stacked b waits))
          | inr (inr (inl one)) ↦ inr (inr (inl (subst (λ bs. IsFollowed image bs b) (sym pushes.marked) one)))
          | inr (inr (inr held)) ↦ inr (inr (inr held))
        ]
        | inr high ↦ elim (pushes.pending complete b (in_word b l high) (subst (λ bs. has bs b ≡ true) pushes.marked h)) [
          | inr waits ↦ inr (inl waits)
          | inl done ↦ elim (old-followed b done) [
            | inl was ↦ inl was
            | inr one ↦ inr (inr (inl one))
          ]
        ]
      ];
    }
      where
        old-followed : (b : ℕ) → has t.followed b ≡ true → (before b ≡ true) ⊎ IsFollowed image t'.marked b
        old-followed b h = elim (underway.followed b h) [
          | inl was ↦ inl was
          | inr one ↦ inr (subst (λ bs. IsFollowed image bs b) (sym pushes.marked) one)
        ]

    -- where each marked address of the word was followed
    pub underway_past : (t : Tracing) → get_or t.marked i 0 ≡ get_or t.followed i 0 → IsUnderway image roots before (64 * i) [] t → IsUnderway image roots before (64 * (i + 1)) [] t
    underway_past t same underway = record {
      kept = underway.kept;
      reached = underway.reached;
      started = underway.started;
      followed = underway.followed;
      waiting = λ complete b l h. elim (cases_lt b (64 * i)) [
        | inl low ↦ underway.waiting complete b low h
        | inr high ↦
            let there : has t.marked b ≡ has t.followed b = by_word b (in_word b l high) in
            elim (underway.followed b (sym there ∙ h)) [
              | inl was ↦ inl was
              | inr one ↦ inr (inr (inl one))
            ]
      ];
    }
      where
        by_word : (b : ℕ) → b / 64 ≡ i → has t.marked b ≡ has t.followed b
        by_word b e = ap (λ j. eqb (bit_at (get_or t.marked j 0) (b % 64)) 1) e ∙ ap (λ w. eqb (bit_at w (b % 64)) 1) same ∙ ap (λ j. eqb (bit_at (get_or t.followed j 0) (b % 64)) 1) (sym e)

-- with one address more followed, the others are still
pub follows_kept : (a : ℕ) (t t' : Tracing) → Follows a t t' → (b : ℕ) → has t.followed b ≡ true → has t'.followed b ≡ true
follows_kept a t t' follows b h = follows b ∙ or_left (has t.followed b) (eqb a b) h

-- an incomplete stack says nothing below any limit
pub underway_incomplete : (image : HeapImage) (roots : List ℕ) (before : ℕ → Bool) (limit other : ℕ) (t : Tracing) → t.complete ≡ false → IsUnderway image roots before limit [] t → IsUnderway image roots before other [] t
underway_incomplete image roots before limit other t incomplete underway = record {
  kept = underway.kept;
  reached = underway.reached;
  started = underway.started;
  followed = underway.followed;
  waiting = λ complete. absurd (false≢true (sym incomplete ∙ complete));
}
