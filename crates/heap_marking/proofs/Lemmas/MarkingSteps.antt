-- What is marked and what waits, step by step.
use Rattle.std.proofs.Common.{◌≡◌, ℕ, zero, suc, ◌+◌, ◌/◌, ◌%◌, ◌≤◌, ◌<◌, inl, inr, Bool, true, false, not, ◌&&◌, ltb, List, [], ◌∷◌, ◌++◌, length, get_or, refl, sym, ◌∙◌, ap, subst, arith, eqb, append_assoc}
use Rattle.std.proofs.lemmas.Bool.{false≢true, and_parts, and_from, ltb-true, lt-ltb}
use Rattle.std.proofs.lemmas.List.{map-append}
use Rattle.std.proofs.lemmas.List.Elements.{All-push, All-append, All-from_get_or, Contains-push, Contains-push_cases, Contains-append_left, Contains-append_right, Contains-append_cases}
use Rattle.std.proofs.lemmas.List.Sums.{count_by-le-length}
use Rattle.std.proofs.lemmas.List.FromFn.{length-range_with_len}
use Rattle.std.proofs.lemmas.Nat.Bits.{bit_at-zero}
use Rattle.std.specs.Int.{bit_at}
use Rattle.std.specs.Prelude.{All, Contains, replicate}
use Rattle.std.specs.List.{list_any, range_with_len}
use Rattle.object_heap.specs.HeapImage.{HeapImage, heap_words, leads_to, refers_to, reachable}
use Rattle.object_heap.specs.Bits.{has}
use Rattle.object_heap.specs.Reachable.{is_listed, IsClosed}
use Rattle.heap_marking.specs.Marking.{unmarked, waiting_addresses, AreStacked, IsWellFormed, IsGrown, IsMarking, AreReached, AreReachedWell}
use Rattle.heap_marking.specs.declared.marking.Waiting.{Waiting}
use Rattle.heap_marking.proofs.Lemmas.Growth.{grown_beside, all_left, all_right}

module _ (image : HeapImage) (roots : List ℕ) where
  -- with the roots marked and put on the stack
  pub marking_first : IsClosed image roots (is_listed (reachable image roots)) → (bits new_bits stack : List ℕ) (well_formed : Bool) → length bits ≡ heap_words image / 64 + 1 → ((a : ℕ) → has bits a ≡ false)
      → IsGrown (heap_words image) (λ b. list_any (λ w. leads_to w b) roots) bits new_bits [] stack → IsMarking image roots new_bits stack well_formed
  marking_first closed bits new_bits stack well_formed room clear grown =
      record {
        room = grown.room ∙ room;
        inside = grown.inside (λ k d l. let no : ⊥ = omega arith in absurd no);
        reached = λ a l h. elim (grown.none_else a l h) [
          | inl old ↦ absurd (false≢true (sym (clear a) ∙ old))
          | inr root ↦ closed.from_roots a l root
        ];
        outside = λ a l. grown.outside a l ∙ clear a;
        started = grown.all;
        followed = λ a l h. elim (grown.pending a l h) [
          | inl old ↦ absurd (false≢true (sym (clear a) ∙ old))
          | inr waits ↦ inl waits
        ];
        formed = λ said a l h. elim (grown.pending a l h) [
          | inl old ↦ absurd (false≢true (sym (clear a) ∙ old))
          | inr waits ↦ inl waits
        ];
      }

  -- what is said once the object at a is followed, and was said before
  abbrev pub IsNoted : ℕ → Bool → Bool → Type 0
  IsNoted a well_formed new_well_formed = new_well_formed ≡ true → (well_formed ≡ true) × IsWellFormed image a

  -- once the object that was last on the stack is followed
  pub marking_next : IsClosed image roots (is_listed (reachable image roots)) → (a : ℕ) (bits new_bits stack rest new_stack : List ℕ) (well_formed new_well_formed : Bool) → stack ≡ rest ++ a ∷ [] → IsMarking image roots bits stack well_formed
      → IsGrown (heap_words image) (refers_to image a) bits new_bits rest new_stack → IsNoted a well_formed new_well_formed → IsMarking image roots new_bits new_stack new_well_formed
  marking_next closed a bits new_bits stack rest new_stack well_formed new_well_formed popped marking grown noted =
      let all : AreStacked (heap_words image) bits (rest ++ a ∷ []) = subst (AreStacked (heap_words image) bits) popped marking.inside in
      let last : (a < heap_words image) × (has bits a ≡ true) = All-last rest a all in
      let before : AreStacked (heap_words image) bits rest = All-front rest a all in
      record {
        room = grown.room ∙ marking.room;
        inside = grown.inside before;
        reached = λ b l h. elim (grown.none_else b l h) [
          | inl old ↦ marking.reached b l old
          | inr refers ↦ closed.from_objects a b (marking.reached a last.0 last.1) refers l
        ];
        outside = λ b l. grown.outside b l ∙ marking.outside b l;
        started = λ b l h. grown.kept b l (marking.started b l h);
        followed = λ b l h. elim (grown.pending b l h) [
          | inr waits ↦ inl waits
          | inl old ↦ elim (marking.followed b l old) [
            | inr done ↦ inr (λ c m refers. grown.kept c m (done c m refers))
            | inl waits ↦ elim (Contains-push_cases rest a b (subst (λ xs. Contains xs b) popped waits)) [
              | inl still ↦ inl (grown.stacked b still)
              | inr here ↦ inr (λ c m refers. grown.all c m (subst (λ x. refers_to image x c ≡ true) (sym here) refers))
            ]
          ]
        ];
        formed = λ said b l h. elim (grown.pending b l h) [
          | inr waits ↦ inl waits
          | inl old ↦ elim (marking.formed (noted said).0 b l old) [
            | inr good ↦ inr good
            | inl waits ↦ elim (Contains-push_cases rest a b (subst (λ xs. Contains xs b) popped waits)) [
              | inl still ↦ inl (grown.stacked b still)
              | inr here ↦ inr (subst (IsWellFormed image) here (noted said).1)
            ]
          ]
        ];
      }
    where
      All-last : (xs : List ℕ) (x : ℕ) → AreStacked (heap_words image) bits (xs ++ x ∷ []) → (x < heap_words image) × (has bits x ≡ true)
      All-last xs x h =
          let c = Contains-push xs x in
          subst (λ y. (y < heap_words image) × (has bits y ≡ true)) c.2 (h c.0 x c.1)

      All-front : (xs : List ℕ) (x : ℕ) → AreStacked (heap_words image) bits (xs ++ x ∷ []) → AreStacked (heap_words image) bits xs
      All-front xs x h = All-from_get_or (λ y. (y < heap_words image) × (has bits y ≡ true)) xs 0 (λ i l.
          let c = Contains-append_left xs (x ∷ []) (get_or xs i 0) (i, l, default_at xs i l) in
          subst (λ y. (y < heap_words image) × (has bits y ≡ true)) c.2 (h c.0 (get_or xs i 0) c.1))
        where
          default_at : (ys : List ℕ) (i : ℕ) → i < length ys → get_or ys i (get_or ys i 0) ≡ get_or ys i 0
          default_at [] i l = let no : ⊥ = omega arith in absurd no
          default_at (y ∷ ys) zero l = refl
          default_at (y ∷ ys) (suc i) l = default_at ys i (omega arith)

  -- whether an address is in the heap and marked
  passes : List ℕ → ℕ → Bool
  passes bits a = ltb a (heap_words image) && has bits a

  in_heap : (bits : List ℕ) (a : ℕ) → passes bits a ≡ true → (a < heap_words image) × (has bits a ≡ true)
  unfolding passes
  in_heap bits a h = let p = and_parts (ltb a (heap_words image)) (has bits a) h in (ltb-true a (heap_words image) p.0, p.1)

  passing : (bits : List ℕ) (a : ℕ) → a < heap_words image → has bits a ≡ true → passes bits a ≡ true
  unfolding passes
  passing bits a l h = and_from (ltb a (heap_words image)) (has bits a) (lt-ltb a (heap_words image) l) h

  waits_not : {A : Type 0} → (a : ℕ) → Contains [] a → A
  waits_not a c = let l = c.1 in let no : ⊥ = omega arith in absurd no

  closed : (bits : List ℕ) (well_formed : Bool) → IsMarking image roots bits [] well_formed → IsClosed image roots (passes bits)
  closed bits well_formed marking = record {
    from_roots = λ b l h. passing bits b l (marking.started b l h);
    from_objects = λ a b h refers l.
        let at = in_heap bits a h in
        elim (marking.followed a at.0 at.1) [
          | inl waits ↦ waits_not a waits
          | inr done ↦ passing bits b l (done b l refers)
        ];
  }

  both_ways : (x y : Bool) → (x ≡ true → y ≡ true) → (y ≡ true → x ≡ true) → x ≡ y
  both_ways true y h k = sym (h refl)
  both_ways false true h k = k refl
  both_ways false false h k = refl

  -- what passes a closed test has all reachable addresses
  abbrev pub IsLeast : Type 0
  IsLeast = (passes : ℕ → Bool) → IsClosed image roots passes → (b : ℕ) → is_listed (reachable image roots) b ≡ true → passes b ≡ true

  -- with nothing on the stack
  pub marking_last : IsLeast → (bits : List ℕ) (well_formed : Bool) → IsMarking image roots bits [] well_formed → AreReached image roots bits
  marking_last least bits well_formed marking = record {
    room = marking.room;
    outside = marking.outside;
    marked = λ a l. both_ways (has bits a) (is_listed (reachable image roots) a) (marking.reached a l)
        (λ h. (in_heap bits a (least (passes bits) (closed bits well_formed marking) a h)).1);
  }

  pub marking_last-well : IsLeast → (bits : List ℕ) (well_formed : Bool) → IsMarking image roots bits [] well_formed → well_formed ≡ true → AreReachedWell image roots
  marking_last-well least bits well_formed marking said a l h =
      let at = in_heap bits a (least (passes bits) (closed bits well_formed marking) a h) in
      elim (marking.formed said a l at.1) [
        | inl waits ↦ waits_not a waits
        | inr good ↦ good
      ]

-- ---- the same, as the code has it

pub unmarked_few : (words : ℕ) (bits : List ℕ) → unmarked words bits ≤ words
unmarked_few words bits = omega (arith, count_by-le-length (λ a. not (has bits a)) (range_with_len 0 words), length-range_with_len 0 words)

-- the last of the stack
pub stacked_last : (words : ℕ) (bits stack rest : List ℕ) (a : ℕ) → stack ≡ rest ++ a ∷ [] → AreStacked words bits stack → a < words
stacked_last words bits stack rest a popped h =
    let c = Contains-push rest a in
    (subst (λ y. (y < words) × (has bits y ≡ true)) c.2 (subst (AreStacked words bits) popped h c.0 a c.1)).0

pub none_left : {X : Type 0} (xs : List X) → length xs ≡ 0 → xs ≡ []
none_left [] e = refl
none_left (x ∷ xs) e = let no : ⊥ = omega arith in absurd no

module _ (image : HeapImage) (roots : List ℕ) (words : ℕ) (are : words ≡ heap_words image) where
  pub marking_begins : IsClosed image roots (is_listed (reachable image roots)) → (bits new_bits start stack : List ℕ) (well_formed : Bool) → start ≡ [] → length bits ≡ words / 64 + 1 → ((a : ℕ) → has bits a ≡ false)
      → IsGrown words (λ b. list_any (λ w. leads_to w b) roots) bits new_bits start stack → IsMarking image roots new_bits stack well_formed
  marking_begins closed bits new_bits start stack well_formed empty room clear grown =
      marking_first image roots closed bits new_bits stack well_formed (room ∙ ap (λ n. n / 64 + 1) are) clear
      (subst (λ n. IsGrown n (λ b. list_any (λ w. leads_to w b) roots) bits new_bits [] stack) are (subst (λ xs. IsGrown words (λ b. list_any (λ w. leads_to w b) roots) bits new_bits xs stack) empty grown))

get_or-zeros : (n i : ℕ) → get_or {A = ℕ} (replicate n 0) i 0 ≡ 0
get_or-zeros zero i = refl
get_or-zeros (suc n) zero = refl
get_or-zeros (suc n) (suc i) = get_or-zeros n i

pub clear_bits : (bits : List ℕ) (n : ℕ) → bits ≡ replicate n 0 → (a : ℕ) → has bits a ≡ false
clear_bits bits n e a =
    ap (λ xs. has xs a) e ∙ ap (λ w. eqb (bit_at w (a % 64)) 1) (get_or-zeros n (a / 64)) ∙ ap (λ b. eqb b 1) (bit_at-zero (a % 64))

-- ---- a batch of the addresses that wait

module _ (image : HeapImage) (roots : List ℕ) where
  -- it does not matter where an address waits
  pub marking_waits : (bits pending pending' : List ℕ) (well_formed : Bool) → ((a : ℕ) → Contains pending a → Contains pending' a) → AreStacked (heap_words image) bits pending'
      → IsMarking image roots bits pending well_formed → IsMarking image roots bits pending' well_formed
  marking_waits bits pending pending' well_formed moved inside marking = record {
    room = marking.room;
    inside = inside;
    reached = marking.reached;
    outside = marking.outside;
    started = marking.started;
    followed = λ a l h. elim (marking.followed a l h) [
      | inl waits ↦ inl (moved a waits)
      | inr done ↦ inr done
    ];
    formed = λ said a l h. elim (marking.formed said a l h) [
      | inl waits ↦ inl (moved a waits)
      | inr good ↦ inr good
    ];
  }

  -- an address that may stand on the stack
  abbrev stacked : List ℕ → ℕ → Type 0
  stacked bits c = (c < heap_words image) × (has bits c ≡ true)

  -- an address goes from the end of the stack to the end of a batch
  pub batch_taken : (a : ℕ) (bits stack rest batch batch' : List ℕ) (well_formed : Bool) → stack ≡ rest ++ a ∷ [] → batch' ≡ batch ++ a ∷ []
      → IsMarking image roots bits (stack ++ batch) well_formed → IsMarking image roots bits (rest ++ batch') well_formed
  batch_taken a bits stack rest batch batch' well_formed popped pushed marking =
      let here : AreStacked (heap_words image) bits (rest ++ a ∷ []) = subst (AreStacked (heap_words image) bits) popped (all_left (stacked bits) stack batch marking.inside) in
      let there : AreStacked (heap_words image) bits batch = all_right (stacked bits) stack batch marking.inside in
      let last : stacked bits a = (let c = Contains-push rest a in subst (stacked bits) c.2 (here c.0 a c.1)) in
      marking_waits bits (stack ++ batch) (rest ++ batch') well_formed
      (λ b h. elim (Contains-append_cases stack batch b h) [
        | inr later ↦ Contains-append_right rest batch' b (subst (λ xs. Contains xs b) (sym pushed) (Contains-append_left batch (a ∷ []) b later))
        | inl waits ↦ elim (Contains-push_cases rest a b (subst (λ xs. Contains xs b) popped waits)) [
          | inl still ↦ Contains-append_left rest batch' b still
          | inr moved ↦ Contains-append_right rest batch' b (subst (λ xs. Contains xs b) (sym pushed) (subst (λ c. Contains (batch ++ a ∷ []) c) moved (Contains-push batch a)))
        ]
      ])
      (All-append (stacked bits) rest batch' (all_left (stacked bits) rest (a ∷ []) here) (subst (λ xs. AreStacked (heap_words image) bits xs) (sym pushed) (All-push (stacked bits) batch a there last)))
      marking

  -- the last address of a batch is followed
  pub batch_followed : IsClosed image roots (is_listed (reachable image roots)) → (words a : ℕ) (bits new_bits stack new_stack batch rest : List ℕ) (well_formed new_well_formed : Bool) → words ≡ heap_words image → batch ≡ rest ++ a ∷ []
      → IsMarking image roots bits (stack ++ batch) well_formed → IsGrown words (refers_to image a) bits new_bits stack new_stack → IsNoted image roots a well_formed new_well_formed
      → IsMarking image roots new_bits (new_stack ++ rest) new_well_formed
  batch_followed closed words a bits new_bits stack new_stack batch rest well_formed new_well_formed are last marking grown noted =
      marking_next image roots closed a bits new_bits (stack ++ batch) (stack ++ rest) (new_stack ++ rest) well_formed new_well_formed (ap (λ xs. stack ++ xs) last ∙ sym (append_assoc stack rest (a ∷ []))) marking
      (grown_beside (heap_words image) (refers_to image a) bits new_bits stack new_stack rest (subst (λ n. IsGrown n (refers_to image a) bits new_bits stack new_stack) are grown))
      noted

-- the addresses of a batch with one object more
pub addresses_push : (batch rest : List Waiting) (w : Waiting) → batch ≡ rest ++ w ∷ [] → waiting_addresses batch ≡ waiting_addresses rest ++ w.address ∷ []
addresses_push batch rest w e = ap waiting_addresses e ∙ map-append (λ (x : Waiting). x.address) rest (w ∷ [])

-- the addresses of a batch are below the number of words
pub batch_inside : (image : HeapImage) (roots : List ℕ) (words : ℕ) → words ≡ heap_words image → (bits stack batch : List ℕ) (well_formed : Bool) → IsMarking image roots bits (stack ++ batch) well_formed → All (λ a. a < words) batch
batch_inside image roots words are bits stack batch well_formed marking = λ k d l.
    let low = (all_right (λ a. (a < heap_words image) × (has bits a ≡ true)) stack batch marking.inside k d l).0 in
    omega arith
