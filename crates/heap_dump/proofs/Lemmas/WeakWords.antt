-- Heaps that differ in the words of weak references alone.
use Rattle.std.proofs.Common.{◌≡◌, ◌≢◌, ℕ, zero, suc, ◌+◌, ◌-◌, ◌*◌, ◌<◌, ◌≤◌, List, [], ◌∷◌, ◌++◌, length, length-append, length-set, get_or, set, take, refl, sym, ◌∙◌, ap, subst, All, arith}
use Rattle.std.specs.Prelude.{map}
use Rattle.std.specs.List.{concat}
use Rattle.std.proofs.lemmas.List.{get_or-set_other, map-append, set-append_left, set-append_right, take_all, take_more}
use Rattle.std.proofs.lemmas.List.Elements.{All-head, All-push, All-tail}
use Rattle.dump_objects.specs.declared.heap.weak_reference.WeakReference.{WeakReference}
use Rattle.heap_dump.specs.Weak.{AreNull, DifferOnlyAt, slots_of}

-- a word that is set in a block, and in the blocks joined
pub concat_set : (r : ℕ) (blocks : List (List ℕ)) → All (λ block. length block ≡ r) blocks → (i j w : ℕ) → i < length blocks → j < r
    → concat (set blocks i (set (get_or blocks i []) j w)) ≡ set (concat blocks) (i * r + j) w
concat_set r [] same i j w l m = let no : ⊥ = omega arith in absurd no
concat_set r (b ∷ blocks) same zero j w l m =
    let one : length b ≡ r = All-head (λ block. length block ≡ r) b blocks same in
    let at : j ≡ 0 * r + j = omega arith in
    sym (set-append_left b (concat blocks) j w (omega (arith, one, m))) ∙ ap (λ n. set (b ++ concat blocks) n w) at
concat_set r (b ∷ blocks) same (suc i) j w l m =
    let one : length b ≡ r = All-head (λ block. length block ≡ r) b blocks same in
    let behind : suc i * r + j - r ≡ i * r + j = omega arith in
    ap (λ xs. b ++ xs) (concat_set r blocks (All-tail (λ block. length block ≡ r) b blocks same) i j w (omega arith) m)
    ∙ ap (λ n. b ++ set (concat blocks) n w) (sym behind)
    ∙ sym (set-append_right b (concat blocks) r (suc i * r + j) w one (omega arith))

pub differ_one : (words : List ℕ) (a w : ℕ) → DifferOnlyAt (a ∷ []) words (set words a w)
differ_one words a w = record {
  same_length = length-set words a w;
  others = λ b apart. get_or-set_other words a b w 0 (λ same. All-head (λ slot. slot ≢ b) a [] apart (sym same));
}

pub differ_none : (slots words : List ℕ) → DifferOnlyAt slots words words
differ_none slots words = record { same_length = refl; others = λ a apart. refl }

-- the first of more slots, and the last
first_apart : (a : ℕ) (slots : List ℕ) (slot : ℕ) → All (λ s. s ≢ a) (slots ++ slot ∷ []) → All (λ s. s ≢ a) slots
first_apart a [] slot apart = λ k d l. absurd (omega arith)
first_apart a (s ∷ slots) slot apart =
    All-cons' s slots (All-head (λ s. s ≢ a) s (slots ++ slot ∷ []) apart) (first_apart a slots slot (All-tail (λ s. s ≢ a) s (slots ++ slot ∷ []) apart))
  where
    All-cons' : (s : ℕ) (slots : List ℕ) → s ≢ a → All (λ s. s ≢ a) slots → All (λ s. s ≢ a) (s ∷ slots)
    All-cons' s slots here rest zero d l = here
    All-cons' s slots here rest (suc k) d l = rest k d (omega (arith, l))

last_apart : (a : ℕ) (slots : List ℕ) (slot : ℕ) → All (λ s. s ≢ a) (slots ++ slot ∷ []) → slot ≢ a
last_apart a [] slot apart = All-head (λ s. s ≢ a) slot [] apart
last_apart a (s ∷ slots) slot apart = last_apart a slots slot (All-tail (λ s. s ≢ a) s (slots ++ slot ∷ []) apart)

-- one word more
differ_more : (slots : List ℕ) (slot : ℕ) (words now then : List ℕ) → DifferOnlyAt slots words now → DifferOnlyAt (slot ∷ []) now then
    → DifferOnlyAt (slots ++ slot ∷ []) words then
differ_more slots slot words now then h more = record {
  same_length = more.same_length ∙ h.same_length;
  others = λ a apart. more.others a (one a (last_apart a slots slot apart)) ∙ h.others a (first_apart a slots slot apart);
}
  where
    one : (a : ℕ) → slot ≢ a → All (λ s. s ≢ a) (slot ∷ [])
    one a here zero d l = here
    one a here (suc k) d l = absurd (omega (arith, l))

module _ (weak : List WeakReference) where
  -- the slots of one reference more
  more_slots : (i : ℕ) (d : WeakReference) → i < length weak → slots_of (take (i + 1) weak) ≡ slots_of (take i weak) ++ (get_or weak i d).slot ∷ []
  more_slots i d below =
      ap slots_of (take_more weak i d below) ∙ map-append (λ reference. reference.slot) (take i weak) (get_or weak i d ∷ [])

  pub put_more : (before : List ℕ) (i : ℕ) (d : WeakReference) (now then : List ℕ) → i < length weak
      → DifferOnlyAt (slots_of (take i weak)) before now → DifferOnlyAt ((get_or weak i d).slot ∷ []) now then
      → DifferOnlyAt (slots_of (take (i + 1) weak)) before then
  put_more before i d now then below h more =
      subst (λ slots. DifferOnlyAt slots before then) (sym (more_slots i d below))
      (differ_more (slots_of (take i weak)) (get_or weak i d).slot before now then h more)

  pub put_all : (before : List ℕ) (i : ℕ) (now : List ℕ) → length weak ≤ i → DifferOnlyAt (slots_of (take i weak)) before now
      → DifferOnlyAt (slots_of weak) before now
  put_all before i now past h = subst (λ xs. DifferOnlyAt (slots_of xs) before now) (take_all i weak past) h

  pub null_more : (words : List ℕ) (i : ℕ) (d : WeakReference) → i < length weak → AreNull (slots_of (take i weak)) words
      → ((get_or weak i d).slot < length words → get_or words (get_or weak i d).slot 0 ≡ 0) → AreNull (slots_of (take (i + 1) weak)) words
  null_more words i d below h null =
      subst (λ slots. AreNull slots words) (sym (more_slots i d below))
      (All-push (λ slot. slot < length words → get_or words slot 0 ≡ 0) (slots_of (take i weak)) (get_or weak i d).slot h null)

  pub null_all : (words : List ℕ) (i : ℕ) → length weak ≤ i → AreNull (slots_of (take i weak)) words → AreNull (slots_of weak) words
  null_all words i past h = subst (λ xs. AreNull (slots_of xs) words) (take_all i weak past) h
