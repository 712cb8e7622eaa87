-- Objects that go from the stack to a batch, and are followed there.
use Rattle.std.proofs.Common.{◌≡◌, ◌⊎◌, ℕ, ◌+◌, ◌/◌, ◌≤◌, ◌<◌, inl, inr, true, List, [], ◌∷◌, ◌++◌, length, get_or, drop, refl, sym, ◌∙◌, ap, subst, arith, eqb}
use Rattle.std.proofs.lemmas.Bool.{eq-eqb, or_right}
use Rattle.std.proofs.lemmas.List.{append-nil, length_push, drop_more}
use Rattle.std.proofs.lemmas.List.Elements.{Contains-get_or, Contains-append_left, Contains-append_cases, Contains-push, Contains-push_cases}
use Rattle.std.specs.Prelude.{Contains}
use Rattle.std.specs.Vec.{vec_capacity}
use Rattle.object_heap.specs.HeapImage.{HeapImage, word_at}
use Rattle.object_heap.specs.Bits.{has}
use Rattle.coded_marking.specs.Tracing.{IsSteady, Follows, IsHeld, IsFetched, AreFetched, Takes}
use Rattle.coded_marking.specs.declared.tracing.Tracing.{Tracing}
use Rattle.coded_marking.specs.declared.waiting.Waiting.{Waiting}
use Rattle.coded_marking.proofs.Lemmas.Underway.{follows_kept}

pub takes_none : (image : HeapImage) (t : Tracing) → Takes image t t []
takes_none image t = record {
  words = refl;
  marked = refl;
  followed = refl;
  complete = refl;
  moved = λ a h. inl h;
  fetched = λ w h. let none = h.1 in let never : ⊥ = omega (arith, none) in absurd never;
  total = omega arith;
}

held_more : (batch : List Waiting) (w : Waiting) (a : ℕ) → IsHeld batch a → IsHeld (batch ++ w ∷ []) a
held_more batch w a held = (held.0, Contains-append_left batch (w ∷ []) held.0 held.1, held.2)

-- one object more is taken from the end of the stack
pub takes_next : (image : HeapImage) (t0 t t' : Tracing) (batch batch' : List Waiting) (w : Waiting) → t'.words ≡ t.words → t'.marked ≡ t.marked → t'.followed ≡ t.followed → t'.complete ≡ t.complete
    → t.stack.items ≡ t'.stack.items ++ w.address ∷ [] → batch' ≡ batch ++ w ∷ [] → has t0.marked w.address ≡ true → w.header ≡ word_at image w.address → Takes image t0 t batch → Takes image t0 t' batch'
takes_next image t0 t t' batch batch' w words marked followed complete popped pushed here header before = record {
  words = words ∙ before.words;
  marked = marked ∙ before.marked;
  followed = followed ∙ before.followed;
  complete = complete ∙ before.complete;
  moved = λ a h. elim (before.moved a h) [
    | inr held ↦ inr (subst (λ ws. IsHeld ws a) (sym pushed) (held_more batch w a held))
    | inl waits ↦ elim (Contains-push_cases t'.stack.items w.address a (subst (λ xs. Contains xs a) popped waits)) [
      | inl still ↦ inl still
      | inr is ↦ inr (subst (λ ws. IsHeld ws a) (sym pushed) (w, Contains-push batch w, is))
    ]
  ];
  fetched = λ v h. elim (Contains-push_cases batch w v (subst (λ ws. Contains ws v) pushed h)) [
    | inl old ↦ before.fetched v old
    | inr is ↦ subst (λ u. IsFetched image t0 u) is (record { marked = here; header = header })
  ];
  total =
      let one = ap length popped ∙ length_push t'.stack.items w.address in
      let two = ap length pushed ∙ length_push batch w in
      let sum = before.total in
      omega (arith, one, two, sum);
}

-- a pop that finds nothing
pub takes_nothing : (image : HeapImage) (t0 t t' : Tracing) (batch : List Waiting) → t'.words ≡ t.words → t'.marked ≡ t.marked → t'.followed ≡ t.followed → t'.complete ≡ t.complete
    → t.stack.items ≡ t'.stack.items ++ [] → Takes image t0 t batch → Takes image t0 t' batch
takes_nothing image t0 t t' batch words marked followed complete popped before =
    let same : t.stack.items ≡ t'.stack.items = popped ∙ append-nil t'.stack.items in
    record {
      words = words ∙ before.words;
      marked = marked ∙ before.marked;
      followed = followed ∙ before.followed;
      complete = complete ∙ before.complete;
      moved = λ a h. elim (before.moved a h) [
        | inr held ↦ inr held
        | inl waits ↦ inl (subst (λ xs. Contains xs a) same waits)
      ];
      fetched = before.fetched;
      total = let one = ap length same in let sum = before.total in omega (arith, one, sum);
    }

contains_cons : (x y : Waiting) (xs : List Waiting) → Contains (x ∷ xs) y → (x ≡ y) ⊎ Contains xs y
contains_cons x y xs h = elim (Contains-append_cases (x ∷ []) xs y h) [
  | inr later ↦ inr later
  | inl first ↦ elim (Contains-push_cases [] x y first) [
    | inr is ↦ inl is
    | inl never ↦ let none = never.1 in let no : ⊥ = omega (arith, none) in absurd no
  ]
]

-- the next object of a batch, and the others
pub held_next : (batch : List Waiting) (j : ℕ) (d : Waiting) → j < length batch → (a : ℕ) → IsHeld (drop j batch) a → ((get_or batch j d).address ≡ a) ⊎ IsHeld (drop (j + 1) batch) a
held_next batch j d l a held = elim (contains_cons (get_or batch j d) held.0 (drop (j + 1) batch) (subst (λ ws. Contains ws held.0) (drop_more batch j d l) held.1)) [
  | inl is ↦ inl (ap (λ (w : Waiting). w.address) is ∙ held.2)
  | inr later ↦ inr (held.0, later, held.2)
]

-- once it is followed
pub followed_next : (batch : List Waiting) (j : ℕ) (d : Waiting) (t t' : Tracing) → j < length batch → Follows (get_or batch j d).address t t'
    → (a : ℕ) → (has t.followed a ≡ true) ⊎ IsHeld (drop j batch) a → (has t'.followed a ≡ true) ⊎ IsHeld (drop (j + 1) batch) a
followed_next batch j d t t' l follows a h = elim h [
  | inl done ↦ inl (follows_kept (get_or batch j d).address t t' follows a done)
  | inr held ↦ elim (held_next batch j d l a held) [
    | inr later ↦ inr later
    | inl is ↦ inl (follows a ∙ or_right (has t.followed a) (eqb (get_or batch j d).address a) (eq-eqb (get_or batch j d).address a is))
  ]
]

-- without the last addresses of the stack
pub steady_popped : (t t1 : Tracing) (last : List ℕ) → t1.words ≡ t.words → t1.marked ≡ t.marked → t1.followed ≡ t.followed → t.stack.items ≡ t1.stack.items ++ last → vec_capacity t1.stack ≡ vec_capacity t.stack
    → IsSteady t → IsSteady t1
steady_popped t t1 last words marked followed popped capacity steady = record {
  few = subst (λ n. n ≤ 68719476736) (sym words) steady.few;
  room = ap length marked ∙ steady.room ∙ ap (λ n. n / 64 + 1) (sym words);
  followed-room = ap length followed ∙ steady.followed-room ∙ ap (λ n. n / 64 + 1) (sym words);
  outside = λ a h. ap (λ bs. has bs a) marked ∙ steady.outside a (subst (λ n. n ≤ a) words h);
  stacked = λ a h. ap (λ bs. has bs a) marked ∙ steady.stacked a (subst (λ xs. Contains xs a) (sym popped) (Contains-append_left t1.stack.items last a h));
  followed = λ a h. ap (λ bs. has bs a) marked ∙ steady.followed a (subst (λ bs. has bs a ≡ true) followed h);
  capacity = subst (λ n. 0 < n) (sym capacity) steady.capacity;
}

-- an object of a batch, where marks are kept
pub fetched_at : (image : HeapImage) (t0 t : Tracing) (batch : List Waiting) (j : ℕ) (d : Waiting) → j < length batch → ((a : ℕ) → has t0.marked a ≡ true → has t.marked a ≡ true) → AreFetched image t0 batch
    → IsFetched image t (get_or batch j d)
fetched_at image t0 t batch j d l kept all =
    let one = all (get_or batch j d) (Contains-get_or batch j d l) in
    record { marked = kept (get_or batch j d).address one.marked; header = one.header }

-- the objects that were taken
pub fetched_taken : (image : HeapImage) (t t' : Tracing) (batch : List Waiting) → Takes image t t' batch → AreFetched image t' batch
fetched_taken image t t' batch takes w h =
    let one = takes.fetched w h in
    record { marked = ap (λ bs. has bs w.address) takes.marked ∙ one.marked; header = one.header }
