-- Marks that grow, and the stack with them.
use Rattle.std.proofs.Common.{◌≡◌, ℕ, ◌+◌, ◌<◌, inl, inr, Bool, true, false, ◌||◌, List, length, refl, sym, ◌∙◌, ap, subst, arith, eqb}
use Rattle.std.proofs.lemmas.Bool.{false≢true, cases_lt, eq-eqb, eqb-true, ne_eqb, or_left, or_right, or_cases}
use Rattle.std.specs.Prelude.{Contains}
use Rattle.object_heap.specs.HeapImage.{leads_to}
use Rattle.object_heap.specs.Bits.{has}
use Rattle.coded_marking.specs.Tracing.{IsSteady, Pushes, Grows, absent}
use Rattle.coded_marking.specs.declared.tracing.Tracing.{Tracing}
use Rattle.coded_marking.proofs.Lemmas.Counts.{absent_lt}

-- what is marked lies in the heap
pub marked_inside : (t : Tracing) → IsSteady t → (a : ℕ) → has t.marked a ≡ true → a < t.words
marked_inside t steady a h = elim (cases_lt a t.words) [
  | inl low ↦ low
  | inr high ↦ absurd (false≢true (sym (steady.outside a high) ∙ h))
]

or_absorbed : (x y : Bool) → (y ≡ true → x ≡ true) → x ≡ (x || y)
or_absorbed true y h = refl
or_absorbed false true h = h refl
or_absorbed false false h = refl

or_assoc : (x y z : Bool) → ((x || y) || z) ≡ (x || (y || z))
or_assoc true y z = refl
or_assoc false y z = refl

-- all targets are marked already
pub grows_none : (targets : ℕ → Bool) (t : Tracing) → ((b : ℕ) → targets b ≡ true → has t.marked b ≡ true) → Grows targets t t
grows_none targets t all = record {
  words = refl;
  marks = λ b. or_absorbed (has t.marked b) (targets b) (all b);
  stacked = λ b h. h;
  complete = λ h. h;
  pending = λ h b is. inl (all b is);
  total = omega arith;
}

one_less : (reference a b : ℕ) → reference ≡ a + 1 → eqb a b ≡ leads_to reference b
one_less reference a b e = elim (cases_lt 0 1) [
  | inl some ↦ same
  | inr none ↦ same
]
  where
    same : eqb a b ≡ eqb reference (b + 1)
    same = by_equal (eqb a b) (eqb reference (b + 1)) (λ h. let is = eqb-true a b h in eq-eqb reference (b + 1) (omega arith)) (λ h. let is = eqb-true reference (b + 1) h in eq-eqb a b (omega arith))
      where
        by_equal : (x y : Bool) → (x ≡ true → y ≡ true) → (y ≡ true → x ≡ true) → x ≡ y
        by_equal true y h k = sym (h refl)
        by_equal false true h k = k refl
        by_equal false false h k = refl

-- the one target is marked and pushed
pub grows_push : (reference a : ℕ) (t : Tracing) (bits : List ℕ) (t' : Tracing) → reference ≡ a + 1 → a < t.words → has t.marked a ≡ false
    → ((k : ℕ) → has bits k ≡ (has t.marked k || eqb a k)) → Pushes a (record t { marked = bits }) t' → Grows (leads_to reference) t t'
grows_push reference a t bits t' e low clear set pushed =
    let same : (k : ℕ) → has t'.marked k ≡ (has t.marked k || leads_to reference k) =
    λ k. ap (λ bs. has bs k) pushed.marked ∙ set k ∙ ap (λ x. has t.marked k || x) (one_less reference a k e) in
    let kept : (k : ℕ) → has t.marked k ≡ true → has bits k ≡ true = λ k h. set k ∙ or_left (has t.marked k) (eqb a k) h in
    record {
      words = pushed.words;
      marks = same;
      stacked = pushed.stacked;
      complete = λ h. (pushed.pending h).0;
      pending = λ h b is. inr (let here : a ≡ b = (let one = eqb-true reference (b + 1) is in omega arith) in subst (λ c. Contains t'.stack.items c) here (pushed.pending h).1);
      total =
          let less : absent t.words bits < absent t.words t.marked = absent_lt t.words a t.marked bits low clear (set a ∙ or_right (has t.marked a) (eqb a a) (eq-eqb a a refl)) kept in
          let is : absent t'.words t'.marked ≡ absent t.words bits = ap (λ n. absent n t'.marked) pushed.words ∙ ap (λ bs. absent t.words bs) pushed.marked in
          let few = pushed.few in
          omega arith;
    }

-- one growth after another
pub grows_more : (first second both : ℕ → Bool) (t0 t1 t2 : Tracing) → ((b : ℕ) → both b ≡ (first b || second b)) → Grows first t0 t1 → Grows second t1 t2 → Grows both t0 t2
grows_more first second both t0 t1 t2 e one two = record {
  words = two.words ∙ one.words;
  marks = λ b. two.marks b ∙ ap (λ x. x || second b) (one.marks b) ∙ or_assoc (has t0.marked b) (first b) (second b) ∙ ap (λ x. has t0.marked b || x) (sym (e b));
  stacked = λ b h. two.stacked b (one.stacked b h);
  complete = λ h. one.complete (two.complete h);
  pending = λ h b is. elim (or_cases (first b) (second b) (sym (e b) ∙ is)) [
    | inl f ↦ elim (one.pending (two.complete h) b f) [
      | inl old ↦ inl old
      | inr waits ↦ inr (two.stacked b waits)
    ]
    | inr s ↦ elim (two.pending h b s) [
      | inr waits ↦ inr waits
      | inl held ↦ elim (or_cases (has t0.marked b) (first b) (sym (one.marks b) ∙ held)) [
        | inl old ↦ inl old
        | inr f ↦ elim (one.pending (two.complete h) b f) [
          | inl old ↦ inl old
          | inr waits ↦ inr (two.stacked b waits)
        ]
      ]
    ]
  ];
  total = let first = one.total in let second = two.total in omega arith;
}

-- the same growth under a test that agrees
pub grows_as : (first second : ℕ → Bool) (t t' : Tracing) → ((b : ℕ) → second b ≡ first b) → Grows first t t' → Grows second t t'
grows_as first second t t' e one = record {
  words = one.words;
  marks = λ b. one.marks b ∙ ap (λ x. has t.marked b || x) (sym (e b));
  stacked = one.stacked;
  complete = one.complete;
  pending = λ h b is. one.pending h b (sym (e b) ∙ is);
  total = one.total;
}

-- with a mark more
pub steady_insert : (t : Tracing) (a : ℕ) (bits : List ℕ) → IsSteady t → a < t.words → length bits ≡ length t.marked → ((k : ℕ) → has bits k ≡ (has t.marked k || eqb a k))
    → IsSteady (record t { marked = bits })
steady_insert t a bits steady low room set = record {
  few = steady.few;
  room = room ∙ steady.room;
  followed-room = steady.followed-room;
  outside = λ b high. set b ∙ ap (λ x. x || eqb a b) (steady.outside b high) ∙ ne_eqb a b (λ e. let never : ⊥ = omega arith in never);
  stacked = λ b h. set b ∙ or_left (has t.marked b) (eqb a b) (steady.stacked b h);
  followed = λ b h. set b ∙ or_left (has t.marked b) (eqb a b) (steady.followed b h);
  capacity = steady.capacity;
}

-- with a marked address more that is followed
pub steady_follow : (t : Tracing) (a : ℕ) (bits : List ℕ) → IsSteady t → has t.marked a ≡ true → length bits ≡ length t.followed → ((k : ℕ) → has bits k ≡ (has t.followed k || eqb a k))
    → IsSteady (record t { followed = bits })
steady_follow t a bits steady here room set = record {
  few = steady.few;
  room = steady.room;
  followed-room = room ∙ steady.followed-room;
  outside = steady.outside;
  stacked = steady.stacked;
  followed = λ b h. elim (or_cases (has t.followed b) (eqb a b) (sym (set b) ∙ h)) [
    | inl old ↦ steady.followed b old
    | inr is ↦ subst (λ c. has t.marked c ≡ true) (eqb-true a b is) here
  ];
  capacity = steady.capacity;
}

-- the same growth, whatever is followed
pub grows_beside : (targets : ℕ → Bool) (t : Tracing) (bits : List ℕ) (t' : Tracing) → Grows targets (record t { followed = bits }) t' → Grows targets t t'
grows_beside targets t bits t' one = record {
  words = one.words;
  marks = one.marks;
  stacked = one.stacked;
  complete = one.complete;
  pending = one.pending;
  total = one.total;
}
