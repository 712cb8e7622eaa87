-- Marks that grow, and the stack with them.
use Rattle.std.proofs.Common.{◌≡◌, ℕ, zero, suc, ◌+◌, ◌-◌, ◌≤◌, ◌<◌, inl, inr, Bool, true, false, cond, not, ◌||◌, List, [], ◌∷◌, ◌++◌, length, get_or, refl, sym, ◌∙◌, ap, subst, arith, eqb, length-append}
use Rattle.std.proofs.lemmas.Bool.{cases_eq, eq-eqb, eqb-true, ne_eqb, or_left, or_right, or_cases}
use Rattle.std.proofs.lemmas.List.{length_push, get_or_append_left, get_or-append_right}
use Rattle.std.proofs.lemmas.List.Elements.{All-push, All-append, Contains-push, Contains-append_left, Contains-append_right, Contains-append_cases}
use Rattle.std.proofs.lemmas.List.Sums.{sum_by-cons}
use Rattle.std.specs.Prelude.{All, Contains, count_by}
use Rattle.std.specs.List.{range_with_len}
use Rattle.object_heap.specs.HeapImage.{leads_to}
use Rattle.object_heap.specs.Bits.{has}
use Rattle.heap_marking.specs.Marking.{unmarked, AreStacked, IsGrown}

-- ---- counts

count_by-cons : {X : Type 0} (p : X → Bool) (x : X) (xs : List X) → count_by p (x ∷ xs) ≡ cond (p x) 1 0 + count_by p xs
count_by-cons p x xs = sum_by-cons (λ y. cond (p y) 1 0) x xs

count_same : (p q : ℕ → Bool) (from n : ℕ) → ((a : ℕ) → from ≤ a → p a ≡ q a) → count_by p (range_with_len from n) ≡ count_by q (range_with_len from n)
count_same p q from zero h = refl
count_same p q from (suc n) h =
    count_by-cons p from (range_with_len (from + 1) n)
    ∙ ap (λ b. cond {A = ℕ} b 1 0 + count_by p (range_with_len (from + 1) n)) (h from (omega arith))
    ∙ ap (λ c. cond {A = ℕ} (q from) 1 0 + c) (count_same p q (from + 1) n (λ a l. h a (omega arith)))
    ∙ sym (count_by-cons q from (range_with_len (from + 1) n))

-- a test that fails of one number more
pub count_less : (p q : ℕ → Bool) (from n b : ℕ) → from ≤ b → b < from + n → p b ≡ true → q b ≡ false → ((a : ℕ) → (a ≡ b → ⊥) → p a ≡ q a)
    → count_by q (range_with_len from n) + 1 ≡ count_by p (range_with_len from n)
count_less p q from zero b l h one none same = let never : ⊥ = omega arith in absurd never
count_less p q from (suc n) b l h one none same =
    let r : List ℕ = range_with_len (from + 1) n in
    let head_p = count_by-cons p from r in
    let head_q = count_by-cons q from r in
    elim (cases_eq from b) [
      | inl here ↦
          let is_one : cond {A = ℕ} (p from) 1 0 ≡ 1 = ap (λ c. cond {A = ℕ} (p c) 1 0) here ∙ ap (λ t. cond {A = ℕ} t 1 0) one in
          let is_none : cond {A = ℕ} (q from) 1 0 ≡ 0 = ap (λ c. cond {A = ℕ} (q c) 1 0) here ∙ ap (λ t. cond {A = ℕ} t 1 0) none in
          let rest = count_same p q (from + 1) n (λ a m. same a (λ e. let never : ⊥ = omega arith in never)) in
          omega arith
      | inr other ↦
          let head : cond {A = ℕ} (p from) 1 0 ≡ cond (q from) 1 0 = ap (λ t. cond {A = ℕ} t 1 0) (same from other) in
          let rest = count_less p q (from + 1) n b (omega arith) (omega arith) one none same in
          omega arith
    ]

not-same : (x y : Bool) → x ≡ y → not x ≡ not y
not-same x y e = ap not e

or_false : (x y : Bool) → y ≡ false → (x || y) ≡ x
or_false true y h = refl
or_false false y h = h

-- one more address is marked
pub unmarked_less : (words a : ℕ) (bits new_bits : List ℕ) → a < words → has bits a ≡ false → ((k : ℕ) → has new_bits k ≡ (has bits k || eqb a k))
    → unmarked words new_bits + 1 ≡ unmarked words bits
unmarked_less words a bits new_bits l clear set =
    count_less (λ k. not (has bits k)) (λ k. not (has new_bits k)) 0 words a (omega arith) (omega arith)
    (ap not clear)
    (ap not (set a ∙ or_right (has bits a) (eqb a a) (eq-eqb a a refl)))
    (λ k other. ap not (sym (set k ∙ or_false (has bits k) (eqb a k) (ne_eqb a k (λ e. other (sym e))))))

-- ---- growth

-- all targets are marked already
pub grown_same : (words : ℕ) (targets : ℕ → Bool) (bits stack : List ℕ) → ((a : ℕ) → a < words → targets a ≡ true → has bits a ≡ true) → IsGrown words targets bits bits stack stack
grown_same words targets bits stack all = record {
  room = refl;
  kept = λ a l h. h;
  all = all;
  none_else = λ a l h. inl h;
  pending = λ a l h. inl h;
  stacked = λ a h. h;
  outside = λ a l. refl;
  total = refl;
  inside = λ h. h;
}

-- the one target is marked and put on the stack
pub grown_push : (words w a : ℕ) (bits new_bits stack new_stack : List ℕ) → w ≡ a + 1 → a < words → has bits a ≡ false → length new_bits ≡ length bits
    → ((k : ℕ) → has new_bits k ≡ (has bits k || eqb a k)) → new_stack ≡ stack ++ a ∷ [] → IsGrown words (leads_to w) bits new_bits stack new_stack
grown_push words w a bits new_bits stack new_stack e l clear room set pushed =
    let here : has new_bits a ≡ true = set a ∙ or_right (has bits a) (eqb a a) (eq-eqb a a refl) in
    let kept : (k : ℕ) → has bits k ≡ true → has new_bits k ≡ true = λ k h. set k ∙ or_left (has bits k) (eqb a k) h in
    record {
      room = room;
      kept = λ k m h. kept k h;
      all = λ k m h. let same : a ≡ k = (let is = eqb-true w (k + 1) h in omega arith) in subst (λ c. has new_bits c ≡ true) same here;
      none_else = λ k m h. elim (or_cases (has bits k) (eqb a k) (sym (set k) ∙ h)) [
        | inl old ↦ inl old
        | inr new ↦ inr (let is = eqb-true a k new in eq-eqb w (k + 1) (omega arith))
      ];
      pending = λ k m h. elim (or_cases (has bits k) (eqb a k) (sym (set k) ∙ h)) [
        | inl old ↦ inl old
        | inr new ↦ inr (subst (λ xs. Contains xs k) (sym pushed) (subst (λ c. Contains (stack ++ a ∷ []) c) (eqb-true a k new) (Contains-push stack a)))
      ];
      stacked = λ k h. subst (λ xs. Contains xs k) (sym pushed) (Contains-append_left stack (a ∷ []) k h);
      outside = λ k m. set k ∙ or_false (has bits k) (eqb a k) (ne_eqb a k (λ e. let never : ⊥ = omega arith in never));
      total =
          let less = unmarked_less words a bits new_bits l clear set in
          let more : length new_stack ≡ length stack + 1 = ap length pushed ∙ length_push stack a in
          omega arith;
      inside = λ h. subst (AreStacked words new_bits) (sym pushed) (All-push (λ c. (c < words) × (has new_bits c ≡ true)) stack a (λ k d m. let old = h k d m in (old.0, kept (get_or stack k d) old.1)) (l, here));
    }

-- one growth after another
pub grown_more : (words : ℕ) (first second both : ℕ → Bool) (b0 b1 b2 s0 s1 s2 : List ℕ) → ((a : ℕ) → both a ≡ (first a || second a))
    → IsGrown words first b0 b1 s0 s1 → IsGrown words second b1 b2 s1 s2 → IsGrown words both b0 b2 s0 s2
grown_more words first second both b0 b1 b2 s0 s1 s2 e one two = record {
  room = two.room ∙ one.room;
  kept = λ a l h. two.kept a l (one.kept a l h);
  all = λ a l h. elim (or_cases (first a) (second a) (sym (e a) ∙ h)) [
    | inl f ↦ two.kept a l (one.all a l f)
    | inr s ↦ two.all a l s
  ];
  none_else = λ a l h. elim (two.none_else a l h) [
    | inr s ↦ inr (e a ∙ or_right (first a) (second a) s)
    | inl old ↦ elim (one.none_else a l old) [
      | inl older ↦ inl older
      | inr f ↦ inr (e a ∙ or_left (first a) (second a) f)
    ]
  ];
  pending = λ a l h. elim (two.pending a l h) [
    | inr waits ↦ inr waits
    | inl old ↦ elim (one.pending a l old) [
      | inl older ↦ inl older
      | inr waits ↦ inr (two.stacked a waits)
    ]
  ];
  stacked = λ a h. two.stacked a (one.stacked a h);
  outside = λ a l. two.outside a l ∙ one.outside a l;
  total = two.total ∙ one.total;
  inside = λ h. two.inside (one.inside h);
}

-- the same growth under a test that agrees
pub grown_as : (words : ℕ) (first second : ℕ → Bool) (b0 b1 s0 s1 : List ℕ) → ((a : ℕ) → second a ≡ first a) → IsGrown words first b0 b1 s0 s1 → IsGrown words second b0 b1 s0 s1
grown_as words first second b0 b1 s0 s1 e one = record {
  room = one.room;
  kept = one.kept;
  all = λ a l h. one.all a l (sym (e a) ∙ h);
  none_else = λ a l h. elim (one.none_else a l h) [ inl old ↦ inl old | inr new ↦ inr (e a ∙ new) ];
  pending = one.pending;
  stacked = one.stacked;
  outside = one.outside;
  total = one.total;
  inside = one.inside;
}

pub all_left : (P : ℕ → Type 0) (xs ys : List ℕ) → All P (xs ++ ys) → All P xs
all_left P xs ys h k d l =
    let long = length-append xs ys in
    subst P (get_or_append_left xs ys d k l) (h k d (omega arith))

pub all_right : (P : ℕ → Type 0) (xs ys : List ℕ) → All P (xs ++ ys) → All P ys
all_right P xs ys h k d l =
    let long = length-append xs ys in
    let at : get_or (xs ++ ys) (length xs + k) d ≡ get_or ys (length xs + k - length xs) d = get_or-append_right xs ys (length xs) (length xs + k) d refl (omega arith) in
    let same : length xs + k - length xs ≡ k = omega arith in
    subst P (at ∙ ap (λ n. get_or ys n d) same) (h (length xs + k) d (omega arith))

-- beside addresses that wait elsewhere
pub grown_beside : (words : ℕ) (targets : ℕ → Bool) (b0 b1 s0 s1 rest : List ℕ) → IsGrown words targets b0 b1 s0 s1 → IsGrown words targets b0 b1 (s0 ++ rest) (s1 ++ rest)
grown_beside words targets b0 b1 s0 s1 rest one = record {
  room = one.room;
  kept = one.kept;
  all = one.all;
  none_else = one.none_else;
  pending = λ a l h. elim (one.pending a l h) [
    | inl old ↦ inl old
    | inr waits ↦ inr (Contains-append_left s1 rest a waits)
  ];
  stacked = λ a h. elim (Contains-append_cases s0 rest a h) [
    | inl here ↦ Contains-append_left s1 rest a (one.stacked a here)
    | inr there ↦ Contains-append_right s1 rest a there
  ];
  outside = one.outside;
  total = let sum = one.total in let first = length-append s0 rest in let second = length-append s1 rest in omega arith;
  inside = λ h. All-append (λ c. (c < words) × (has b1 c ≡ true)) s1 rest (one.inside (all_left (λ c. (c < words) × (has b0 c ≡ true)) s0 rest h))
      (λ k d l. let old = all_right (λ c. (c < words) × (has b0 c ≡ true)) s0 rest h k d l in (old.0, one.kept (get_or rest k d) old.0 old.1));
}
