-- The addresses of a word of bits, pushed one after the other.
use Rattle.std.proofs.Common.{◌≡◌, ◌⊎◌, ℕ, ◌+◌, ◌*◌, ◌/◌, ◌≤◌, ◌<◌, inl, inr, true, false, length, refl, sym, ◌∙◌, subst, arith}
use Rattle.std.proofs.lemmas.Bool.{cases_lt}
use Rattle.std.specs.Prelude.{Contains}
use Rattle.object_heap.specs.Bits.{has}
use Rattle.coded_marking.specs.Tracing.{IsSteady, Pushes, PushesWord}
use Rattle.coded_marking.specs.declared.tracing.Tracing.{Tracing}

-- the addresses from the first one on and below a are pushed if they are marked and weren't followed
pub record IsPushing (first a : ℕ) (t0 t : Tracing) : Type 0 where
  pub steady : IsSteady t
  pub words : t.words ≡ t0.words
  pub marked : t.marked ≡ t0.marked
  pub followed : t.followed ≡ t0.followed
  pub stacked : (b : ℕ) → Contains t0.stack.items b → Contains t.stack.items b
  pub complete : t.complete ≡ true → t0.complete ≡ true
  pub pending : t.complete ≡ true → (b : ℕ) → first ≤ b → b < a → has t0.marked b ≡ true → (has t0.followed b ≡ true) ⊎ Contains t.stack.items b
  pub fresh : (b : ℕ) → Contains t.stack.items b → Contains t0.stack.items b ⊎ (has t0.followed b ≡ false)
  pub lost : (t.complete ≡ t0.complete) ⊎ (0 < length t.stack.items)

pub pushing_first : (first : ℕ) (t : Tracing) → IsSteady t → IsPushing first first t t
pushing_first first t steady = record {
  steady = steady;
  words = refl;
  marked = refl;
  followed = refl;
  stacked = λ b h. h;
  complete = λ h. h;
  pending = λ h b low high is. let never : ⊥ = omega arith in absurd never;
  fresh = λ b h. inl h;
  lost = inl refl;
}

-- a is not marked, or was followed
pub pushing_past : (first a : ℕ) (t0 t : Tracing) → (has t.marked a ≡ true → has t.followed a ≡ true) → IsPushing first a t0 t → IsPushing first (a + 1) t0 t
pushing_past first a t0 t past before = record {
  steady = before.steady;
  words = before.words;
  marked = before.marked;
  followed = before.followed;
  stacked = before.stacked;
  complete = before.complete;
  pending = λ h b low high is. elim (cases_lt b a) [
    | inl lower ↦ before.pending h b low lower is
    | inr here ↦
        let e : a ≡ b = omega arith in
        inl (subst (λ c. has t0.followed c ≡ true) e (subst (λ bs. has bs a ≡ true) before.followed (past (subst (λ bs. has bs a ≡ true) (sym before.marked) (subst (λ c. has t0.marked c ≡ true) (sym e) is)))))
  ];
  fresh = before.fresh;
  lost = before.lost;
}

-- a is pushed
pub pushing_next : (first a : ℕ) (t0 t t' : Tracing) → has t.followed a ≡ false → IsSteady t' → Pushes a t t' → IsPushing first a t0 t → IsPushing first (a + 1) t0 t'
pushing_next first a t0 t t' clear steady' pushes before = record {
  steady = steady';
  words = pushes.words ∙ before.words;
  marked = pushes.marked ∙ before.marked;
  followed = pushes.followed ∙ before.followed;
  stacked = λ b h. pushes.stacked b (before.stacked b h);
  complete = λ h. before.complete (pushes.pending h).0;
  pending = λ h b low high is. elim (cases_lt b a) [
    | inl lower ↦ elim (before.pending (pushes.pending h).0 b low lower is) [
      | inl done ↦ inl done
      | inr waits ↦ inr (pushes.stacked b waits)
    ]
    | inr here ↦ let e : a ≡ b = omega arith in inr (subst (λ c. Contains t'.stack.items c) e (pushes.pending h).1)
  ];
  fresh = λ b h. elim (pushes.fresh b h) [
    | inl old ↦ before.fresh b old
    | inr new ↦ inr (subst (λ c. has t0.followed c ≡ false) (sym new) (subst (λ bs. has bs a ≡ false) before.followed clear))
  ];
  lost = inr pushes.some;
}

pub pushing_all : (i a : ℕ) (t0 t : Tracing) → 64 * i + 64 ≤ a → IsPushing (64 * i) a t0 t → PushesWord i t0 t
pushing_all i a t0 t all before = record {
  words = before.words;
  marked = before.marked;
  followed = before.followed;
  stacked = before.stacked;
  complete = before.complete;
  pending = λ h b there is. before.pending h b (lower b there) (higher b there) is;
  fresh = before.fresh;
  lost = before.lost;
}
  where
    lower : (b : ℕ) → b / 64 ≡ i → 64 * i ≤ b
    lower b there = omega arith

    higher : (b : ℕ) → b / 64 ≡ i → b < a
    higher b there = omega arith
