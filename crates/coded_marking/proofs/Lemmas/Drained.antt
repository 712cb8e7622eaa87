-- The stack, as it is emptied.
use Rattle.std.proofs.Common.{◌≡◌, ℕ, ◌+◌, ◌≤◌, ◌<◌, inl, inr, Bool, true, false, cond, List, [], ◌∷◌, ◌++◌, length, get_or, refl, sym, ◌∙◌, ap, subst, arith}
use Rattle.std.proofs.lemmas.Bool.{cases_lt}
use Rattle.std.proofs.lemmas.List.Elements.{Contains-get_or, Contains-push}
use Rattle.std.specs.Prelude.{Contains}
use Rattle.object_heap.specs.HeapImage.{HeapImage, is_unsound}
use Rattle.object_heap.specs.Bits.{has}
use Rattle.coded_marking.specs.Tracing.{IsSteady, PushesWord, Stops, KeepsFollowed, IsEmptied, GetsOn, IsUnsoundThere, absent}
use Rattle.coded_marking.specs.declared.tracing.Tracing.{Tracing}
use Rattle.coded_marking.proofs.Lemmas.Counts.{absent_le, absent_lt}
use Rattle.coded_marking.proofs.Lemmas.Growth.{marked_inside}

-- the last of the stack is marked
pub marked_last : (t : Tracing) (rest : List ℕ) (a : ℕ) → IsSteady t → t.stack.items ≡ rest ++ a ∷ [] → has t.marked a ≡ true
marked_last t rest a steady popped = steady.stacked a (subst (λ xs. Contains xs a) (sym popped) (Contains-push rest a))

-- a word of addresses is pushed and followed: if the stack isn't complete, one address more is followed
pub gets_on_word : (i : ℕ) (t t1 t2 : Tracing) → IsSteady t → t.stack.items ≡ [] → t.complete ≡ true → IsSteady t1 → PushesWord i t t1 → t2.words ≡ t1.words → KeepsFollowed t1 t2
    → (t1.stack.items ≡ [] → t2.complete ≡ t1.complete) → IsEmptied t1 t2 → GetsOn t t2
gets_on_word i t t1 t2 steady none complete steady1 pushes words keeps idle emptied = elim (cases_lt 0 (length t1.stack.items)) [
  | inr empty ↦ elim pushes.lost [
    | inr some ↦ let never : ⊥ = omega (arith, empty, some) in absurd never
    | inl same ↦ inl (idle (nothing t1.stack.items (omega (arith, empty))) ∙ same ∙ complete)
  ]
  | inl some ↦
      let a : ℕ = get_or t1.stack.items 0 0 in
      let there : Contains t1.stack.items a = Contains-get_or t1.stack.items 0 0 some in
      let clear : has t.followed a ≡ false = elim (pushes.fresh a there) [
        | inr fresh ↦ fresh
        | inl old ↦ let l = old.1 in let short = ap length none in let never : ⊥ = omega (arith, l, short) in absurd never
      ] in
      let low : a < t1.words = marked_inside t1 steady1 a (steady1.stacked a there) in
      let same : (bits : List ℕ) → absent t2.words bits ≡ absent t.words bits = λ bits. ap (λ n. absent n bits) (words ∙ pushes.words) in
      let less = absent_lt t.words a t.followed t2.followed (subst (λ n. a < n) pushes.words low) clear (emptied a there) (λ b h. keeps b (subst (λ bs. has bs b ≡ true) (sym pushes.followed) h)) in
      inr (subst (λ n. n < absent t.words t.followed) (sym (same t2.followed)) less)
]
  where
    nothing : (xs : List ℕ) → length xs ≤ 0 → xs ≡ []
    nothing [] l = refl
    nothing (x ∷ xs) l = let never : ⊥ = omega arith in absurd never

-- a marked object at which it stops
pub unsound_there : (image : HeapImage) (t t' : Tracing) (a e : ℕ) → Stops t t' → has t.marked a ≡ true → e ≡ a → is_unsound image a ≡ true → IsUnsoundThere image t' e
unsound_there image t t' a e stops here is unsound = record {
  marked = ap (λ bs. has bs e) stops.marked ∙ ap (λ b. has t.marked b) is ∙ here;
  unsound = ap (λ b. is_unsound image b) is ∙ unsound;
}

-- what is followed only grows
absent_kept : (t t' : Tracing) → t'.words ≡ t.words → KeepsFollowed t t' → absent t'.words t'.followed ≤ absent t.words t.followed
absent_kept t t' words keeps =
    let same : absent t'.words t'.followed ≡ absent t.words t'.followed = ap (λ n. absent n t'.followed) words in
    let less = absent_le t.words t.followed t'.followed keeps in
    omega (arith, same, less)

-- over one turn more
pub gets_on_more : (t0 t t' : Tracing) → t.words ≡ t0.words → KeepsFollowed t0 t → t'.words ≡ t.words → KeepsFollowed t t' → GetsOn t0 t → (t.complete ≡ true → GetsOn t t') → GetsOn t0 t'
gets_on_more t0 t t' words0 keeps0 words keeps before next =
    let first = absent_kept t0 t words0 keeps0 in
    let second = absent_kept t t' words keeps in
    elim before [
      | inr less ↦ inr (omega (arith, less, second))
      | inl complete ↦ elim (next complete) [
        | inl still ↦ inl still
        | inr less ↦ inr (omega (arith, less, first))
      ]
    ]

-- the measure of what is left falls
pub left_falls : (t t' : Tracing) → t.complete ≡ false → t'.words ≡ t.words → KeepsFollowed t t' → GetsOn t t'
    → absent t'.words t'.followed + cond t'.complete 0 1 < absent t.words t.followed + cond t.complete 0 1
left_falls t t' incomplete words keeps gets_on =
    let some : cond {A = ℕ} t.complete 0 1 ≡ 1 = ap (λ b. cond {A = ℕ} b 0 1) incomplete in
    let kept = absent_kept t t' words keeps in
    elim gets_on [
      | inl complete ↦ let none : cond {A = ℕ} t'.complete 0 1 ≡ 0 = ap (λ b. cond {A = ℕ} b 0 1) complete in omega (arith, some, none, kept)
      | inr less ↦ let few = at_most_one t'.complete in omega (arith, some, few, less)
    ]
  where
    at_most_one : (b : Bool) → cond {A = ℕ} b 0 1 ≤ 1
    at_most_one true = omega arith
    at_most_one false = omega arith
