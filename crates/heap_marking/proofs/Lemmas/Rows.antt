-- Rows of boxes.
use Rattle.std.proofs.Common.{◌≡◌, ℕ, zero, suc, ◌+◌, ◌≤◌, ◌<◌, inl, inr, Bool, true, false, ◌||◌, List, [], ◌∷◌, ◌++◌, length, get_or, map, refl, sym, ◌∙◌, ap, arith}
use Rattle.std.proofs.Math.ListN.{set}
use Rattle.std.proofs.lemmas.Bool.{false≢true, cases_lt, cases_eq}
use Rattle.std.proofs.lemmas.List.{map-set, get_or-map, get_or-set_same, get_or-set_other, get_or_default, length-map}
use Rattle.std.proofs.lemmas.List.Folds.{list_any-append, list_any_at, Any-from_list_any, list_any-from_Any}
use Rattle.std.specs.List.{list_any}
use Rattle.object_heap.specs.HeapImage.{leads_to}
use Rattle.heap_marking.specs.Boxes.{leads, arrives, arrives_anywhere, AreEmpty, HasMore}

-- the boxes below k are empty
abbrev pub EmptyBelow : ℕ → List (List ℕ) → Type 0
EmptyBelow k boxes = (j : ℕ) → j < k → get_or boxes j [] ≡ []

pub box_past : (boxes : List (List ℕ)) (j : ℕ) → length boxes ≤ j → get_or boxes j [] ≡ []
box_past [] zero l = refl
box_past [] (suc j) l = refl
box_past (b ∷ bs) zero l = let no : ⊥ = omega arith in absurd no
box_past (b ∷ bs) (suc j) l = box_past bs j (omega arith)

pub all_empty : (boxes : List (List ℕ)) (k : ℕ) → length boxes ≤ k → EmptyBelow k boxes → AreEmpty boxes
all_empty boxes k l h j = elim (cases_lt j k) [
  | inl below ↦ h j below
  | inr past ↦ box_past boxes j (omega arith)
]

module _ {V : Type 0} (f : V → List ℕ) where
  pub box_set : (xs : List V) (k : ℕ) (v : V) → k < length xs → get_or (map f (set xs k v)) k [] ≡ f v
  box_set xs k v l = ap (λ ys. get_or ys k []) (map-set f xs k v) ∙ get_or-set_same (map f xs) k (f v) [] (let same = length-map xs f in omega arith)

  pub box_other : (xs : List V) (k j : ℕ) (v : V) → (j ≡ k → ⊥) → get_or (map f (set xs k v)) j [] ≡ get_or (map f xs) j []
  box_other xs k j v other = ap (λ ys. get_or ys j []) (map-set f xs k v) ∙ get_or-set_other (map f xs) k j (f v) [] other

  pub has_more : (xs : List V) (k w : ℕ) (v d : V) → k < length xs → f v ≡ f (get_or xs k d) ++ w ∷ [] → HasMore k w (map f xs) (map f (set xs k v))
  has_more xs k w v d l pushed = record {
    here = λ b.
        ap (list_any (λ x. leads_to x b)) (box_set xs k v l ∙ pushed ∙ ap (λ ys. ys ++ w ∷ []) (sym (get_or-map f xs k d [] l)))
        ∙ list_any-append (λ x. leads_to x b) (get_or (map f xs) k []) (w ∷ [])
        ∙ ap (λ t. leads (map f xs) k b || t) (or_false (leads_to w b));
    there = λ j b other. ap (list_any (λ x. leads_to x b)) (box_other xs k j v other);
  }
    where
      or_false : (t : Bool) → (t || false) ≡ t
      or_false true = refl
      or_false false = refl

  -- one box more is empty
  pub empty_more : (xs : List V) (k : ℕ) (v : V) → k < length xs → f v ≡ [] → EmptyBelow k (map f xs) → EmptyBelow (k + 1) (map f (set xs k v))
  empty_more xs k v l none before j m = elim (cases_eq j k) [
    | inl same ↦ ap (λ i. get_or (map f (set xs k v)) i []) same ∙ box_set xs k v l ∙ none
    | inr other ↦ box_other xs k j v other ∙ before j (omega (arith, m, other))
  ]

  -- the next box is empty too
  pub box_more : (xs : List V) (k : ℕ) (d : V) → k < length xs → f (get_or xs k d) ≡ [] → EmptyBelow k (map f xs) → EmptyBelow (k + 1) (map f xs)
  box_more xs k d l none before j m = elim (cases_eq j k) [
    | inl same ↦ ap (λ i. get_or (map f xs) i []) same ∙ get_or-map f xs k d [] l ∙ none
    | inr other ↦ before j (omega (arith, m, other))
  ]

-- ---- a reference in one box, and in any box

in_box : (boxes : List (List ℕ)) (k b : ℕ) → leads boxes k b ≡ true → list_any (λ references. list_any (λ w. leads_to w b) references) boxes ≡ true
in_box boxes k b h = elim (cases_lt k (length boxes)) [
  | inl low ↦ list_any_at (λ references. list_any (λ w. leads_to w b) references) boxes k [] low h
  | inr past ↦ absurd (false≢true (sym (ap (λ xs. list_any (λ w. leads_to w b) xs) (box_past boxes k (omega arith))) ∙ h))
]

pub anywhere_from_box : (rows : List (List (List ℕ))) (k b : ℕ) → arrives rows k b ≡ true → arrives_anywhere rows b ≡ true
anywhere_from_box rows k b h =
    let any = Any-from_list_any (λ boxes. leads boxes k b) rows h in
    list_any-from_Any (λ boxes. list_any (λ references. list_any (λ w. leads_to w b) references) boxes) rows (any.0, any.1, any.2, any.3, in_box any.1 k b any.4)

pub box_from_anywhere : (rows : List (List (List ℕ))) (b : ℕ) → arrives_anywhere rows b ≡ true → (k : ℕ) × (arrives rows k b ≡ true)
box_from_anywhere rows b h =
    let any = Any-from_list_any (λ boxes. list_any (λ references. list_any (λ w. leads_to w b) references) boxes) rows h in
    let boxes : List (List ℕ) = any.1 in
    let inner = Any-from_list_any (λ references. list_any (λ w. leads_to w b) references) boxes any.4 in
    let k : ℕ = inner.0 in
    let here : get_or boxes k [] ≡ inner.1 = get_or_default boxes k [] inner.1 inner.2 ∙ inner.3 in
    (k, list_any-from_Any (λ row. leads row k b) rows (any.0, boxes, any.2, any.3, ap (λ xs. list_any (λ w. leads_to w b) xs) here ∙ inner.4))
