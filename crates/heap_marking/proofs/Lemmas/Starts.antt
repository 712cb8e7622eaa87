-- The state before the first round.
use Rattle.std.proofs.Common.{◌≡◌, ◌⊎◌, ℕ, ◌+◌, ◌-◌, ◌*◌, ◌/◌, ◌^◌, ◌≤◌, ◌<◌, inl, inr, Bool, true, false, ◌||◌, List, [], ◌∷◌, ◌++◌, length, get_or, refl, sym, ◌∙◌, ap, subst, arith}
use Rattle.std.proofs.lemmas.Bool.{false≢true, cases_eq, or_cases, or_left, or_right, eq-eqb, eqb-true}
use Rattle.std.proofs.lemmas.List.{length_push, get_or_append_left}
use Rattle.std.proofs.lemmas.List.Folds.{list_any-append}
use Rattle.std.specs.Prelude.{Contains}
use Rattle.std.specs.List.{list_any}
use Rattle.object_heap.specs.HeapImage.{HeapImage, heap_words, leads_to}
use Rattle.heap_marking.specs.Boxes.{arrives, leads, AreEmpty, HasMore}
use Rattle.heap_marking.specs.Spread.{Sends, AreSent}
use Rattle.heap_marking.specs.Rounds.{AreParts, IsLayout, IsPartAt, IsState, IsUnmarked, IsRooted}
use Rattle.heap_marking.specs.declared.marking.part.Part.{Part}

-- one element more
pub each_push : {X : Type 0} (P : ℕ → X → Type 0) (xs : List X) (x : X) → ((k : ℕ) (d : X) → k < length xs → P k (get_or xs k d)) → P (length xs) x
    → (k : ℕ) (d : X) → k < length (xs ++ x ∷ []) → P k (get_or (xs ++ x ∷ []) k d)
each_push P xs x h last k d l = elim (cases_eq k (length xs)) [
  | inl same ↦ subst (λ y. P k y) (sym (ap (λ i. get_or (xs ++ x ∷ []) i d) same ∙ at_end xs x d)) (subst (λ i. P i x) (sym same) last)
  | inr other ↦
      let low : k < length xs = (let long = length_push xs x in omega (arith, l, other, long)) in
      subst (P k) (sym (get_or_append_left xs (x ∷ []) d k low)) (h k d low)
]
  where
    at_end : {Y : Type 0} (ys : List Y) (y e : Y) → get_or (ys ++ y ∷ []) (length ys) e ≡ y
    at_end [] y e = refl
    at_end (z ∷ ys) y e = at_end ys y e

-- an empty row more
pub arrives_push : (rows : List (List (List ℕ))) (row : List (List ℕ)) → AreEmpty row → (k b : ℕ) → arrives (rows ++ row ∷ []) k b ≡ arrives rows k b
arrives_push rows row empty k b =
    list_any-append (λ boxes. leads boxes k b) rows (row ∷ [])
    ∙ ap (λ t. arrives rows k b || (t || false)) (ap (λ xs. list_any (λ w. leads_to w b) xs) (empty k))
    ∙ or_false (arrives rows k b)
  where
    or_false : (t : Bool) → (t || (false || false)) ≡ t
    or_false true = refl
    or_false false = refl

module _ (log words : ℕ) where
  -- one root more
  pub root_sent : (p : ℕ → Bool) (w a : ℕ) (row row' : List (List ℕ)) → w ≡ a + 1 → HasMore (a / 2 ^ log) w row row' → ((b : ℕ) → b < words → p b ≡ true → Sends log row b)
      → (b : ℕ) → b < words → (p b || leads_to w b) ≡ true → Sends log row' b
  root_sent p w a row row' e more before b l h = elim (or_cases (p b) (leads_to w b) h) [
    | inl old ↦ elim (cases_eq (b / 2 ^ log) (a / 2 ^ log)) [
      | inl same ↦ subst (λ j. leads row' j b ≡ true) (sym same) (more.here b ∙ or_left (leads row (a / 2 ^ log) b) (leads_to w b) (subst (λ j. leads row j b ≡ true) same (before b l old)))
      | inr other ↦ more.there (b / 2 ^ log) b other ∙ before b l old
    ]
    | inr new ↦
        let same : a ≡ b = (let is = eqb-true w (b + 1) new in omega arith) in
        subst (λ c. leads row' (c / 2 ^ log) c ≡ true) same (more.here a ∙ or_right (leads row (a / 2 ^ log) a) (leads_to w a) (eq-eqb w (a + 1) e))
  ]

  pub root_sound : (p : ℕ → Bool) (w k : ℕ) (row row' : List (List ℕ)) → HasMore k w row row' → AreSent log words p row → AreSent log words (λ b. p b || leads_to w b) row'
  root_sound p w k row row' more before j b l h = elim (cases_eq j k) [
    | inl same ↦ elim (or_cases (leads row k b) (leads_to w b) (sym (more.here b) ∙ subst (λ i. leads row' i b ≡ true) same h)) [
      | inl old ↦ or_left (p b) (leads_to w b) (before k b l old)
      | inr new ↦ or_right (p b) (leads_to w b) new
    ]
    | inr other ↦ or_left (p b) (leads_to w b) (before j b l (sym (more.there j b other) ∙ h))
  ]

  -- a root that leads nowhere
  root_nowhere : (w b : ℕ) → b < words → (w ≡ 0) ⊎ (words < w) → leads_to w b ≡ true → ⊥
  root_nowhere w b l h is = let at = eqb-true w (b + 1) is in elim h [
    | inl none ↦ omega (arith, at, none)
    | inr past ↦ omega (arith, at, past, l)
  ]

  pub rooted : (w a : ℕ) (row row' : List (List ℕ)) → w ≡ a + 1 → HasMore (a / 2 ^ log) w row row' → IsRooted log words w row row'
  rooted w a row row' e more = record {
    sent = λ p before b l h. root_sent p w a row row' e more before b l h;
    sound = λ p before. root_sound p w (a / 2 ^ log) row row' more before;
  }

  pub rooted_nowhere : (w : ℕ) (row : List (List ℕ)) → (w ≡ 0) ⊎ (words < w) → IsRooted log words w row row
  rooted_nowhere w row nowhere = record {
    sent = λ p before b l h. elim (or_cases (p b) (leads_to w b) h) [
      | inl old ↦ before b l old
      | inr new ↦ absurd (root_nowhere w b l nowhere new)
    ];
    sound = λ p before k b l h. or_left (p b) (leads_to w b) (before k b l h);
  }

-- a part without marks
pub part_begins : (log : ℕ) (image : HeapImage) (k : ℕ) (p : Part) → log ≤ 30 → p.first ≡ k * 2 ^ log → k * 2 ^ log < heap_words image → 2 ^ log < 64 * length p.bits
    → ((b : ℕ) → b < heap_words image → b / 2 ^ log < length p.out) → IsUnmarked p → IsPartAt log image k p
part_begins log image k p small first inside bits boxes unmarked = record {
  first = first;
  part = record { small = small; inside = omega (arith, first, inside); bits = bits; boxes = boxes };
  waiting = λ a c. absurd (nothing a (subst (λ xs. Contains xs a) unmarked.empty c));
}
  where
    nothing : (a : ℕ) → Contains [] a → ⊥
    nothing a c = let l = c.1 in omega arith

module _ (log : ℕ) (image : HeapImage) (roots : List ℕ) where
  abbrev words_of : ℕ
  words_of = heap_words image

  pub layout_begins : (parts : List Part) (rows : List (List (List ℕ))) (count : ℕ)
      → log ≤ 30 → ((b : ℕ) → b < words_of → b / 2 ^ log < count) → length parts ≡ count → AreParts log image parts
      → length rows ≡ count → ((j : ℕ) (d : List (List ℕ)) → j < length rows → length (get_or rows j d) ≡ count) → IsLayout log image parts rows
  layout_begins parts rows count small inside parts_count parts_are rows_count rows_are = record {
    small = small;
    count = λ b l. let i = inside b l in omega (arith, i, parts_count);
    rows = rows_count ∙ sym parts_count;
    boxes = λ j d l b m. let i = inside b m in let r = rows_are j d l in omega (arith, i, r);
    parts_are = parts_are;
  }

  pub state_begins : (parts : List Part) (rows : List (List (List ℕ))) (row : List (List ℕ))
      → ((k : ℕ) (d : Part) → k < length parts → IsUnmarked (get_or parts k d)) → ((k b : ℕ) → arrives rows k b ≡ leads row k b)
      → ((b : ℕ) → b < words_of → list_any (λ w. leads_to w b) roots ≡ true → Sends log row b) → AreSent log words_of (λ b. list_any (λ w. leads_to w b) roots) row
      → IsState log image roots parts rows
  state_begins parts rows row clear arrive sent sound = record {
    marked = λ q closed k d a l h. absurd (false≢true (sym ((clear k d l).clear (a - (get_or parts k d).first)) ∙ h.1));
    sent_are = λ q closed k b l h. closed.from_roots b l (sound k b l (sym (arrive k b) ∙ h));
    started = λ b l h. inr (arrive (b / 2 ^ log) b ∙ sent b l h);
    followed = λ k d a l h. absurd (false≢true (sym ((clear k d l).clear (a - (get_or parts k d).first)) ∙ h.1));
  }
