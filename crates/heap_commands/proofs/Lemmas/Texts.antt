-- Texts that grow piece by piece.
use Rattle.std.proofs.Common.{◌≡◌, ℕ, ◌+◌, ◌<◌, ◌≤◌, List, [], ◌∷◌, ◌++◌, length, get_or, take, drop, append_assoc, append-nil, sym, ◌∙◌, ap}
use Rattle.std.proofs.lemmas.List.{at_drop_all, at_drop_more, flat_map_more, take_all, take_more}
use Rattle.heap_dump.specs.declared.listing.ListedObject.{ListedObject}
use Rattle.heap_dump.specs.declared.listing.class_names.ClassNames.{ClassNames}
use Rattle.heap_dump.specs.declared.totals.ClassTotals.{ClassTotals}
use Rattle.heap_commands.specs.Histogram.{row, rows_from}
use Rattle.heap_commands.specs.ObjectList.{list_text, object_line}

pub join2 : (o a b x y : List ℕ) → x ≡ o ++ a → y ≡ x ++ b → y ≡ o ++ (a ++ b)
join2 o a b x y p q = q ∙ ap (λ t. t ++ b) p ∙ append_assoc o a b

pub join3 : (o a b c x y z : List ℕ) → x ≡ o ++ a → y ≡ x ++ b → z ≡ y ++ c → z ≡ o ++ (a ++ (b ++ c))
join3 o a b c x y z p q r = join2 o a (b ++ c) x z p (join2 x b c y z q r)

pub join4 : (o a b c d x y z w : List ℕ) → x ≡ o ++ a → y ≡ x ++ b → z ≡ y ++ c → w ≡ z ++ d → w ≡ o ++ (a ++ (b ++ (c ++ d)))
join4 o a b c d x y z w p q r s = join2 o a (b ++ (c ++ d)) x w p (join3 x b c d y z w q r s)

pub join5 : (o a b c d e x y z w v : List ℕ) → x ≡ o ++ a → y ≡ x ++ b → z ≡ y ++ c → w ≡ z ++ d → v ≡ w ++ e
    → v ≡ o ++ (a ++ (b ++ (c ++ (d ++ e))))
join5 o a b c d e x y z w v p q r s t = join2 o a (b ++ (c ++ (d ++ e))) x v p (join4 x b c d e y z w v q r s t)

pub join6 : (o a b c d e f x y z w v u : List ℕ) → x ≡ o ++ a → y ≡ x ++ b → z ≡ y ++ c → w ≡ z ++ d → v ≡ w ++ e → u ≡ v ++ f
    → u ≡ o ++ (a ++ (b ++ (c ++ (d ++ (e ++ f)))))
join6 o a b c d e f x y z w v u p q r s t i = join2 o a (b ++ (c ++ (d ++ (e ++ f)))) x u p (join5 x b c d e f y z w v u q r s t i)

module _ (names : ClassNames) (classes : List ClassTotals) where
  -- one row more: what is pushed and what is left make the whole
  pub rows_step : (i : ℕ) (class : ClassTotals) (start old pushed : List ℕ) → i < length classes → class ≡ get_or classes i class
      → old ++ rows_from names (i + 1) (drop i classes) ≡ start → pushed ≡ old ++ row names (i + 1) class
      → pushed ++ rows_from names (i + 1 + 1) (drop (i + 1) classes) ≡ start
  rows_step i class start old pushed below is so_far push =
      let rest : List ℕ = rows_from names (i + 1 + 1) (drop (i + 1) classes) in
      ap (λ t. t ++ rest) push ∙ append_assoc old (row names (i + 1) class) rest
      ∙ ap (λ t. old ++ t) (ap (λ c. row names (i + 1) c ++ rest) is ∙ sym (at_drop_more (λ cs. rows_from names (i + 1) cs) classes i class below))
      ∙ so_far

  -- nothing is left
  pub rows_done : (i : ℕ) (start pushed : List ℕ) → length classes ≤ i → pushed ++ rows_from names (i + 1) (drop i classes) ≡ start → pushed ≡ start
  rows_done i start pushed past so_far =
      sym (append-nil pushed) ∙ ap (λ t. pushed ++ t) (sym (at_drop_all (λ cs. rows_from names (i + 1) cs) classes i past)) ∙ so_far

module _ (names : ClassNames) (objects : List ListedObject) where
  -- one object more, whose line was added to the lines that are not yet given, of which the next part is given
  pub listed_more : (i : ℕ) (object : ListedObject) (given next old pushed left : List ℕ) → i < length objects → object ≡ get_or objects i object
      → given ++ old ≡ list_text names (take i objects) → pushed ≡ old ++ object_line names object → next ++ left ≡ pushed
      → (given ++ next) ++ left ≡ list_text names (take (i + 1) objects)
  listed_more i object given next old pushed left below is so_far push part =
      append_assoc given next left ∙ ap (λ t. given ++ t) (part ∙ push) ∙ sym (append_assoc given old (object_line names object))
      ∙ ap (λ t. t ++ object_line names object) so_far
      ∙ flat_map_more (object_line names) [] (take i objects) object
      ∙ ap (λ o. list_text names (take i objects ++ o ∷ [])) is
      ∙ sym (ap (λ xs. list_text names xs) (take_more objects i object below))

  -- the last part is given
  pub listed_all : (i : ℕ) (given left : List ℕ) → length objects ≤ i → given ++ left ≡ list_text names (take i objects) → given ++ left ≡ list_text names objects
  listed_all i given left past so_far = so_far ∙ ap (λ xs. list_text names xs) (take_all i objects past)
