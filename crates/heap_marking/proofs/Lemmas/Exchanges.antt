-- The exchange of what the parts sent, part by part.
use Rattle.std.proofs.Common.{◌≡◌, ℕ, ◌+◌, ◌≤◌, ◌<◌, inl, inr, List, length, get_or, refl, sym, ◌∙◌, ap, subst, arith}
use Rattle.std.proofs.Math.ListN.{set}
use Rattle.std.proofs.lemmas.Bool.{cases_eq}
use Rattle.std.proofs.lemmas.List.{length-set, get_or-set_same, get_or-set_other, get_or_default}
use Rattle.heap_marking.specs.Rounds.{IsSwapped, AreExchanged}
use Rattle.heap_marking.specs.declared.marking.part.Part.{Part}

-- the parts below n are exchanged
pub record AreExchangedTo (n : ℕ) (parts parts' : List Part) (sent sent' : List (List (List ℕ))) : Type 0 where
  pub parts_count : length parts' ≡ length parts
  pub sent_count : length sent' ≡ length sent
  pub each : (k : ℕ) (d : Part) (e : List (List ℕ)) → k < n → k < length parts
      → IsSwapped (get_or parts k d) (get_or parts' k d) (get_or sent k e) (get_or sent' k e)
  pub parts_above : (k : ℕ) (d : Part) → n ≤ k → get_or parts' k d ≡ get_or parts k d
  pub sent_above : (k : ℕ) (e : List (List ℕ)) → n ≤ k → get_or sent' k e ≡ get_or sent k e

pub exchanged_none : (parts : List Part) (sent : List (List (List ℕ))) → AreExchangedTo 0 parts parts sent sent
exchanged_none parts sent = record {
  parts_count = refl;
  sent_count = refl;
  each = λ k d e l m. let no : ⊥ = omega arith in absurd no;
  parts_above = λ k d l. refl;
  sent_above = λ k e l. refl;
}

pub exchanged_more : (n : ℕ) (parts parts' : List Part) (sent sent' : List (List (List ℕ))) (p p' : Part) (row row' : List (List ℕ)) → n < length parts → length parts ≡ length sent
    → IsSwapped (get_or parts' n p) p' (get_or sent' n row) row' → AreExchangedTo n parts parts' sent sent'
    → AreExchangedTo (n + 1) parts (set parts' n p') sent (set sent' n row')
exchanged_more n parts parts' sent sent' p p' row row' l rows swapped before =
    let many : n < length parts' = (let same = before.parts_count in omega (arith, l, same)) in
    let many_rows : n < length sent' = (let same = before.sent_count in omega (arith, l, rows, same)) in
    record {
      parts_count = length-set parts' n p' ∙ before.parts_count;
      sent_count = length-set sent' n row' ∙ before.sent_count;
      each = λ k d e m low. elim (cases_eq k n) [
        | inl same ↦
            let old : get_or parts k d ≡ get_or parts' n p = ap (λ i. get_or parts i d) same ∙ default parts n d p l ∙ sym (before.parts_above n p (omega arith)) in
            let new : get_or (set parts' n p') k d ≡ p' = ap (λ i. get_or (set parts' n p') i d) same ∙ get_or-set_same parts' n p' d many in
            let old_row : get_or sent k e ≡ get_or sent' n row = ap (λ i. get_or sent i e) same ∙ default sent n e row (omega (arith, l, rows)) ∙ sym (before.sent_above n row (omega arith)) in
            let new_row : get_or (set sent' n row') k e ≡ row' = ap (λ i. get_or (set sent' n row') i e) same ∙ get_or-set_same sent' n row' e many_rows in
            subst (λ x. IsSwapped x (get_or (set parts' n p') k d) (get_or sent k e) (get_or (set sent' n row') k e)) (sym old)
            (subst (λ x. IsSwapped (get_or parts' n p) x (get_or sent k e) (get_or (set sent' n row') k e)) (sym new)
            (subst (λ x. IsSwapped (get_or parts' n p) p' x (get_or (set sent' n row') k e)) (sym old_row) (subst (λ x. IsSwapped (get_or parts' n p) p' (get_or sent' n row) x) (sym new_row) swapped)))
        | inr other ↦
            let was = before.each k d e (omega (arith, m, other)) low in
            subst (λ x. IsSwapped (get_or parts k d) x (get_or sent k e) (get_or (set sent' n row') k e)) (sym (get_or-set_other parts' n k p' d other))
            (subst (λ x. IsSwapped (get_or parts k d) (get_or parts' k d) (get_or sent k e) x) (sym (get_or-set_other sent' n k row' e other)) was)
      ];
      parts_above = λ k d m. get_or-set_other parts' n k p' d (λ e. let no : ⊥ = omega (arith, m, e) in no) ∙ before.parts_above k d (omega (arith, m));
      sent_above = λ k e m. get_or-set_other sent' n k row' e (λ e. let no : ⊥ = omega (arith, m, e) in no) ∙ before.sent_above k e (omega (arith, m));
    }
  where
    default : {X : Type 0} (xs : List X) (i : ℕ) (d e : X) → i < length xs → get_or xs i d ≡ get_or xs i e
    default xs i d e m = get_or_default xs i d e m

pub exchanged_all : (n : ℕ) (parts parts' : List Part) (sent sent' : List (List (List ℕ))) → length parts ≤ n → AreExchangedTo n parts parts' sent sent' → AreExchanged parts parts' sent sent'
exchanged_all n parts parts' sent sent' l h = record {
  parts_count = h.parts_count;
  sent_count = h.sent_count;
  each = λ k d e m. h.each k d e (omega (arith, l, m)) m;
}
