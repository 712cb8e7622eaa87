-- Partners by their numbers.
use Rattle.std.proofs.Common.{◌≡◌, ℕ, ◌+◌, ◌-◌, ◌<◌, Bool, false, not, cond, eqb, List, get_or, length, sym, subst, ◌∙◌, ap, ap₂, arith}
use Rattle.std.specs.Prelude.{count_by}
use Rattle.std.specs.List.{zip}
use Rattle.std.proofs.Math.Nat.{lt_of_not-le}
use Rattle.std.proofs.lemmas.Bool.{ne_eqb}
use Rattle.std.proofs.lemmas.List.{get_or_past, get_or_read}
use Rattle.object_pairs.specs.Conflicts.{changed_at, conflicts_at, is_in, no_object, object_at}
use Rattle.object_pairs.specs.Graph.{references_of}
use Rattle.object_pairs.specs.Pairing.{IsPairing}
use Rattle.object_pairs.specs.declared.graph.Graph.{Graph}
use Rattle.object_pairs.specs.declared.graph.Object.{Object}
use Rattle.object_pairs.specs.declared.paired.conflict.Conflict.{Conflict}
use Rattle.object_pairs.specs.declared.pairing.Pairing.{Pairing}

-- an index at which a list has more than 0 is in it
pub inside : (xs : List ℕ) (i : ℕ) → 0 < get_or xs i 0 → i < length xs
inside xs i some = lt_of_not-le (λ past. let e = get_or_past xs i 0 past in omega arith)

-- the number of a partner is that of an object
pub partner_inside : (before after : List Object) (pairing : Pairing) (i p : ℕ) → IsPairing before after pairing → p ≡ get_or pairing.partners.items i 0 → 0 < p
    → p - 1 < length after
partner_inside before after pairing i p is at some =
    let back : get_or pairing.sources.items (p - 1) 0 ≡ i + 1 = is.forth i (p - 1) (omega arith) in
    let long = is.length_after in
    let below : p - 1 < length pairing.sources.items = inside pairing.sources.items (p - 1) (omega arith) in
    omega arith

-- a choice that a number other than 0 makes
pub chosen : {X : Type 0} (p q : ℕ) (x y z : X) → q ≡ p → 0 < q → y ≡ z → y ≡ cond (eqb p 0) x z
chosen p q x y z same some is =
    let no : eqb p 0 ≡ false = ne_eqb p 0 (λ e. omega arith) in
    is ∙ sym (ap (λ b. cond b x z) no)

module _ (before after : List Object) (partners : List ℕ) (i p : ℕ) (one other : Object) (at : p ≡ get_or partners i 0)
    (below : i < length before) (there : p - 1 < length after) (one_is : one ≡ get_or before i one) (other_is : other ≡ get_or after (p - 1) other) where
  one_at : one ≡ object_at before i
  one_at = get_or_read before i one below one_is no_object

  other_at : other ≡ object_at after (get_or partners i 0 - 1)
  other_at = get_or_read after (p - 1) other there other_is no_object ∙ ap (λ q. object_at after (q - 1)) at

  pub conflicts_here : (kind : Conflict) (sources targets : List ℕ) (n : ℕ) → 0 < p
      → n ≡ count_by (λ (x : ℕ × ℕ). is_in kind partners x.0 x.1) (zip (references_of sources one) (references_of targets other))
      → n ≡ cond (eqb (get_or partners i 0) 0) 0 (count_by (λ (x : ℕ × ℕ). is_in kind partners x.0 x.1)
      (zip (references_of sources (object_at before i)) (references_of targets (object_at after (get_or partners i 0 - 1)))))
  conflicts_here kind sources targets n some counted =
      chosen (get_or partners i 0) p 0 n _ at some
      (counted ∙ ap₂ (λ (a b : Object). count_by (λ (x : ℕ × ℕ). is_in kind partners x.0 x.1) (zip (references_of sources a) (references_of targets b))) one_at other_at)

  pub changed_here : 0 < p → not (eqb one.checksum other.checksum) ≡ changed_at before after partners i
  changed_here some =
      chosen (get_or partners i 0) p false (not (eqb one.checksum other.checksum)) _ at some
      (ap₂ (λ (a b : Object). not (eqb a.checksum b.checksum)) one_at other_at)
