-- The parts of a frame, one after the other.
--     end-more       the words after others end where all of them end
--     end-none       no words end where they begin
--     part-of-cut    a cut at the size of a part gives the next part
--     rest-of-cut    and what is left
--     slot-at        the k-th slot is that of part k
--     place-at       and its place follows from its number
--     fits-at        a part's words end below 2 ^ 60
--     joined         the parts below number k and the next part, joined
use Rattle.std.proofs.Common.{◌≡◌, ◌≤◌, ◌<◌, ◌+◌, ◌*◌, ◌^◌, ℕ, suc, List, length, get_or, Some, refl, sym, ap, subst, ◌∙◌, arith}
use Rattle.std.specs.Prelude.{map}
use Rattle.std.specs.List.{range_with_len}
use Rattle.std.proofs.lemmas.List.FromFn.{get_or-map-range_with_len}
use Rattle.std.proofs.Math.Nat.{mul-le-mul_right, suc-mul}
use denote.RawPtr.{Ptr, block_ptr, null_ptr}
use Rattle.raw_region.specs.Cutting.{end_of, IsCut, CanJoin, IsJoin}
use Rattle.raw_region.specs.Frame.{Place, place_of, IsPart, IsRest, IsFrame}
use Rattle.raw_region.specs.declared.room.Room.{Room}

pub end-more : (p : Ptr) (m n k : ℕ) → m + n ≡ k → end_of (end_of p m) n ≡ end_of p k
end-more (block_ptr b o) m n k is = ap (λ x. block_ptr b x) (omega (arith, is))
end-more null_ptr m n k is = refl

pub end-none : (p : Ptr) (k : ℕ) → k ≡ 0 → end_of p k ≡ p
end-none (block_ptr b o) k is = ap (λ x. block_ptr b x) (omega (arith, is))
end-none null_ptr k is = refl

-- there is room for one part more
pub room : (size n k : ℕ) → k < n → k * size + size ≤ n * size
room size n k few = omega (arith, mul-le-mul_right {m = suc k} {n = n} size few, suc-mul k size)

module _ (root : Ptr) (size n k : ℕ) where
  pub part-of-cut : (rest part above : Room) → IsRest root size n k rest → IsCut rest size part above → IsPart (place_of root size k) part
  part-of-cut rest part above is cut = record { at = cut.at ∙ is.at; len = cut.len; deed = cut.deed ∙ is.deed }

  pub rest-of-cut : (rest part above : Room) → IsRest root size n k rest → IsCut rest size part above → IsRest root size n (suc k) above
  rest-of-cut rest part above is cut = record {
    at = cut.above_at ∙ ap (λ p. end_of p size) is.at ∙ end-more root (k * size) size (suc k * size) (sym (suc-mul k size));
    len = omega (arith, cut.above_len, is.len, suc-mul k size);
    deed = cut.above_deed;
  }

pub slot-at : (root : Ptr) (size k : ℕ) (slots : List Place) (slot : Place) → slots ≡ map (place_of root size) (range_with_len 0 (length slots))
    → k < length slots → slot ≡ get_or slots k slot → slot ≡ place_of root size k
slot-at root size k slots slot are few at =
    at ∙ ap (λ l. get_or l k slot) are ∙ get_or-map-range_with_len (place_of root size) 0 (length slots) k k slot few (omega arith)

module _ (deed : Room) (root : Ptr) (size k index : ℕ) (slots : List Place) (is : IsFrame deed root size slots) (few : k < length slots) (counted : index ≡ k) where
  pub place-at : (slot : Place) → slot ≡ get_or slots k slot → slot ≡ place_of root size index
  place-at slot at =
      slot-at deed.at size k slots slot is.slots_are few at ∙ ap (λ p. place_of p size k) (sym is.begins) ∙ ap (place_of root size) (sym counted)

  pub fits-at : index * size + size < 2 ^ 60
  fits-at = subst (λ i. i * size + size < 2 ^ 60) (sym counted) (omega (arith, room size (length slots) k few, is.fits))

-- the words of the parts below number k, which may free the words of n parts
pub record IsJoined (root : Ptr) (size n k : ℕ) (b : Room) : Type 0 where
  pub at : b.at ≡ root
  pub len : b.len ≡ k * size
  pub deed : b.deed ≡ Some (root, n * size)

module _ (root : Ptr) (size n k : ℕ) (b part : Room) (is : IsJoined root size n k b) (next : IsPart (place_of root size k) part) where
  pub can-join : n * size < 2 ^ 60 → k < n → CanJoin b part
  can-join fits few = record {
    at = next.at ∙ sym (ap (λ p. end_of p b.len) is.at ∙ ap (end_of root) is.len);
    fits = omega (arith, is.len, next.len, fits, room size n k few);
    deed = next.deed;
  }

  pub joined : (whole : Room) → IsJoin b part whole → IsJoined root size n (suc k) whole
  joined whole join = record {
    at = join.at ∙ is.at;
    len = omega (arith, join.len, is.len, next.len, suc-mul k size);
    deed = join.deed ∙ is.deed;
  }
