-- What a list has at an index or in a range.
use Rattle.std.proofs.Common.{◌≡◌, ◌⊎◌, inl, inr, ℕ, ◌<◌, ◌≤◌, ◌&&◌, Bool, true, false, cond, leb, List, [], length, Option, Some, None, refl, sym, ◌∙◌, ap, ap₂}
use Rattle.std.specs.Prelude.{option_copied, slice_get, slice_range}
use Rattle.std.specs.Slice.{IsItemAt}
use Rattle.std.proofs.lemmas.Bool.{le-leb, lt-leb, true≢false}
use Rattle.std.proofs.lemmas.Option.{slice_get_past, slice_get_read}
use denote.Ref.{Bor}

module _ {X : Type 0} where
  -- the element that `get` lends, copied
  pub got : (xs : List X) (i : ℕ) (r : Option (Bor X)) → IsItemAt xs i r → option_copied r ≡ slice_get xs i
  got xs i None h = sym (slice_get_past xs i h.3)
  got xs i (Some b) h = sym (slice_get_read xs (length xs) i b.now refl h.3.0 h.1)

module _ (xs : List ℕ) (from to : ℕ) where
  abbrev within : Bool
  within = leb from to && leb to (length xs)

  pub part_within : (part : List ℕ) → from ≤ to → to ≤ length xs → part ≡ slice_range xs from to → part ≡ cond within (slice_range xs from to) []
  part_within part low high is =
      is ∙ sym (ap₂ (λ a b. cond (a && b) (slice_range xs from to) []) (le-leb from to low) (le-leb to (length xs) high))

  both_false : (a b : Bool) → (a ≡ false) ⊎ (b ≡ false) → (a && b) ≡ false
  both_false false b h = refl
  both_false true b (inl h) = absurd (true≢false h)
  both_false true b (inr h) = h

  pub part_outside : (to < from) ⊎ (length xs < to) → ◌≡◌ {A = List ℕ} [] (cond within (slice_range xs from to) [])
  part_outside h = sym (ap (λ b. cond b (slice_range xs from to) []) (both_false (leb from to) (leb to (length xs)) (go h)))
    where
      go : (to < from) ⊎ (length xs < to) → (leb from to ≡ false) ⊎ (leb to (length xs) ≡ false)
      go (inl l) = inl (lt-leb from to l)
      go (inr l) = inr (lt-leb to (length xs) l)
