-- A gap, cut into fillers.
use Rattle.std.proofs.Common.{◌≡◌, ℕ, ◌+◌, ◌-◌, ◌*◌, ◌/◌, ◌%◌, ◌≤◌, ◌<◌, min, true, sym, subst, arith}
use Rattle.object_heap.specs.HeapImage.{HeapImage, is_live_word}
use Rattle.summary.specs.NewAddresses.{prefix_end}
use Rattle.summary.specs.Fillers.{IsDeadRun}
use Rattle.verification.specs.Compared.{IsGap}

-- the part of a gap that begins at its start or at a multiple of 2 ^ 31 is a filler
pub piece : (image : HeapImage) (from to at end : ℕ) → IsGap image from to → from ≤ at → at < to → (0 < at % 2147483648 → at ≡ from) → end ≡ min to ((at / 2147483648 + 1) * 2147483648) → IsDeadRun image at end
piece image from to at end gap low less cut is =
    let inside : to ≤ prefix_end image = gap.inside in
    record {
      some = omega arith;
      inside = omega arith;
      dead = λ q l m. gap.dead q (omega arith) (omega arith);
      begins = λ h.
          let first : at ≡ from = cut h in
          let high : 0 < from = omega arith in
          subst (λ a. is_live_word image (a - 1) ≡ true) (sym first) (gap.begins high);
      ends = λ h.
          let last : end ≡ to = omega arith in
          let high : to < prefix_end image = omega arith in
          subst (λ b. is_live_word image b ≡ true) (sym last) (gap.ends high);
    }

-- the next part begins at a multiple, unless the gap ends
pub next_cut : (from to at end : ℕ) → at < to → end ≡ min to ((at / 2147483648 + 1) * 2147483648) → end < to → 0 < end % 2147483648 → end ≡ from
next_cut from to at end less is high off = let no : ⊥ = omega arith in absurd no
