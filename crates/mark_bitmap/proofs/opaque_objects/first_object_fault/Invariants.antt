use Rattle.std.proofs.Common.{◌≡◌, ◌+◌, ◌-◌, ◌<◌, ℕ, List, get_or, None}
use Rattle.mark_bitmap.specs.OpaqueObjects.{object_fault}
use Rattle.mark_bitmap.proofs.opaque_objects.first_object_fault.Given as goal

-- the end of the object before the i-th, which has a word, or 0
pub record IsEnd (live sizes : List ℕ) (i end : ℕ) : Type 0 where
  pub first : i ≡ 0 → end ≡ 0
  pub later : 0 < i → (end ≡ get_or live (i - 1) 0 + get_or sizes (i - 1) 0) × (0 < get_or sizes (i - 1) 0)

abbrev pub invariant-loop-i : goal.invariant-loop-i
invariant-loop-i l = record {
  faultless : (j : ℕ) → j < l.i → object_fault l.words l.live l.sizes j ≡ None;
  end : IsEnd l.live l.sizes l.i l.end;
}
