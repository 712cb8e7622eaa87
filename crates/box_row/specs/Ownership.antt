-- What the rest of a row owns.
--     step R      how many bytes a value takes
--     values R s p xs      xs lie side by side from p on, s bytes each
--     Stands s row p index count      p is a place of the row, and with the values from there on the row isn't too long
use Rattle.std.specs.Prelude.{◌≡◌, ℕ, ◌+◌, ◌*◌, ◌^◌, ◌<◌, List, [], ◌∷◌, length}
use Rattle.std.specs.Borrow.{full_share}
use Rattle.std.specs.Ptr.{Ptr, lies_at}
use base.Fml.{Fml, fex, fsep, ftrue}
use denote.RattleType.{RattleType}
use denote.Memory.{lone}
use denote.RawPtr.{InBlock, ◌+ₚ◌}
use mir.Raw.{raw}
use prog.Memory.{size}

abbrev pub step : RattleType → ℕ
step R = size (raw (lone R.mir))

abbrev pub values : (R : RattleType) → ℕ → Ptr → List R.Denot → Fml
values R s p [] = ftrue
values R s p (x ∷ xs) = fsep (lies_at R full_share p x) (values R s (p +ₚ s) xs)

pub record Stands (s : ℕ) (row p : Ptr) (index count : ℕ) : Type 0 where
  pub inside : InBlock row
  pub at : p ≡ row +ₚ (index * s)
  pub small : (index + count) * s < 2 ^ 63

abbrev pub rest_owns : (R : RattleType) → Ptr → Ptr → ℕ → List R.Denot → Fml
rest_owns R row p index xs = fsep (fex (Stands (step R) row p index (length xs)) (λ _. ftrue)) (values R (step R) p xs)
