-- Which place of which row a pointer is.
use Rattle.std.specs.Prelude.{◌≡◌, ℕ, ◌*◌}
use Rattle.std.specs.Ptr.{Ptr}
use base.Fml.{Fml, fex, ftrue}
use denote.RawPtr.{◌+ₚ◌}
use mir.Syntax.{Ty}
use prog.Memory.{size}

-- p is that place of a row of values of this type
abbrev pub IsAt : Ptr → ℕ → Ty → Ptr → Type 0
IsAt row index ty p = p ≡ row +ₚ (index * size ty)

abbrev pub is_at : Ptr → ℕ → Ty → Ptr → Fml
is_at row index ty p = fex (IsAt row index ty p) (λ _. ftrue)
