-- Two tests that pass together.
use Rattle.std.proofs.Common.{◌≡◌, Bool, true, false, refl, sym}

pub same_tests : (a b : Bool) → (a ≡ true → b ≡ true) → (b ≡ true → a ≡ true) → a ≡ b
same_tests true b f g = sym (f refl)
same_tests false true f g = g refl
same_tests false false f g = refl
