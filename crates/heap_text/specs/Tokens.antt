-- The tokens of a line, as its text has them.
use Rattle.std.specs.Prelude.{⊤, ◌≡◌, ℕ, ◌-◌, ◌≤◌, ◌==◌, if◌then◌else◌, List, [], ◌∷◌, codes, decimal}

-- no byte of a token is a space, a newline or another one below the digits
abbrev pub IsToken : List ℕ → Type 0
IsToken [] = ⊤
IsToken (b ∷ bs) = (48 ≤ b) × IsToken bs

-- what follows a token in a line: nothing, or a space and more
abbrev pub IsAfterToken : List ℕ → Type 0
IsAfterToken [] = ⊤
IsAfterToken (b ∷ bs) = b ≡ 32

-- a reference or a root without the space before it
abbrev pub reference_word : ℕ → List ℕ
reference_word w = if w == 0 then codes "null" else 64 ∷ decimal (w - 1)
