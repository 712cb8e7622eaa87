use Rattle.std.specs.Prelude.{ℕ, List}

-- a command of the program: its name, and the text that a successful call prints
pub record Command : Type 1 where
  pub name : List ℕ
  pub prints : List ℕ → Type 0
