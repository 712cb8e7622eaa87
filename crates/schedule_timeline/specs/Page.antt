-- What a page contains.
use Rattle.std.specs.Prelude.{◌≡◌, ℕ, List, ◌++◌}

-- this text, with any text before and after it
abbrev pub Has : List ℕ → List ℕ → Type 0
Has text page = (before after : List ℕ) × (page ≡ before ++ (text ++ after))
