use Rattle.std.specs.Prelude.{◌≡◌, ◌≢◌, ◌⊎◌, ℕ, ◌<◌, Contains, IsTrue, nat_eq, true, List, [], ◌∷◌, length, map, slice_index_or, String, codes, option_map, Some, string_bytes}
use Rattle.std.specs.List.{starts_with}
use Rattle.clap.specs.Walk.{Text}
use Rattle.clap.specs.Words.{App, IsAmong, fault_of, new_app, subcommand_of, takes, with_subcommand}
use Rattle.clap.specs.declared.error.kind.ErrorKind.{ErrorKind}
use Rattle.clap.specs.declared.error.kind.ErrorKind.TheVariants.{DisplayHelp, DisplayVersion}
use Rattle.command_line.specs.Commands.{listed}
use Rattle.command_line.specs.Respelling.{plain_line}

module _ {A : Type 0} where
  -- the words have these texts
  abbrev pub AreWords : List (String A) → List (List ℕ) → Type 0
  AreWords words texts = map string_bytes words ≡ texts

module _ {A : Type 0} where
  -- one of the words has this text
  abbrev pub HaveWord : List ℕ → List (String A) → Type 0
  HaveWord text words = Contains (map string_bytes words) text

module _ {A : Type 0} where
  -- one of the words begins with this text
  abbrev pub HaveBeginning : List ℕ → List (String A) → Type 0
  HaveBeginning text words = (k : ℕ) × (k < length words) × IsTrue (starts_with nat_eq (slice_index_or (map string_bytes words) k []) text)

-- the program without commands: its first word isn't the program's name, and a command is required
abbrev pub program_words : App
program_words = let plain = new_app (codes "pcompact") in record plain {
  top = record plain.top { no_binary_name = true; has_version = true; subcommand_required = true };
}

-- the program with these commands added in turn
abbrev pub with_commands : App → List App → App
with_commands program [] = program
with_commands program (command ∷ others) = with_commands (with_subcommand program command.top) others

-- the program and its commands, as `clap` sees them
abbrev pub commands : App
commands = with_commands program_words listed

-- the program accepts the line, which calls the command of this name
abbrev pub IsCallOf : Text → List Text → Type 0
IsCallOf name line = (takes commands line ≡ true) × (option_map (λ p. p.0) (subcommand_of commands line) ≡ Some name)

module _ {A : Type 0} where
  -- the words call the command of this name
  abbrev pub AreCallOf : Text → List (String A) → Type 0
  AreCallOf name words = IsCallOf name (map string_bytes words)

-- the program refuses the line, and shows neither help nor its version
abbrev pub IsRefused : List Text → Type 0
IsRefused line = (fault_of commands line ≢ [])
    × ((kind : ErrorKind) → IsAmong kind (fault_of commands line) → (kind ≢ DisplayHelp) × (kind ≢ DisplayVersion))

-- the line is refused, but with plain options it calls the command of this name
abbrev pub IsPlainCallOf : Text → List Text → Type 0
IsPlainCallOf name line = IsRefused line × IsCallOf name (plain_line line)

module _ {A : Type 0} where
  -- the words call the command of this name, as they are or with plain options
  abbrev pub AreLineOf : Text → List (String A) → Type 0
  AreLineOf name words = AreCallOf name words ⊎ IsPlainCallOf name (map string_bytes words)
