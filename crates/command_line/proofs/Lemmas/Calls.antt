use Rattle.std.proofs.Common.{◌≡◌, ◌≢◌, ◌∙◌, subst, sym, ap, refl, List, [], ◌∷◌, codes, true, Option, Some, None, option_map, Box}
use Rattle.std.proofs.Math.Logic.{⊎_elim}
use Rattle.std.specs.Box.{box_value}
use Rattle.clap.specs.Words.{App, HasKind, HasMatchesOf, IsAmong, Text, fault_of, is_simple, is_simple_and_free, kind_of, subcommand_name_of, subcommand_of, subcommand_rows, takes}
use Rattle.clap.specs.declared.parser.matches.ArgMatches.{ArgMatches}
use Rattle.clap.specs.declared.parser.matches.SubCommand.{SubCommand}
use Rattle.clap.specs.declared.parser.matches.ArgMatches.TheViews.{out-ArgMatches, out-SubCommand}
use Rattle.clap.proofs.OnLiterals.{clap_on_literals}
use Rattle.clap.specs.declared.error.Error.{Error}
use Rattle.clap.specs.declared.error.kind.ErrorKind.TheVariants.{DisplayHelp, DisplayVersion, OutOfMemory, TooManyValues}
use Rattle.command_line.specs.CommandLine.{commands, IsCallOf, IsRefused}

-- the line of the one word `board`
abbrev pub board_line : List Text
board_line = codes "board" ∷ []

pub board_is_taken : takes commands board_line ≡ true
unfolding clap_on_literals
board_is_taken = refl

pub board_is_met : option_map (λ p. p.0) (subcommand_of commands board_line) ≡ Some (codes "board")
unfolding clap_on_literals
board_is_met = refl

-- the one word `board` calls that command
pub calls_board : (line : List Text) → line ≡ board_line → IsCallOf (codes "board") line
calls_board line is =
    (ap (takes commands) is ∙ board_is_taken, ap (λ w. option_map (λ p. p.0) (subcommand_of commands w)) is ∙ board_is_met)

module _ {Z : Type 0} where
  -- the name that a parse met is that of its rows
  pub name_of_rows : (met : Option (Box SubCommand Z))
      → option_map (λ b. (out-SubCommand (box_value b)).name.now) met ≡ option_map (λ p. p.0) (subcommand_rows met)
  name_of_rows None = refl
  name_of_rows (Some b) = refl

-- a call's matches are those of its command
pub met_by_call : (a : App) (line : List Text) (name : Text) (m : ArgMatches) → a ≡ commands → HasMatchesOf a line m
    → IsCallOf name line → subcommand_name_of m ≡ Some name
met_by_call a line name m is matches call =
    name_of_rows (out-ArgMatches m).subcommand
    ∙ (ap (option_map (λ p. p.0)) ((matches (ap is_simple is)).1 ∙ ap (λ x. subcommand_of x line) is) ∙ call.1)

-- no argument of a command has a rule on another
pub commands_are_free : is_simple_and_free commands ≡ true
unfolding clap_on_literals
commands_are_free = refl

apart_help : OutOfMemory ≡ DisplayHelp → ⊥
apart_help e = cc

apart_version : OutOfMemory ≡ DisplayVersion → ⊥
apart_version e = cc

-- the error of a line that is refused shows neither help nor the version
pub mistake : (line : List Text) (e : Error) → IsRefused line → HasKind (fault_of commands line) e
    → (kind_of e ≢ DisplayHelp) × (kind_of e ≢ DisplayVersion)
mistake line e refused among = ⊎_elim
    (λ memory. ((λ help. absurd (apart_help (sym memory ∙ help))), λ version. absurd (apart_version (sym memory ∙ version))))
    (refused.1 (kind_of e)) among

no_kinds : TooManyValues ∷ [] ≡ [] → ⊥
no_kinds e = cc

values_or_help : TooManyValues ≡ DisplayHelp → ⊥
values_or_help e = cc

values_or_version : TooManyValues ≡ DisplayVersion → ⊥
values_or_version e = cc

-- a line in which a flag has a value is refused
pub refused_for_a_value : (line : List Text) → fault_of commands line ≡ TooManyValues ∷ [] → IsRefused line
refused_for_a_value line is = (
  λ none. no_kinds (sym is ∙ none),
  λ kind among. ⊎_elim
      (λ one. ((λ help. values_or_help (sym one ∙ help)), λ version. values_or_version (sym one ∙ version)))
      (λ none. absurd none)
      (subst (IsAmong kind) is among),
)
