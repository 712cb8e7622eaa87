use Rattle.std.proofs.Common.{◌≡◌, drop, map}
use Rattle.clap.specs.Words.{app_of}
use Rattle.command_line.specs.CommandLine.{with_commands}
use Rattle.command_line.specs.Definition.{app_in}
use Rattle.command_line.proofs.commands.with_commands.Given as goal

-- the commands that are left complete the program
abbrev pub invariant-loop-definition : goal.invariant-loop-definition
invariant-loop-definition l = with_commands (app_of l.program) (map app_in (drop l.definition-index l.definitions))
    ≡ with_commands (app_of l.initial.program) (map app_in l.definitions)
