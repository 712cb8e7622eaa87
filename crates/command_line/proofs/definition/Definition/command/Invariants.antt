use Rattle.std.proofs.Common.{◌≡◌, false, drop, map}
use Rattle.clap.specs.Words.{app_of}
use Rattle.clap.specs.declared.builder.command.Command.TheViews.{out-Command}
use Rattle.command_line.specs.Definition.{app_in, rule_in, with_rules}
use Rattle.command_line.proofs.definition.Definition.command.Given as goal

-- the arguments that are left complete the command
abbrev pub invariant-loop-argument : goal.invariant-loop-argument
invariant-loop-argument l = record {
  app : with_rules (app_of l.command) (map rule_in (drop l.argument-index l.self.arguments.now)) ≡ app_in l.self;
  local : (out-Command l.command).has_globals ≡ false;
}
