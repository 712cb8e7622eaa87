use Rattle.std.proofs.Common.{◌∙◌, ◌+◌, sym, ap, ap₂, drop, map}
use Rattle.std.proofs.lemmas.List.{at_drop_more}
use Rattle.std.specs.Prelude.{◌||◌}
use Rattle.clap.specs.Words.{app_of, with_rule}
use Rattle.command_line.specs.Definition.{rule_in, with_rules}
use Rattle.command_line.proofs.definition.Definition.command.Goals as goal

pub loop-argument-preserved : goal.loop-argument-preserved
loop-argument-preserved c =
    let before = app_of c.loop-argument.command in
    let arguments = c.args.self.now.arguments.now in
    let i = c.loop-argument.argument-index in
    let added = c.in_ok-command.ensures.shape c.arg.ensures.local ∙ ap (with_rule before) c.arg.ensures.rule in
    record {
      app = ap (λ app. with_rules app (map rule_in (drop (i + 1) arguments))) added
          ∙ sym (at_drop_more (λ left. with_rules before (map rule_in left)) arguments i _ c.loop-argument-test.true)
          ∙ c.loop-argument.invariant.app;
      local = c.in_ok-command.ensures.globals ∙ ap₂ ◌||◌ c.loop-argument.invariant.local c.arg.ensures.local;
    }
