use Rattle.std.proofs.Common.{◌∙◌, ◌+◌, sym, ap, drop, map}
use Rattle.std.proofs.lemmas.List.{at_drop_more}
use Rattle.clap.specs.Words.{app_of}
use Rattle.command_line.specs.CommandLine.{with_commands}
use Rattle.command_line.specs.Definition.{app_in}
use Rattle.command_line.proofs.commands.with_commands.Goals as goal

pub loop-definition-preserved : goal.loop-definition-preserved
loop-definition-preserved c =
    let before = app_of c.loop-definition.program in
    let definitions = c.args.definitions.now in
    let i = c.loop-definition.definition-index in
    ap (λ app. with_commands app (map app_in (drop (i + 1) definitions))) c.in_ok-program.ensures
    ∙ sym (at_drop_more (λ left. with_commands before (map app_in left)) definitions i _ c.loop-definition-test.true)
    ∙ c.loop-definition.invariant
