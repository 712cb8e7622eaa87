use Rattle.std.proofs.Common.{◌++◌, ◌∙◌, ap, sym}
use Rattle.command_line.proofs.Lemmas.Spelled.{without_value}
use Rattle.command_line.proofs.respelled.When.of_word.Goals as goal

-- the word is the option, and then none of the three values
pub returns-in_default : goal.returns-in_default
returns-in_default c =
    let stripped = c.in_ok-strip_prefix.ensures.cases in
    let option = c.args.option.now in
    let none = c.in_default in
    let is = stripped.1.1 ∙ ap (λ rest. option ++ rest) (sym stripped.2) in
    sym (without_value option c.in_ok-strip_prefix.field-0.now c.args.word.now is none.not-text none.not-text-2 none.not-text-3)
