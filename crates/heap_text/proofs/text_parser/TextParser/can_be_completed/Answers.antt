use Rattle.std.proofs.Common.{◌≡◌, ℕ, List, true, sym, subst, length-drop, arith}
use Rattle.std.specs.List.{list_all}
use Rattle.std.proofs.lemmas.List.{take_rest}
use Rattle.heap_text.specs.TextBytes.{is_text_byte}
use Rattle.heap_text.proofs.Lemmas.WaitSteps.{plain_from, unfinished}
use Rattle.heap_text.proofs.text_parser.TextParser.can_be_completed.Goals as goal

pub returns-then-len-longest_line : goal.returns-then-len-longest_line
returns-then-len-longest_line c image more valid w =
    let u = unfinished image valid c.args.self.now c.args.text.now more w in
    absurd (omega (arith, u.0.short, length-drop c.args.self.now.begin c.args.text.now, c.if-len-longest_line.true, c.longest_line.ensures))

pub returns-else-len-le-LONG_LINE : goal.returns-else-len-le-LONG_LINE
returns-else-len-le-LONG_LINE c image more valid w =
    let u = unfinished image valid c.args.self.now c.args.text.now more w in
    c.is_of_line.ensures (subst (λ (xs : List ℕ). list_all is_text_byte xs ≡ true) (sym (take_rest c.args.text.now c.max.result))
    (plain_from c.args.text.now c.args.self.now.begin c.max.result (omega (arith, c.max.ensures)) u.0.plain))
