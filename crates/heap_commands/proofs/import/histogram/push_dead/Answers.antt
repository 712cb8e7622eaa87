use Rattle.std.proofs.Common.{◌∙◌, ◌++◌, ap}
use Rattle.std.specs.Prelude.{codes, decimal, string_bytes}
use Rattle.heap_commands.specs.Histogram.{bytes_of}
use Rattle.heap_commands.proofs.Lemmas.Texts.{join5}
use Rattle.heap_commands.proofs.import.histogram.push_dead.Goals as goal

pub returns : goal.returns
returns c =
    let all = c.bytes_of-all.ensures ∙ ap bytes_of c.words.ensures in
    join5 _ _ _ _ _ _ _ _ _ _ _
    (c.in_ok-writeln.ensures.bytes ∙ ap (λ n. string_bytes c.args.text.now ++ (codes "dead bytes " ++ (decimal n ++ codes "\n"))) all)
    c.in_ok-push_part.ensures
    c.in_ok-push_part-2.ensures
    c.in_ok-push_part-3.ensures
    c.in_ok-push_part-4.ensures
