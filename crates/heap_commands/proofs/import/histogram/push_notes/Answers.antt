use Rattle.heap_commands.proofs.Lemmas.Texts.{join4}
use Rattle.heap_commands.proofs.import.histogram.push_notes.Goals as goal

pub returns : goal.returns
returns c =
    join4 _ _ _ _ _ _ _ _ _ c.in_ok-writeln.ensures.bytes c.in_ok-writeln-2.ensures.bytes c.in_ok-push_followed.ensures c.in_ok-push_str.ensures.bytes
