use Rattle.heap_commands.proofs.Lemmas.Texts.{join5}
use Rattle.heap_commands.proofs.import.histogram.push_sums.Goals as goal

pub returns : goal.returns
returns c =
    join5 _ _ _ _ _ _ _ _ _ _ _
    c.in_ok-push_str.ensures.bytes
    c.in_ok-push_columns.ensures
    c.in_ok-push_str-2.ensures.bytes
    c.in_ok-push_dead.ensures
    c.in_ok-push_notes.ensures
