use Rattle.image_streams.proofs.Lemmas.Sending.{sends_none, sends_first, sends_more, all_sent, beginning_of_first, failed_piece}
use Rattle.image_streams.proofs.laws.pieces_sent.Goals as goal

pub returns-clause-nothing : goal.returns-clause-nothing
returns-clause-nothing c = sends_none

pub returns-clause-given : goal.returns-clause-given
returns-clause-given c = sends_first

pub returns-clause-in_turn : goal.returns-clause-in_turn
returns-clause-in_turn c = sends_more

pub returns-clause-flushed : goal.returns-clause-flushed
returns-clause-flushed c = all_sent

pub returns-clause-beginning : goal.returns-clause-beginning
returns-clause-beginning c = beginning_of_first

pub returns-clause-cut_off : goal.returns-clause-cut_off
returns-clause-cut_off c = failed_piece
