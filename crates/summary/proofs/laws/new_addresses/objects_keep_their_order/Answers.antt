use Rattle.summary.proofs.laws.new_addresses.objects_keep_their_order.Goals as goal
use Rattle.summary.proofs.Lemmas.Graph.{new-apart, new-ordered, new-down, new-below}

pub returns : goal.returns
returns c = record { apart = new-apart; ordered = new-ordered; down = new-down; below = new-below }
