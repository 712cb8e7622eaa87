use Rattle.history.proofs.Lemmas.Replays.{replay_legal, replay_state, one_replay, refused_not_taken, refused_once, told_calls}
use Rattle.history.proofs.laws.replay_laws.what_replays_keep.Goals as goal

pub returns : goal.returns
returns c = record { legal = replay_legal; state = replay_state; one = one_replay; refused = refused_not_taken; once = refused_once; calls = told_calls }
