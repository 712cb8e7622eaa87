use Rattle.std.proofs.Common.{◌≡◌, List, ℕ, Option, sym, subst}
use Rattle.std.proofs.lemmas.Result.{IfErr-weaker, IfOk-weaker}
use Rattle.heap_commands.specs.Replay.{IsReplayOf}
use Rattle.heap_commands.proofs.Lemmas.Unreplayed.{out_of_memory}
use Rattle.heap_commands.proofs.replay.replay_text.Goals as goal

-- what is true of the lines is true of a text that has them
printed : (left left' source : Option (List ℕ)) (lines text : List ℕ) → text ≡ lines → IsReplayOf left left' source lines → IsReplayOf left left' source text
printed left left' source lines text is replay = subst (IsReplayOf left left' source) (sym is) replay

pub returns-clause-replay : goal.returns-clause-replay
returns-clause-replay g c =
    IfOk-weaker c.text_of.result _ _ (λ text is. printed _ _ _ _ _ is c.in_ok-replayed.ensures.replay) c.text_of.ensures.text

pub returns-clause-fault : goal.returns-clause-fault
returns-clause-fault g c =
    IfErr-weaker c.text_of.result _ _ (λ unreplayed is. out_of_memory _ _ _ _ is) c.text_of.ensures.fault
