-- A right may go to another thread: the C library frees from any thread.
use denote.Param.Send.{IsSend}
use denote.RattleType.{RattleType}
use Rattle.std.proofs.Crossing.{frees}
use Rattle.box_row.specs.contracts.right.Right.{the_row}

pub send : (T : RattleType) → IsSend (the_row T)
send T = record { owned = λ d vs. ((λ vss. (tt, (((λ uss. (tt, (tt, ((tt, tt), ((λ wss. (tt, tt)), tt))))), frees.frees _ _ _), tt))), tt); leaving = λ k x vs. (tt, tt) }
