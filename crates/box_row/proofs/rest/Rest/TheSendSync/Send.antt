-- The rest of a row may go to another thread where its values may.
use Rattle.std.proofs.Common.{ℕ, List, [], ◌∷◌}
use base.Shift.{Keyless}
use denote.Builtin.{RawPtr}
use denote.Param.Send.{IsSend, owning_send, struct_send, sendable}
use denote.RattleType.{RattleType}
use denote.RawPtr.{Ptr, ◌+ₚ◌}
use denote.Struct.Owning.{fields, shape, to}
use denote.Struct.Struct.{exits_of}
use Rattle.std_alloc.proofs.SendSync.{lies, quiet}
use Rattle.box_row.specs.Ownership.{step, values}
use Rattle.box_row.specs.contracts.rest.Rest.{the_row, the_type}

pointer : IsSend RawPtr
pointer = search sendable

kept : (T : RattleType) → IsSend T → (n : ℕ) (p : Ptr) (xs : List T.Denot) → Keyless (values T n p xs)
kept T s n p [] = tt
kept T s n p (x ∷ xs) = (lies T s p x, kept T s n (p +ₚ n) xs)

pub send : (T : RattleType) → IsSend T → IsSend (the_row T)
send T s = let O = the_type T in
    owning_send O (pointer, tt) (λ d. ((λ stands. tt), kept T s (step T) d.at d.items)) (λ k. quiet (to O) (exits_of k (fields O)) ((struct_send (shape O) (pointer, tt)).leaving k))
