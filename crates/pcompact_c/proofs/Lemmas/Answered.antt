-- What a call answers once it has its result.
use Rattle.std.proofs.Common.{◌≡◌, ◌<◌, ℕ, ap, arith, inl, inr}
use Rattle.std.specs.Prelude.{Result, Ok, Err, IfOk, IfErr, MatchResult}
use Rattle.image_streams.specs.declared.fault.Fault.{Fault}
use Rattle.pcompact_c.specs.declared.fault.PcompactFault.{PcompactFault}
use Rattle.pcompact_c.specs.Faults.{IsOf, IsFaultFor, number_of}
use Rattle.pcompact_c.specs.Handles.{IsWhyNotEnded}

-- a fault that was put has the reason of the result
pub put_fault : {T : Type 0} (done : Result T Fault) (P : T → Type 0) (why : Fault → Type 0) (c : PcompactFault) (n : ℕ)
    → ((x : T) → P x → n ≡ 0) → MatchResult done P (λ fault. IsOf fault c) → IfErr done why → 0 < n → IsFaultFor why c
put_fault (Ok x) P why c n none put reason some =
    let no : n ≡ 0 = none x put in
    let f : ⊥ = omega arith in absurd f
put_fault (Err fault) P why c n none put reason some = (fault, put, reason)

-- two facts of what was returned, as one
pub both_of_ok : {T E : Type 0} (r : Result T E) (P Q : T → Type 0) → IfOk r P → IfOk r Q → IfOk r (λ x. P x × Q x)
both_of_ok (Ok x) P Q p q = (p, q)
both_of_ok (Err e) P Q p q = tt

-- why handles' session isn't ended has a number
numbered : (fault : Fault) → IsWhyNotEnded fault → 0 < number_of fault
numbered fault why = elim why [
  | inl workers ↦ let n = ap number_of workers in omega arith
  | inr (inl length) ↦ let n = ap number_of length in omega arith
  | inr (inr memory) ↦ let n = ap number_of memory in omega arith
]

-- an end that answers fault 0 has a result, of which both facts hold
pub ended : {T : Type 0} (done : Result T Fault) (P Q : T → Type 0) (c : PcompactFault)
    → MatchResult done P (λ fault. IsOf fault c) → IfErr done IsWhyNotEnded → IfOk done Q → c.number ≡ 0 → (x : T) × P x × Q x
ended (Ok x) P Q c put why is none = (x, put, is)
ended (Err fault) P Q c put why is none =
    let some = numbered fault why in
    let same = put.number in
    let f : ⊥ = omega arith in absurd f
