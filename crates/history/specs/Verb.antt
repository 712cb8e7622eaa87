-- The parts of an event's text.
use Rattle.std.specs.Prelude.{ℕ, ◌^◌, Bool, true, ◌&&◌, nat_lt, List, ◌∷◌, ◌++◌, codes, decimal}
use Rattle.scheduler.specs.declared.schedule.verb.Verb.{Verb}
use Rattle.scheduler.specs.declared.schedule.verb.Verb.TheVariants as verb
use Rattle.scheduler.specs.declared.event.Event.{Event}
use Rattle.scheduler.specs.declared.event.Event.TheVariants.{Claim, Look, Drain, Complete, Settle, Poll, Copy}

abbrev pub verb_text : Verb → List ℕ
verb_text verb.Claim = codes "claim"
verb_text verb.Look = codes "look"
verb_text verb.Drain = codes "drain"
verb_text verb.Complete = codes "complete"
verb_text verb.Settle = codes "settle"
verb_text verb.Poll = codes "poll"
verb_text verb.Copy = codes "copy"

abbrev pub verb_of : Event → Verb
verb_of (Claim r) = verb.Claim
verb_of (Look r) = verb.Look
verb_of (Drain d s) = verb.Drain
verb_of (Complete d) = verb.Complete
verb_of (Settle d) = verb.Settle
verb_of Poll = verb.Poll
verb_of (Copy d n) = verb.Copy

-- a text may have the event's numbers
abbrev pub has_numbers : Event → Bool
has_numbers (Claim r) = nat_lt r (2 ^ 32)
has_numbers (Look r) = nat_lt r (2 ^ 32)
has_numbers (Drain d s) = nat_lt d (2 ^ 32) && nat_lt s (2 ^ 32)
has_numbers (Complete d) = nat_lt d (2 ^ 32)
has_numbers (Settle d) = nat_lt d (2 ^ 32)
has_numbers Poll = true
has_numbers (Copy d n) = nat_lt d (2 ^ 32) && nat_lt n (2 ^ 32)

-- what follows the verb and its space: the event's numbers, each with a space, and then this
abbrev pub numbers_then : Event → List ℕ → List ℕ
numbers_then (Claim r) rest = decimal r ++ (32 ∷ rest)
numbers_then (Look r) rest = decimal r ++ (32 ∷ rest)
numbers_then (Drain d s) rest = decimal d ++ (32 ∷ (decimal s ++ (32 ∷ rest)))
numbers_then (Complete d) rest = decimal d ++ (32 ∷ rest)
numbers_then (Settle d) rest = decimal d ++ (32 ∷ rest)
numbers_then Poll rest = rest
numbers_then (Copy d n) rest = decimal d ++ (32 ∷ (decimal n ++ (32 ∷ rest)))
