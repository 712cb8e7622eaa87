-- Events and replies as text.
use Rattle.std.specs.Prelude.{ℕ, List, ◌∷◌, ◌++◌, codes, decimal}
use Rattle.scheduler.specs.declared.event.Event.{Event}
use Rattle.scheduler.specs.declared.event.Event.TheVariants.{Claim, Look, Drain, Complete, Settle, Poll, Copy}
use Rattle.scheduler.specs.declared.reply.Reply.{Reply}
use Rattle.scheduler.specs.declared.reply.Reply.TheVariants.{Yes, No, Open, Outside, Claimed, Filled, Last, NotLast, Done, All, More}

abbrev pub event_text : Event → List ℕ
event_text (Claim r) = codes "claim " ++ decimal r
event_text (Look r) = codes "look " ++ decimal r
event_text (Drain d s) = codes "drain " ++ (decimal d ++ (32 ∷ decimal s))
event_text (Complete d) = codes "complete " ++ decimal d
event_text (Settle d) = codes "settle " ++ decimal d
event_text Poll = codes "poll"
event_text (Copy d n) = codes "copy " ++ (decimal d ++ (32 ∷ decimal n))

abbrev pub reply_text : Reply → List ℕ
reply_text Yes = codes "yes"
reply_text No = codes "no"
reply_text (Open n) = codes "open" ++ decimal n
reply_text (Outside n) = codes "out" ++ decimal n
reply_text Claimed = codes "claimed"
reply_text Filled = codes "filled"
reply_text Last = codes "last"
reply_text NotLast = codes "notlast"
reply_text Done = codes "ok"
reply_text All = codes "all"
reply_text More = codes "more"
