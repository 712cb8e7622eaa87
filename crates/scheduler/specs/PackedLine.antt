-- Lines in 12 bytes.
use Rattle.std.specs.Prelude.{ℕ, ◌<◌, Bool, true, nat_lt, IsTrue, Option, Some, None}
use Rattle.scheduler.specs.declared.event.Event.{Event}
use Rattle.scheduler.specs.declared.event.Event.TheVariants.{Claim, Look, Drain, Complete, Settle, Poll, Copy}
use Rattle.scheduler.specs.declared.schedule.line.Line.{Line}
use Rattle.scheduler.specs.declared.reply.Reply.{Reply}
use Rattle.scheduler.specs.declared.reply.Reply.TheVariants.{Yes, No, Open, Outside, Claimed, Filled, Last, NotLast, Done, All, More}
use Rattle.scheduler.specs.declared.schedule.reply_kind.ReplyKind.{ReplyKind}
use Rattle.scheduler.specs.declared.schedule.reply_kind.ReplyKind.TheVariants as kind
use Rattle.scheduler.specs.declared.schedule.verb.Verb.{Verb}
use Rattle.scheduler.specs.declared.schedule.verb.Verb.TheVariants as verb

-- the event of a verb with its numbers; those that it doesn't have are ignored
abbrev pub event_with : Verb → ℕ → ℕ → Event
event_with verb.Claim m n = Claim m
event_with verb.Look m n = Look m
event_with verb.Drain m n = Drain m n
event_with verb.Complete m n = Complete m
event_with verb.Settle m n = Settle m
event_with verb.Poll m n = Poll
event_with verb.Copy m n = Copy m n

-- the reply of a kind with its number of readers, if the kind has one
abbrev pub reply_with : ReplyKind → ℕ → Option Reply
reply_with kind.Any n = None
reply_with kind.Yes n = Some Yes
reply_with kind.No n = Some No
reply_with kind.Open n = Some (Open n)
reply_with kind.Outside n = Some (Outside n)
reply_with kind.Claimed n = Some Claimed
reply_with kind.Filled n = Some Filled
reply_with kind.Last n = Some Last
reply_with kind.NotLast n = Some NotLast
reply_with kind.Done n = Some Done
reply_with kind.All n = Some All
reply_with kind.More n = Some More

-- the line of these parts
abbrev pub unpacked : ℕ → Verb → ℕ → ℕ → ReplyKind → ℕ → Line
unpacked worker verb first second kind readers =
    record { worker = worker; event = event_with verb first second; reply = reply_with kind readers }

abbrev pub few_readers : Reply → Bool
few_readers (Open n) = nat_lt n 256
few_readers (Outside n) = nat_lt n 256
few_readers _ = true

-- the number of readers in a reply, if it has one, fits in a byte
abbrev pub has_few_readers : Option Reply → Bool
has_few_readers None = true
has_few_readers (Some reply) = few_readers reply

-- a line that fits in 12 bytes
pub record IsSmall (line : Line) : Type 0 where
  pub worker : line.worker < 256
  pub readers : IsTrue (has_few_readers line.reply)
