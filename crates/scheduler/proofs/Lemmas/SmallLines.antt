-- Lines that fit in 12 bytes.
use Rattle.std.proofs.Common.{◌≡◌, ℕ, ◌<◌, ◌≤◌, true, Option, Some, None, refl, arith}
use Rattle.std.specs.Prelude.{nat_lt, ◌&&◌}
use Rattle.std.proofs.lemmas.Bool.{and_parts, ltb-true, leb-true, lt-ltb, false≢true}
use Rattle.scheduler.specs.PackedLine.{IsSmall, few_readers, has_few_readers}
use Rattle.scheduler.specs.Schedule.{is_event, is_reply_to, is_line_reply, is_line}
use Rattle.scheduler.specs.declared.event.Event.{Event}
use Rattle.scheduler.specs.declared.event.Event.TheVariants.{Look}
use Rattle.scheduler.specs.declared.schedule.line.Line.{Line}
use Rattle.scheduler.specs.declared.reply.Reply.{Reply}
use Rattle.scheduler.specs.declared.reply.Reply.TheVariants.{Yes, No, Open, Outside, Claimed, Filled, Last, NotLast, Done, All, More}

open_small : (event : Event) (n : ℕ) → is_reply_to event (Open n) ≡ true → n ≤ 2
open_small (Look r) n h = leb-true n 2 h
open_small _ n h = absurd (false≢true h)

outside_small : (event : Event) (n : ℕ) → is_reply_to event (Outside n) ≡ true → n ≤ 2
outside_small (Look r) n h = leb-true n 2 h
outside_small _ n h = absurd (false≢true h)

few_reply : (event : Event) (reply : Reply) → is_reply_to event reply ≡ true → few_readers reply ≡ true
few_reply event Yes h = refl
few_reply event No h = refl
few_reply event (Open n) h = let two = open_small event n h in lt-ltb n 256 (omega arith)
few_reply event (Outside n) h = let two = outside_small event n h in lt-ltb n 256 (omega arith)
few_reply event Claimed h = refl
few_reply event Filled h = refl
few_reply event Last h = refl
few_reply event NotLast h = refl
few_reply event Done h = refl
few_reply event All h = refl
few_reply event More h = refl

few_told : (event : Event) (told : Option Reply) → is_line_reply event told ≡ true → has_few_readers told ≡ true
few_told event None h = refl
few_told event (Some reply) h = few_reply event reply h

-- each line of a schedule is one
pub line_small : (workers : ℕ) (l : Line) → workers ≤ 64 → is_line workers l ≡ true → IsSmall l
line_small workers l most h =
    let b = and_parts (nat_lt l.worker workers) (is_event l.event && is_line_reply l.event l.reply) h in
    let d = and_parts (is_event l.event) (is_line_reply l.event l.reply) b.1 in
    let below : l.worker < workers = ltb-true l.worker workers b.0 in
    record { worker = omega arith; readers = few_told l.event l.reply d.1 }
