use Rattle.std.proofs.Common.{◌≡◌, ◌∙◌, ◌<◌, ℕ, List, Some, length, get_or, ap, sym, arith}
use Rattle.std.specs.Prelude.{map, option_map, slice_get, unwrap_or}
use Rattle.std.proofs.lemmas.Option.{slice_get-map, slice_get-get_or}
use Rattle.scheduler.specs.Schedule.{line_of}
use Rattle.scheduler.specs.declared.entry.Entry.{Entry}
use Rattle.scheduler.specs.declared.event.Event.{Event}
use Rattle.scheduler.specs.declared.event.Event.TheVariants.{Claim}
use Rattle.scheduler.specs.declared.schedule.line.Line.{Line}
use Rattle.scheduler.specs.declared.reply.Reply.{Reply}
use Rattle.scheduler.specs.declared.reply.Reply.TheVariants.{Yes, Done}
use Rattle.schedule_timeline.specs.Log.{log_of}
use Rattle.schedule_timeline.proofs.Lemmas.Replies.{a_call_for_each_line}
use Rattle.schedule_timeline.proofs.entry_at.entry_at.Goals as goal

-- the default for places past the end
abbrev other : Entry
other = record { worker = 0; event = Claim 0; reply = Yes }

-- the line at a place is that of the entry there
line_is : (lines : List Line) (log : List Entry) (i : ℕ) (line : Line) → lines ≡ map line_of log → i < length log → slice_get lines i ≡ Some line → line ≡ line_of (get_or log i other)
line_is lines log i line are here is =
    let both : Some line ≡ Some (line_of (get_or log i other)) =
    sym is ∙ ap (λ (l : List Line). slice_get l i) are ∙ slice_get-map line_of log i ∙ ap (option_map line_of) (slice_get-get_or log i other here) in
    ap (λ o. unwrap_or o line) both

-- equal entries, by their parts
entry_same : (e : Entry) (worker : ℕ) (event : Event) (reply : Reply) → worker ≡ e.worker → event ≡ e.event → reply ≡ e.reply
    → record { worker = worker; event = event; reply = reply } ≡ e
entry_same e worker event reply w v r =
    ap (λ n. record { worker = n; event = event; reply = reply }) w ∙ ap (λ (x : Event). record { worker = e.worker; event = x; reply = reply }) v
    ∙ ap (λ (x : Reply). record { worker = e.worker; event = e.event; reply = x }) r

pub returns : goal.returns
returns c =
    let log = log_of c.args.schedule.now in
    let i = c.args.i in
    let here : i < length log = omega (arith, a_call_for_each_line c.args.schedule.now c.requires.replies, c.requires.inside) in
    let line = line_is c.args.schedule.now.lines log i (record { worker = c.line-worker.result.0; event = c.line-worker.result.1; reply = c.line-worker.result.2 }) c.requires.replies here c.line-worker.ensures.line in
    let replied = c.unwrap_or-reply.ensures ∙ ap (λ (l : Line). unwrap_or l.reply Done) line in
    slice_get-get_or log i other here
    ∙ ap Some (sym (entry_same (get_or log i other) c.line-worker.result.0 c.line-worker.result.1 c.unwrap_or-reply.result (ap (λ (l : Line). l.worker) line) (ap (λ (l : Line). l.event) line) replied))
