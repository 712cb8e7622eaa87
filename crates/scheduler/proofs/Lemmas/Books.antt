-- Books: one call more, and the list as a schedule.
use Rattle.std.proofs.Common.{◌≡◌, ℕ, ◌<◌, ◌≤◌, Bool, true, false, List, [], ◌∷◌, ◌++◌, Option, Some, None, refl, sym, ap, ◌∙◌, subst, arith}
use Rattle.std.specs.Prelude.{IsTrue, All, map, nat_lt, ◌&&◌, ◌==◌, not, is_some, if◌then◌else◌}
use Rattle.std.proofs.lemmas.Bool.{and_from, and_parts, lt-ltb, le-leb}
use Rattle.std.proofs.lemmas.List.{map-append}
use Rattle.std.proofs.lemmas.List.Elements.{All-nil, All-cons}
use Rattle.scheduler.specs.MoveTable.{MoveTable, IsMoveTable, has_source, to_fill}
use Rattle.scheduler.specs.State.{State, opening, readers_left, may_claim, unsettled, reply_to, state_after, Allows, IsStep}
use Rattle.scheduler.specs.History.{state_from, state_of, AreSteps, IsLegal}
use Rattle.scheduler.specs.Scheduler.{SchedulerView, state_in}
use Rattle.scheduler.specs.Schedule.{IsSchedule, is_event, is_reply_to, is_line, line_of, with_entry, entries_of}
use Rattle.scheduler.specs.Book.{BookView, IsKeptBook}
use Rattle.scheduler.specs.declared.event.Event.{Event}
use Rattle.scheduler.specs.declared.event.Event.TheVariants.{Claim, Look, Drain, Complete, Settle, Poll, Copy}
use Rattle.scheduler.specs.declared.reply.Reply.{Reply}
use Rattle.scheduler.specs.declared.reply.Reply.TheVariants.{Yes, No, Open, Outside, Claimed, Filled, Last, NotLast, All as AllSettled, More}
use Rattle.scheduler.specs.declared.entry.Entry.{Entry}
use Rattle.scheduler.specs.declared.schedule.line.Line.{Line}
use Rattle.scheduler.proofs.Lemmas.Counting.{count_by_fewer}
use Rattle.scheduler.proofs.Lemmas.Logs.{state_from-append}

-- histories one after the other
pub AreSteps-append : (m : MoveTable) (workers : ℕ) (now : State) (xs ys : List Entry) → AreSteps m workers now xs → AreSteps m workers (state_from now xs) ys → AreSteps m workers now (xs ++ ys)
AreSteps-append m workers now [] ys front back = back
AreSteps-append m workers now (x ∷ xs) ys front back = (front.0, front.1, AreSteps-append m workers (state_after now x.worker x.event x.reply) xs ys front.2 back)

with_entry-append : (line : Line) (reply : Option Reply) (xs ys : List Entry) → with_entry line reply (xs ++ ys) ≡ with_entry line reply xs ++ ys
with_entry-append line None xs ys = refl
with_entry-append line (Some reply) xs ys = refl

pub entries_of-push : (lines : List Line) (e : Entry) → entries_of (lines ++ line_of e ∷ []) ≡ entries_of lines ++ e ∷ []
entries_of-push [] e = refl
entries_of-push (line ∷ lines) e = ap (with_entry line line.reply) (entries_of-push lines e) ∙ with_entry-append line line.reply (entries_of lines) (e ∷ [])

-- one call more keeps the book
pub book_step : (old new : SchedulerView) (lines : List Line) (e : Entry) → IsKeptBook old lines → e.worker < old.workers → new.moves ≡ old.moves → new.workers ≡ old.workers
    → IsStep old.moves (state_in old) e.worker e.event e.reply (state_in new) → IsKeptBook new (lines ++ line_of e ∷ [])
book_step old new lines e kept few moves workers step =
    let step' : IsStep old.moves (state_of (entries_of lines)) e.worker e.event e.reply (state_after (state_of (entries_of lines)) e.worker e.event e.reply) =
    subst (λ (s : State). IsStep old.moves s e.worker e.event e.reply (state_after s e.worker e.event e.reply)) kept.leads (record { allowed = step.allowed; replied = step.replied; after = refl }) in
    let push = entries_of-push lines e in
    let legal : IsLegal old.moves old.workers (entries_of lines ++ e ∷ []) = AreSteps-append old.moves old.workers opening (entries_of lines) (e ∷ []) kept.legal (few, step', tt) in
    let legal' : IsLegal old.moves old.workers (entries_of (lines ++ line_of e ∷ [])) = subst (IsLegal old.moves old.workers) (sym push) legal in
    record {
      some = rw workers kept.some;
      few = rw workers kept.few;
      table = rw moves kept.table;
      replies = ap (λ ls. ls ++ line_of e ∷ []) kept.replies ∙ (sym (map-append line_of (entries_of lines) (e ∷ [])) ∙ ap (map line_of) (sym push));
      legal = subst (λ (m : MoveTable). IsLegal m new.workers (entries_of (lines ++ line_of e ∷ []))) (sym moves) (subst (λ (n : ℕ). IsLegal old.moves n (entries_of (lines ++ line_of e ∷ []))) (sym workers) legal');
      leads = step.after ∙ (ap (λ (s : State). state_after s e.worker e.event e.reply) kept.leads ∙ (sym (state_from-append opening (entries_of lines) (e ∷ [])) ∙ ap state_of (sym push)));
    }

few_readers : (m : MoveTable) (now : State) (s : ℕ) → IsMoveTable m → readers_left m now s ≤ 2
few_readers m now s table =
    let fewer = count_by_fewer (λ pair. s == pair.1 && not (now.drained pair.0 pair.1)) (has_source s) m.pairs (λ pair e. (and_parts (s == pair.1) (not (now.drained pair.0 pair.1)) e).0) in
    let two = table.two s in
    omega arith

claim_reply : (b : Bool) (r : ℕ) → is_reply_to (Claim r) (if b then Yes else No) ≡ true
claim_reply true r = refl
claim_reply false r = refl

drain_reply : (b : Bool) (d s : ℕ) → is_reply_to (Drain d s) (if b then Last else NotLast) ≡ true
drain_reply true d s = refl
drain_reply false d s = refl

settle_reply : (b : Bool) (d : ℕ) → is_reply_to (Settle d) (if b then AllSettled else More) ≡ true
settle_reply true d = refl
settle_reply false d = refl

poll_reply : (b : Bool) → is_reply_to Poll (if b then AllSettled else More) ≡ true
poll_reply true = refl
poll_reply false = refl

look_reply : (a b c : Bool) (n r : ℕ) → n ≤ 2 → is_reply_to (Look r) (if a then Filled else if b then Claimed else if c then Open n else Outside n) ≡ true
look_reply true b c n r two = refl
look_reply false true c n r two = refl
look_reply false false true n r two = le-leb n 2 two
look_reply false false false n r two = le-leb n 2 two

-- the reply to an event is one that it may have
pub reply_fits : (m : MoveTable) (now : State) (event : Event) → IsMoveTable m → is_reply_to event (reply_to m now event) ≡ true
reply_fits m now (Claim r) table = claim_reply (may_claim m now r) r
reply_fits m now (Look r) table = look_reply (now.filled r) (is_some (now.claimed r)) (to_fill m r) (readers_left m now r) r (few_readers m now r table)
reply_fits m now (Drain d s) table = drain_reply (readers_left m (state_after now 0 (Drain d s) Last) s == 0) d s
reply_fits m now (Complete d) table = refl
reply_fits m now (Settle d) table = settle_reply (unsettled m (state_after now 0 (Settle d) AllSettled) == 0) d
reply_fits m now Poll table = poll_reply (unsettled m now == 0)
reply_fits m now (Copy d n) table = refl

event_fits : (m : MoveTable) (now : State) (worker : ℕ) (event : Event) → Allows m now worker event → is_event event ≡ true
event_fits m now worker (Claim r) allowed = refl
event_fits m now worker (Look r) allowed = refl
event_fits m now worker (Drain d s) allowed = refl
event_fits m now worker (Complete d) allowed = refl
event_fits m now worker (Settle d) allowed = refl
event_fits m now worker Poll allowed = refl
event_fits m now worker (Copy d n) allowed = le-leb 1 n allowed.1

-- a step is a line
pub step_fits : (m : MoveTable) (workers : ℕ) (now new : State) (e : Entry) → IsMoveTable m → e.worker < workers → IsStep m now e.worker e.event e.reply new → is_line workers (line_of e) ≡ true
step_fits m workers now new e table few step =
    and_from (nat_lt e.worker workers) (is_event e.event && is_reply_to e.event e.reply) (lt-ltb e.worker workers few)
    (and_from (is_event e.event) (is_reply_to e.event e.reply) (event_fits m now e.worker e.event step.allowed) (ap (is_reply_to e.event) step.replied ∙ reply_fits m now e.event table))

pub steps_fit : (m : MoveTable) (workers : ℕ) (now : State) (log : List Entry) → IsMoveTable m → AreSteps m workers now log → All (λ line. IsTrue (is_line workers line)) (map line_of log)
steps_fit m workers now [] table steps = All-nil (λ line. IsTrue (is_line workers line))
steps_fit m workers now (e ∷ es) table steps =
    All-cons (λ line. IsTrue (is_line workers line)) (line_of e) (map line_of es) (step_fits m workers now (state_after now e.worker e.event e.reply) e table steps.0 steps.1)
    (steps_fit m workers (state_after now e.worker e.event e.reply) es table steps.2)

-- a book's list is a schedule
pub book_schedule : (scheduler : SchedulerView) (lines : List Line) → IsKeptBook scheduler lines → IsSchedule (record { workers = scheduler.workers; lines = lines })
book_schedule scheduler lines kept =
    record {
      some = kept.some;
      few = kept.few;
      lines = subst (λ (ls : List Line). All (λ line. IsTrue (is_line scheduler.workers line)) ls) (sym kept.replies) (steps_fit scheduler.moves scheduler.workers opening (entries_of lines) kept.table kept.legal);
    }

-- a book after a call
pub record IsApplied (old new : SchedulerView) (lines lines' : List Line) (e : Entry) : Type 0 where
  pub kept : IsKeptBook new lines'
  pub view : ◌≡◌ {A = BookView} (record { workers = new.workers; moves = new.moves; log = entries_of lines' }) (record { workers = old.workers; moves = old.moves; log = entries_of lines ++ e ∷ [] })
  pub step : IsStep old.moves (state_of (entries_of lines)) e.worker e.event e.reply (state_of (entries_of lines'))

view_of : (w w' : ℕ) (m m' : MoveTable) (l l' : List Entry) → w ≡ w' → m ≡ m' → l ≡ l' → ◌≡◌ {A = BookView} (record { workers = w; moves = m; log = l }) (record { workers = w'; moves = m'; log = l' })
view_of w w' m m' l l' e f g = cc

pub applied : (old new : SchedulerView) (lines lines' : List Line) (e : Entry) → lines' ≡ lines ++ line_of e ∷ [] → IsKeptBook old lines → e.worker < old.workers → new.moves ≡ old.moves → new.workers ≡ old.workers
    → IsStep old.moves (state_in old) e.worker e.event e.reply (state_in new) → IsApplied old new lines lines' e
applied old new lines lines' e is kept few moves workers step =
    let kept' : IsKeptBook new lines' = subst (λ (ls : List Line). IsKeptBook new ls) (sym is) (book_step old new lines e kept few moves workers step) in
    let log : entries_of lines' ≡ entries_of lines ++ e ∷ [] = ap entries_of is ∙ entries_of-push lines e in
    record {
      kept = kept';
      view = view_of new.workers old.workers new.moves old.moves (entries_of lines') (entries_of lines ++ e ∷ []) workers moves log;
      step = subst (λ (s : State). IsStep old.moves s e.worker e.event e.reply (state_of (entries_of lines'))) kept.leads (subst (λ (s : State). IsStep old.moves (state_in old) e.worker e.event e.reply s) kept'.leads step);
    }
