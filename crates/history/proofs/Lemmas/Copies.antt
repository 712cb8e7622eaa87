-- A copy of the word machine, as it is made in a list of words.
use Rattle.std.proofs.Common.{◌≡◌, ◌≢◌, ℕ, zero, suc, Bool, ◌+◌, ◌-◌, ◌*◌, ◌/◌, ◌%◌, ◌<◌, ◌≤◌, true, false, List, [], ◌∷◌, ◌++◌, length, get_or, take, Some, refl, sym, ap, ◌∙◌, subst, inl, inr, ◌⊎◌, arith}
use Rattle.std.specs.Prelude.{slice_index, map, All, IsTrue, ◌↔◌, ◌&&◌, nat_lt}
use Rattle.std.proofs.lemmas.Bool.{ne_eqb, cases_lt, ltb-true, and_parts}
use Rattle.std.proofs.lemmas.Nat.{div-mul-add, mod-mul-add}
use Rattle.std.proofs.lemmas.List.{map-append}
use Rattle.std.proofs.lemmas.List.Elements.{All-nil, All-cons, All-get_or}
use Rattle.object_heap.specs.HeapImage.{HeapImage, IsValid, heap_words, word_at, start_of}
use Rattle.summary.specs.NewAddresses.{new_top}
use Rattle.summary.specs.WordMoves.{origin}
use Rattle.scheduler.specs.MoveTable.{MoveTable, IsMoveTable}
use Rattle.scheduler.specs.State.{State, opening, state_after, Allows, AllAreSettled}
use Rattle.scheduler.specs.PackedLine.{IsSmall}
use Rattle.scheduler.specs.Scheduler.{state_in}
use Rattle.scheduler.specs.History.{entry, AreSteps, IsLegal, IsReached}
use Rattle.scheduler.specs.Schedule.{ScheduleView, IsSchedule, is_event, is_line_reply, is_line, line_of}
use Rattle.history.specs.Slide.{Slide, IsSlideOf, Machine, write_words, word_for, words_of, AllowsWords, machine_after, copied}
use Rattle.scheduler.specs.ImageMoves.{image_table}
use Rattle.history.specs.WordMachine.{image_slide, machine_start, machine_of}
use Rattle.history.specs.Replay.{IsCallOfLine, IsReplay}
use Rattle.history.specs.Replayed.{Holds, IsCarriedOut, IsReplayed, IsEndOf, places_of}
use Rattle.history.specs.MachineLaws.{MachineLaws}
use Rattle.history.specs.Ledger.{IsLedger, Tells, Leads}
use Rattle.scheduler.specs.declared.entry.Entry.{Entry}
use Rattle.scheduler.specs.declared.event.Event.{Event}
use Rattle.scheduler.specs.declared.event.Event.TheVariants.{Claim, Look, Drain, Complete, Settle, Poll, Copy}
use Rattle.history.specs.declared.machine.ledger.Ledger.{Ledger}
use Rattle.scheduler.specs.declared.schedule.line.Line.{Line}
use Rattle.scheduler.specs.declared.reply.Reply.{Reply}
use Rattle.history.specs.declared.machine.replayed.Replayed.{Replayed}
use Rattle.history.proofs.Lemmas.Drained.{IsKept, next_place, origin_stands, write_words_known, written-write_words, write_words_kept, history_kept}
use Rattle.summary.specs.Compaction.{moved_word}
use Rattle.history.proofs.Lemmas.DrainedBefore.{drained_before}
use Rattle.history.proofs.Lemmas.Carrying.{origin_inside}
use Rattle.history.proofs.Lemmas.Machines.{machine_of-push, legal_steps, known-machine_from}
use Rattle.history.proofs.Lemmas.Following.{IsFollowed, no_line, followed_more, followed_by, followed_all}

-- other places stay
pub write_words-other : (p : Slide) (d n : ℕ) (w : Machine) (a : ℕ) → (a < next_place p d w) ⊎ (next_place p d w + n ≤ a) → (write_words p d n w).heap a ≡ w.heap a
write_words-other p d zero w a out = refl
write_words-other p d (suc n) w a out =
    let count : (write_words p d n w).written d ≡ w.written d + n = written-write_words p d n w in
    let apart : a ≢ next_place p d (write_words p d n w) = λ e. elim out [ inl l ↦ (let no : ⊥ = omega arith in no) | inr m ↦ (let no : ⊥ = omega arith in no) ] in
    rw (ne_eqb a (next_place p d (write_words p d n w)) apart) (write_words-other p d n w a (elim out [ inl l ↦ inl l | inr m ↦ inr (omega arith) ]))

module _ (m : MoveTable) (p : Slide) (start : ℕ → ℕ) (w : Machine) (worker d n : ℕ) (slide : IsSlideOf m p) (kept : IsKept m p start w)
    (own : w.known.claimed d ≡ Some worker) (unfilled : w.known.filled d ≡ false) (room : w.written d + n ≤ words_of p d) where
  -- the places that are written get their words
  pub write_words-here : (a : ℕ) → next_place p d w ≤ a → a < next_place p d w + n → (write_words p d n w).heap a ≡ word_for p start a
  write_words-here a low high =
      let after = write_words_kept m p start w worker d n slide kept own unfilled room in
      let count : (write_words p d n w).written d ≡ w.written d + n = written-write_words p d n w in
      let j : ℕ = a - d * p.size in
      let short : j < p.size = omega arith in
      let at : d * p.size + j ≡ a = omega arith in
      let region : a / p.size ≡ d = ap (λ b. b / p.size) (sym at) ∙ div-mul-add d p.size j short in
      let offset : a % p.size ≡ j = ap (λ b. b % p.size) (sym at) ∙ mod-mul-add d p.size j short in
      let written : a % p.size < (write_words p d n w).written (a / p.size) = subst (λ (r : ℕ). a % p.size < (write_words p d n w).written r) (sym region) (omega arith) in
      after.moved a written

  -- the origins of the words that go there still have the words of the start
  pub origins_stand : (a x : ℕ) → next_place p d w ≤ a → a < next_place p d w + n → p.origin a ≡ Some x → w.heap x ≡ start x
  origins_stand a x low high from =
      let k : ℕ = a - next_place p d w in
      let before = write_words_kept m p start w worker d k slide kept own unfilled (omega arith) in
      let known : (write_words p d k w).known ≡ w.known = write_words_known p d k w in
      let count : (write_words p d k w).written d ≡ w.written d + k = written-write_words p d k w in
      let at : next_place p d (write_words p d k w) ≡ a = omega arith in
      let stands = origin_stands m p start (write_words p d k w) worker d x slide before (ap (λ (s : State). s.claimed d) known ∙ own) (omega arith) (ap p.origin at ∙ from) in
      let below : a < p.top = omega arith in
      let up : a ≤ x = slide.down a x below from in
      sym (write_words-other p d k w x (inr (omega arith))) ∙ stands

-- a copy of the machine in a list of words
pub record IsCopy (image : HeapImage) (heap : List ℕ) (first number : ℕ) (after : ℕ → ℕ) : Type 0 where
  pub below : first + number ≤ new_top image
  pub stands : (a x : ℕ) → first ≤ a → a < first + number → origin image a ≡ Some x → slice_index heap x ≡ word_at image x
  pub holds : (new : List ℕ) → ((a : ℕ) → first ≤ a → a < first + number → slice_index new a ≡ word_for (image_slide image) (word_at image) a)
      → ((a : ℕ) → (a < first) ⊎ (first + number ≤ a) → slice_index new a ≡ slice_index heap a) → (a : ℕ) → a < heap_words image → slice_index new a ≡ after a

module _ (law : MachineLaws) (image : HeapImage) (valid : IsValid image) (workers : ℕ) (log : List Entry) (heap : List ℕ) (holds : Holds image heap (machine_of image log)) where
  no_copy : IsCopy image heap 0 0 (machine_of image log).heap
  no_copy =
      record {
        below = omega arith;
        stands = λ a x l k from. absurd (omega arith);
        holds = λ new here others a l. others a (inr (omega arith)) ∙ holds.each a l;
      }

  copy_of : (d n worker : ℕ) → IsKept (image_table image) (image_slide image) (word_at image) (machine_of image log)
      → (machine_of image log).known.claimed d ≡ Some worker → (machine_of image log).known.filled d ≡ false → 1 ≤ n → (machine_of image log).written d + n ≤ words_of (image_slide image) d
      → IsCopy image heap (next_place (image_slide image) d (machine_of image log)) n (write_words (image_slide image) d n (machine_of image log)).heap
  copy_of d n worker kept own unfilled some room =
      let p : Slide = image_slide image in
      let w : Machine = machine_of image log in
      let slides = law.slides image valid in
      record {
        below = omega arith;
        stands = λ a x low high from.
            holds.each x (origin_inside law.plan image valid a x from)
            ∙ origins_stand (image_table image) p (word_at image) w worker d n slides kept own unfilled room a x low high from;
        holds = λ new here others a l. elim (cases_lt a (next_place p d w)) [
          | inl low ↦ others a (inl low) ∙ (holds.each a l ∙ sym (write_words-other p d n w a (inl low)))
          | inr low ↦ elim (cases_lt a (next_place p d w + n)) [
            | inl high ↦ here a low high ∙ sym (write_words-here (image_table image) p (word_at image) w worker d n slides kept own unfilled room a low high)
            | inr high ↦ others a (inr high) ∙ (holds.each a l ∙ sym (write_words-other p d n w a (inr high)))
          ]
        ];
      }

  -- the words that an event of the machine copies
  pub event_copies : (ledger : Ledger) (worker : ℕ) (event : Event) → IsKept (image_table image) (image_slide image) (word_at image) (machine_of image log) → Tells ledger (machine_of image log)
      → Allows (image_table image) (machine_of image log).known worker event → AllowsWords (image_slide image) (machine_of image log) event
      → IsCopy image heap (places_of image ledger event).0 (places_of image ledger event).1 (copied (image_slide image) (machine_of image log) event).heap
  event_copies ledger worker (Claim r) kept tells allowed words = no_copy
  event_copies ledger worker (Look r) kept tells allowed words = no_copy
  event_copies ledger worker (Drain d s) kept tells allowed words = no_copy
  event_copies ledger worker (Complete d) kept tells allowed words = no_copy
  event_copies ledger worker (Settle d) kept tells allowed words = no_copy
  event_copies ledger worker Poll kept tells allowed words = no_copy
  event_copies ledger worker (Copy d n) kept tells allowed words =
      subst (λ (k : ℕ). IsCopy image heap k n (write_words (image_slide image) d n (machine_of image log)).heap) (ap (λ (k : ℕ). start_of image d + k) (tells.written d))
      (copy_of d n worker kept allowed.0.0 allowed.0.1 allowed.1 words)

-- what holds while a schedule is carried out
pub record IsUnderWay (image : HeapImage) (v : ScheduleView) (number : ℕ) (ledger : Ledger) (lines : List Line) (heap : List ℕ) : Type 0 where
  pub kept : IsLedger image v.workers ledger
  pub log : List Entry
  pub taken : IsReplay image v.workers (take number v.lines) log
  pub tells : Tells ledger (machine_of image log)
  pub replies : lines ≡ map line_of log
  pub holds : Holds image heap (machine_of image log)

-- the ledger alone
unfoldable pub followed_of : (image : HeapImage) (v : ScheduleView) (number : ℕ) (ledger : Ledger) (lines : List Line) (heap : List ℕ) → IsUnderWay image v number ledger lines heap → IsFollowed image v number ledger
followed_of image v number ledger lines heap way = record { kept = way.kept; log = way.log; taken = way.taken; tells = way.tells }

pub first_way : (image : HeapImage) (v : ScheduleView) (ledger : Ledger) (lines : List Line) (heap : List ℕ) → IsLedger image v.workers ledger → Tells ledger (machine_start image) → lines ≡ [] → heap ≡ image.words
    → IsUnderWay image v 0 ledger lines heap
first_way image v ledger lines heap kept tells none same =
    record {
      kept = kept;
      log = [];
      taken = record { calls = tt; allowed = tt };
      tells = tells;
      replies = none;
      holds = record { long = ap (length {A = ℕ}) same; each = λ a l. ap (λ (xs : List ℕ). slice_index xs a) same };
    }

module _ (law : MachineLaws) (image : HeapImage) (valid : IsValid image) (v : ScheduleView) (items : List Line) (number : ℕ) (old new : Ledger) (lines : List Line) (heap : List ℕ) (line : Line) (r : Reply)
    (same : items ≡ v.lines) (way : IsUnderWay image v number old lines heap) (inside : number < length items) (there : line ≡ get_or items number no_line)
    (call : IsCallOfLine line (entry line.worker line.event r)) (leads : Leads image old.scheduler.workers old (entry line.worker line.event r) new) where
  -- the words that the line's event copies
  pub line_copies : IsCopy image heap (places_of image old line.event).0 (places_of image old line.event).1 (copied (image_slide image) (machine_of image way.log) line.event).heap
  line_copies =
      let step = (leads (machine_of image way.log) way.tells).0 in
      let kept = (history_kept (image_table image) (image_slide image) v.workers (word_at image) way.log (law.slides image valid) (λ now. law.counts (image_table image) now (law.lawful image valid)) way.taken.allowed).1 in
      event_copies law image valid v.workers way.log heap way.holds old line.worker line.event kept way.tells step.1.allowed step.2

  -- the line with its reply goes into twelve bytes
  pub line_fits : v.workers ≤ 64 → IsSmall (record { worker = line.worker; event = line.event; reply = Some r })
  line_fits most =
      let step = (leads (machine_of image way.log) way.tells).0 in
      let e : Entry = entry line.worker line.event r in
      let few : old.scheduler.workers ≤ 64 = subst (λ (n : ℕ). n ≤ 64) (sym way.kept.workers) most in
      law.small old.scheduler.workers (line_of e) few
      (law.call (image_table image) old.scheduler.workers (machine_of image way.log).known (state_after (machine_of image way.log).known e.worker e.event e.reply) e (law.lawful image valid) step.0 step.1)

  -- one line more
  pub way_on : (lines' : List Line) (heap' : List ℕ) → IsLedger image old.scheduler.workers new → lines' ≡ lines ++ (record { worker = line.worker; event = line.event; reply = Some r }) ∷ []
      → length heap' ≡ length heap
      → ((a : ℕ) → (places_of image old line.event).0 ≤ a → a < (places_of image old line.event).0 + (places_of image old line.event).1 → slice_index heap' a ≡ word_for (image_slide image) (word_at image) a)
      → ((a : ℕ) → (a < (places_of image old line.event).0) ⊎ ((places_of image old line.event).0 + (places_of image old line.event).1 ≤ a) → slice_index heap' a ≡ slice_index heap a)
      → IsUnderWay image v (suc number) new lines' heap'
  unfolding followed_of followed_by followed_more
  way_on lines' heap' kept more long here others =
      let e : Entry = entry line.worker line.event r in
      let followed = followed_by image v items number old new line r same (followed_of image v number old lines heap way) inside there call leads kept in
      let after : machine_of image (way.log ++ e ∷ []) ≡ machine_after (image_slide image) (machine_of image way.log) e = machine_of-push image way.log e in
      record {
        kept = followed.kept;
        log = way.log ++ e ∷ [];
        taken = followed.taken;
        tells = followed.tells;
        replies = more ∙ (ap (λ ls. ls ++ line_of e ∷ []) way.replies ∙ sym (map-append line_of way.log (e ∷ [])));
        holds = record {
          long = long ∙ way.holds.long;
          each = λ a l. line_copies.holds heap' here others a l ∙ ap (λ (w : Machine). w.heap a) (sym after);
        };
      }

-- a line of the schedule has one of the ledger's workers
pub worker_fits : (v : ScheduleView) (items : List Line) (number : ℕ) (ledger : Ledger) (line : Line) → IsSchedule v → items ≡ v.lines → ledger.scheduler.workers ≡ v.workers
    → number < length items → line ≡ get_or items number no_line → line.worker < ledger.scheduler.workers
worker_fits v items number ledger line formed same workers inside there =
    let lines : All (λ (l : Line). IsTrue (is_line v.workers l)) items = subst (λ (ls : List Line). All (λ (l : Line). IsTrue (is_line v.workers l)) ls) (sym same) formed.lines in
    let item : is_line v.workers (get_or items number no_line) ≡ true = All-get_or (λ (l : Line). IsTrue (is_line v.workers l)) items number no_line inside lines in
    let fits : is_line v.workers line ≡ true = ap (is_line v.workers) there ∙ item in
    let low = ltb-true line.worker v.workers (and_parts (nat_lt line.worker v.workers) (is_event line.event && is_line_reply line.event line.reply) fits).0 in
    subst (λ (n : ℕ). line.worker < n) (sym workers) low

-- all lines are carried out
pub carried_out : (image : HeapImage) (v : ScheduleView) (items : List Line) (number : ℕ) (ledger : Ledger) (lines : List Line) (heap : List ℕ) (done : Bool) → items ≡ v.lines → IsUnderWay image v number ledger lines heap
    → length items ≤ number → IsTrue done ↔ AllAreSettled ledger.scheduler.moves (state_in ledger.scheduler) → IsCarriedOut image v lines done heap
unfolding followed_of followed_all
carried_out image v items number ledger lines heap done same way all tells =
    let checked = followed_all image v items number ledger done same (followed_of image v number ledger lines heap way) all tells in
    record { log = way.log; taken = checked.taken; replies = way.replies; tells = checked.tells; holds = way.holds }

-- the heap of a schedule by which all regions are settled
pub settled_heap : MachineLaws → (image : HeapImage) (v : ScheduleView) (lines : List Line) (heap : List ℕ) (done : Bool) → IsValid image → IsCarriedOut image v lines done heap → done ≡ true
    → (a : ℕ) → a < heap_words image → slice_index heap a ≡ moved_word image a
settled_heap law image v lines heap done valid all is a inside =
    let settled : AllAreSettled (image_table image) (machine_of image all.log).known = all.tells.0 is in
    let legal : IsLegal (image_table image) v.workers all.log = legal_steps (image_table image) (image_slide image) v.workers (machine_start image) all.log all.taken.allowed in
    let reached : IsReached (image_table image) (machine_of image all.log).known = subst (λ (k : State). IsReached (image_table image) k) (sym (known-machine_from (image_slide image) (machine_start image) all.log)) (law.reached (image_table image) v.workers all.log legal) in
    all.holds.each a inside ∙ (drained_before law image valid v.workers all.log all.taken.allowed).moved (λ r fills. reached.settled_filled r (settled r fills)) a

-- the calls of a legal history are lines of a schedule
steps_fit : MachineLaws → (m : MoveTable) (workers : ℕ) (now : State) (log : List Entry) → IsMoveTable m → AreSteps m workers now log → All (λ line. IsTrue (is_line workers line)) (map line_of log)
steps_fit law m workers now [] table steps = All-nil (λ line. IsTrue (is_line workers line))
steps_fit law m workers now (e ∷ es) table steps =
    let after : State = state_after now e.worker e.event e.reply in
    All-cons (λ line. IsTrue (is_line workers line)) (line_of e) (map line_of es) (law.call m workers now after e table steps.0 steps.1) (steps_fit law m workers after es table steps.2)

-- the lines with their replies are a schedule
pub replied_schedule : MachineLaws → (image : HeapImage) (v : ScheduleView) (lines : List Line) (heap : List ℕ) (done : Bool) → IsValid image → IsSchedule v → IsCarriedOut image v lines done heap
    → IsSchedule (record { workers = v.workers; lines = lines })
replied_schedule law image v lines heap done valid formed all =
    let legal : IsLegal (image_table image) v.workers all.log = legal_steps (image_table image) (image_slide image) v.workers (machine_start image) all.log all.taken.allowed in
    record {
      some = formed.some;
      few = formed.few;
      lines = subst (λ (ls : List Line). All (λ line. IsTrue (is_line v.workers line)) ls) (sym all.replies) (steps_fit law (image_table image) v.workers opening all.log (law.lawful image valid) legal);
    }

abbrev pub view_of : ℕ → List Line → ScheduleView
view_of n ls = record { workers = n; lines = ls }

-- the result of a replay
pub replayed : MachineLaws → (image : HeapImage) (v : ScheduleView) (lines : List Line) (heap : List ℕ) (done : Bool) (gives : Replayed) → IsValid image → IsCarriedOut image v lines done heap
    → gives.lines ≡ record { workers = v.workers; lines = lines } → ((log : List Entry) → IsTrue done ↔ AllAreSettled (image_table image) (machine_of image log).known → IsEndOf image log gives.ended) → IsReplayed image v gives
replayed law image v lines heap done gives valid all told ended =
    record {
      log = all.log;
      taken = all.taken;
      lines = told ∙ ap (λ (ls : List Line). view_of v.workers ls) all.replies;
      ended = ended all.log all.tells;
      keeps = drained_before law image valid v.workers all.log all.taken.allowed;
    }
