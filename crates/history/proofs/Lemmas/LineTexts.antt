-- The parts of a line's text.
use Rattle.std.proofs.Common.{◌≡◌, ℕ, ◌<◌, ◌≤◌, ◌^◌, true, drop, List, [], ◌∷◌, ◌++◌, Option, Some, None, refl, sym, ap, ◌∙◌, arith, append_assoc}
use Rattle.std.specs.Prelude.{decimal, nat_lt, ◌&&◌}
use Rattle.std.proofs.lemmas.Bool.{and_parts, ltb-true, leb-true, false≢true}
use Rattle.std.proofs.lemmas.Fmt.{decimal_injective}
use Rattle.history.specs.Reading.{is_without}
use Rattle.history.specs.Verb.{has_numbers}
use Rattle.scheduler.specs.Schedule.{is_event, is_reply_to, is_line_reply, is_line}
use Rattle.scheduler.specs.CallText.{event_text, reply_text}
use Rattle.history.specs.ScheduleText.{line_reply_text, line_text, header_text}
use Rattle.history.specs.ReadSchedule.{is_text_line}
use Rattle.scheduler.specs.declared.event.Event.{Event}
use Rattle.scheduler.specs.declared.event.Event.TheVariants.{Look}
use Rattle.scheduler.specs.declared.reply.Reply.{Reply}
use Rattle.scheduler.specs.declared.reply.Reply.TheVariants.{Yes, No, Open, Outside, Claimed, Filled, Last, NotLast, Done, All, More}
use Rattle.scheduler.specs.declared.schedule.line.Line.{Line}
use Rattle.history.proofs.Lemmas.Texts.{split_unique, decimal_without, without-append}
use Rattle.history.proofs.Lemmas.EventTexts.{number_unique, event_unique}

line_parts : (l : Line) (rest : List ℕ) → line_text l ++ rest ≡ decimal l.worker ++ 32 ∷ (event_text l.event ++ 32 ∷ (line_reply_text l.reply ++ 10 ∷ rest))
line_parts l rest =
    let told : List ℕ = line_reply_text l.reply ++ (10 ∷ []) in
    append_assoc (decimal l.worker) (32 ∷ (event_text l.event ++ (32 ∷ told))) rest
    ∙ ap (λ (xs : List ℕ). decimal l.worker ++ 32 ∷ xs)
    (append_assoc (event_text l.event) (32 ∷ told) rest ∙ ap (λ (xs : List ℕ). event_text l.event ++ 32 ∷ xs) (append_assoc (line_reply_text l.reply) (10 ∷ []) rest))

-- the invariant of a line of a text
pub record IsTextLine (workers : ℕ) (l : Line) : Type 0 where
  pub worker : l.worker < workers
  pub event : is_event l.event ≡ true
  pub reply : is_line_reply l.event l.reply ≡ true
  pub numbers : has_numbers l.event ≡ true

pub text_line : (workers : ℕ) (l : Line) → is_text_line workers l ≡ true → IsTextLine workers l
text_line workers l h =
    let a = and_parts (is_line workers l) (has_numbers l.event) h in
    let b = and_parts (nat_lt l.worker workers) (is_event l.event && is_line_reply l.event l.reply) a.0 in
    let d = and_parts (is_event l.event) (is_line_reply l.event l.reply) b.1 in
    record { worker = ltb-true l.worker workers b.0; event = d.0; reply = d.1; numbers = a.1 }

pub open_small : (event : Event) (n : ℕ) → is_reply_to event (Open n) ≡ true → n ≤ 2
open_small (Look r) n h = leb-true n 2 h
open_small _ n h = absurd (false≢true h)

pub outside_small : (event : Event) (n : ℕ) → is_reply_to event (Outside n) ≡ true → n ≤ 2
outside_small (Look r) n h = leb-true n 2 h
outside_small _ n h = absurd (false≢true h)

count_without : (word : List ℕ) (n : ℕ) → is_without 10 word ≡ true → n ≤ 2 → is_without 10 (word ++ decimal n) ≡ true
count_without word n plain few = without-append 10 word (decimal n) plain (decimal_without 10 n (omega arith) (omega arith))

reply_without : (event : Event) (reply : Reply) → is_reply_to event reply ≡ true → is_without 10 (reply_text reply) ≡ true
reply_without event Yes h = refl
reply_without event No h = refl
reply_without event (Open n) h = count_without (111 ∷ 112 ∷ 101 ∷ 110 ∷ []) n refl (open_small event n h)
reply_without event (Outside n) h = count_without (111 ∷ 117 ∷ 116 ∷ []) n refl (outside_small event n h)
reply_without event Claimed h = refl
reply_without event Filled h = refl
reply_without event Last h = refl
reply_without event NotLast h = refl
reply_without event Done h = refl
reply_without event All h = refl
reply_without event More h = refl

pub told_without : (event : Event) (told : Option Reply) → is_line_reply event told ≡ true → is_without 10 (line_reply_text told) ≡ true
told_without event None h = refl
told_without event (Some reply) h = reply_without event reply h

-- what follows a line's worker, and its event
pub behind_worker : (workers worker : ℕ) (l : Line) (bytes after rest : List ℕ) → workers ≤ 64 → IsTextLine workers l → worker < 2 ^ 32 → bytes ≡ decimal worker ++ 32 ∷ after → bytes ≡ line_text l ++ rest
    → (worker ≡ l.worker) × (after ≡ event_text l.event ++ 32 ∷ (line_reply_text l.reply ++ 10 ∷ rest))
behind_worker workers worker l bytes after rest most fits few is same =
    let below : l.worker < workers = fits.worker in
    number_unique worker l.worker after (event_text l.event ++ 32 ∷ (line_reply_text l.reply ++ 10 ∷ rest)) few (omega arith) (sym is ∙ (same ∙ line_parts l rest))

pub behind_event : (workers : ℕ) (event : Event) (l : Line) (bytes after rest : List ℕ) → IsTextLine workers l → has_numbers event ≡ true → bytes ≡ event_text event ++ 32 ∷ after → bytes ≡ event_text l.event ++ 32 ∷ (line_reply_text l.reply ++ 10 ∷ rest)
    → (event ≡ l.event) × (after ≡ line_reply_text l.reply ++ 10 ∷ rest)
behind_event workers event l bytes after rest fits numbers is same = event_unique event l.event after (line_reply_text l.reply ++ 10 ∷ rest) numbers fits.numbers (sym is ∙ same)

-- the word of a line's reply
pub reply_word : (workers : ℕ) (l : Line) (word bytes after rest : List ℕ) → IsTextLine workers l → is_without 10 word ≡ true → bytes ≡ word ++ 10 ∷ after → bytes ≡ line_reply_text l.reply ++ 10 ∷ rest → word ≡ line_reply_text l.reply
reply_word workers l word bytes after rest fits plain is same = (split_unique 10 word (line_reply_text l.reply) after rest plain (told_without l.event l.reply fits.reply) (sym is ∙ same)).0

header_parts : (workers : ℕ) (rest : List ℕ) → (decimal workers ++ (10 ∷ [])) ++ rest ≡ decimal workers ++ 10 ∷ rest
header_parts workers rest = append_assoc (decimal workers) (10 ∷ []) rest

-- the number of a first line
pub header_number : (told workers : ℕ) (bytes after rest : List ℕ) → told < 2 ^ 32 → workers ≤ 64 → bytes ≡ decimal told ++ 10 ∷ after → bytes ≡ (decimal workers ++ (10 ∷ [])) ++ rest → told ≡ workers
header_number told workers bytes after rest few most is same =
    let words = (split_unique 10 (decimal told) (decimal workers) after rest (decimal_without 10 told (omega arith) (omega arith)) (decimal_without 10 workers (omega arith) (omega arith)) (sym is ∙ (same ∙ header_parts workers rest))).0 in
    decimal_injective told workers (omega arith) (omega arith) words

-- the number after the first 11 bytes of a header
pub header_told : (told workers : ℕ) (bytes left after rest : List ℕ) → told < 2 ^ 32 → workers ≤ 64 → left ≡ drop 11 bytes → left ≡ decimal told ++ 10 ∷ after → bytes ≡ header_text workers ++ rest → told ≡ workers
header_told told workers bytes left after rest few most cut is same =
    header_number told workers left after rest few most is (cut ∙ ap (drop 11) same)
