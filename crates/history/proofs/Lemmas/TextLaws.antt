-- Each text is of one schedule at most, and a malformed one of none.
use Rattle.std.proofs.Common.{◌≡◌, ◌≢◌, ℕ, ◌-◌, ◌<◌, ◌≤◌, true, List, [], ◌∷◌, ◌++◌, length, get_or, drop, Option, Some, None, refl, sym, ap, ◌∙◌, subst, inl, inr, arith, append_assoc}
use Rattle.std.specs.Prelude.{IsTrue, All, flat_map, decimal, ◌==◌, ◌&&◌, if◌then◌else◌}
use Rattle.std.proofs.Math.ListN.{length-append}
use Rattle.std.proofs.lemmas.Bool.{leb-true, false≢true}
use Rattle.std.proofs.lemmas.Fmt.{decimal_digit, decimal_injective}
use Rattle.std.proofs.lemmas.List.Elements.{All-head, All-tail}
use Rattle.scheduler.specs.Schedule.{ScheduleView, is_reply_to, is_line_reply}
use Rattle.scheduler.specs.CallText.{event_text, reply_text}
use Rattle.history.specs.ScheduleText.{line_reply_text, line_text, header_text, schedule_text}
use Rattle.history.specs.ReadSchedule.{is_text_line, IsTextSchedule, IsMalformedAt}
use Rattle.scheduler.specs.declared.event.Event.{Event}
use Rattle.scheduler.specs.declared.event.Event.TheVariants.{Look}
use Rattle.scheduler.specs.declared.reply.Reply.{Reply}
use Rattle.scheduler.specs.declared.reply.Reply.TheVariants.{Yes, No, Open, Outside, Claimed, Filled, Last, NotLast, Done, All as AllSettled, More}
use Rattle.scheduler.specs.declared.schedule.line.Line.{Line}
use Rattle.history.proofs.Lemmas.Texts.{split_unique, decimal_without}
use Rattle.history.proofs.Lemmas.EventTexts.{event_unique}
use Rattle.history.proofs.Lemmas.LineTexts.{IsTextLine, text_line, told_without, behind_worker}

-- the reply whose text has these letters
reply_back : List ℕ → Reply
reply_back w =
    if get_or w 0 0 == 121 then Yes
    else if get_or w 0 0 == 99 then Claimed
    else if get_or w 0 0 == 102 then Filled
    else if get_or w 0 0 == 108 then Last
    else if get_or w 0 0 == 97 then AllSettled
    else if get_or w 0 0 == 109 then More
    else if get_or w 2 0 == 116 && get_or w 0 0 == 110 then NotLast
    else if get_or w 0 0 == 110 then No
    else if get_or w 1 0 == 107 then Done
    else if get_or w 1 0 == 112 then Open (get_or w 4 0 - 48)
    else Outside (get_or w 3 0 - 48)

told_back : List ℕ → Option Reply
told_back w = if get_or w 0 0 == 63 then None else Some (reply_back w)

digit_back : (n : ℕ) → n ≤ 2 → get_or (decimal n) 0 0 - 48 ≡ n
digit_back n few = ap (λ (ds : List ℕ). get_or ds 0 0 - 48) (decimal_digit n (omega arith)) ∙ omega arith

open_back : (n : ℕ) → n ≤ 2 → told_back (reply_text (Open n)) ≡ Some (Open n)
unfolding told_back reply_back
open_back n few = ap (λ (k : ℕ). Some (Open k)) (digit_back n few)

outside_back : (n : ℕ) → n ≤ 2 → told_back (reply_text (Outside n)) ≡ Some (Outside n)
unfolding told_back reply_back
outside_back n few = ap (λ (k : ℕ). Some (Outside k)) (digit_back n few)

open_few : (event : Event) (n : ℕ) → is_reply_to event (Open n) ≡ true → n ≤ 2
open_few (Look r) n h = leb-true n 2 h
open_few _ n h = absurd (false≢true h)

outside_few : (event : Event) (n : ℕ) → is_reply_to event (Outside n) ≡ true → n ≤ 2
outside_few (Look r) n h = leb-true n 2 h
outside_few _ n h = absurd (false≢true h)

told_back-text : (event : Event) (told : Option Reply) → is_line_reply event told ≡ true → told_back (line_reply_text told) ≡ told
unfolding told_back reply_back
told_back-text event None h = refl
told_back-text event (Some Yes) h = refl
told_back-text event (Some No) h = refl
told_back-text event (Some (Open n)) h = open_back n (open_few event n h)
told_back-text event (Some (Outside n)) h = outside_back n (outside_few event n h)
told_back-text event (Some Claimed) h = refl
told_back-text event (Some Filled) h = refl
told_back-text event (Some Last) h = refl
told_back-text event (Some NotLast) h = refl
told_back-text event (Some Done) h = refl
told_back-text event (Some AllSettled) h = refl
told_back-text event (Some More) h = refl

told_injective : (event : Event) (t u : Option Reply) → is_line_reply event t ≡ true → is_line_reply event u ≡ true → line_reply_text t ≡ line_reply_text u → t ≡ u
told_injective event t u h k e = sym (told_back-text event t h) ∙ (ap told_back e ∙ told_back-text event u k)

line_parts : (l : Line) (rest : List ℕ) → line_text l ++ rest ≡ decimal l.worker ++ 32 ∷ (event_text l.event ++ 32 ∷ (line_reply_text l.reply ++ 10 ∷ rest))
line_parts l rest =
    let told : List ℕ = line_reply_text l.reply ++ (10 ∷ []) in
    append_assoc (decimal l.worker) (32 ∷ (event_text l.event ++ (32 ∷ told))) rest
    ∙ ap (λ (xs : List ℕ). decimal l.worker ++ 32 ∷ xs)
    (append_assoc (event_text l.event) (32 ∷ told) rest ∙ ap (λ (xs : List ℕ). event_text l.event ++ 32 ∷ xs) (append_assoc (line_reply_text l.reply) (10 ∷ []) rest))

line_same : (l k : Line) → k.worker ≡ l.worker → k.event ≡ l.event → k.reply ≡ l.reply → k ≡ l
line_same l k a b c = go k.worker l.worker k.event l.event k.reply l.reply a b c
  where
    go : (m n : ℕ) (e f : Event) (t u : Option Reply) → m ≡ n → e ≡ f → t ≡ u → ◌≡◌ {A = Line} (record { worker = m; event = e; reply = t }) (record { worker = n; event = f; reply = u })
    go m n e f t u a b c = cc

-- a line at the front is unique, and so is what follows
line_unique : (workers : ℕ) (l k : Line) (rest after : List ℕ) → workers ≤ 64 → is_text_line workers l ≡ true → is_text_line workers k ≡ true → line_text l ++ rest ≡ line_text k ++ after → (k ≡ l) × (after ≡ rest)
line_unique workers l k rest after most fits fits' same =
    let f : IsTextLine workers l = text_line workers l fits in
    let g : IsTextLine workers k = text_line workers k fits' in
    let low : k.worker < workers = g.worker in
    let a = behind_worker workers k.worker l (line_text k ++ after) (event_text k.event ++ 32 ∷ (line_reply_text k.reply ++ 10 ∷ after)) rest most f (omega arith) (line_parts k after) (sym same) in
    let b = event_unique k.event l.event (line_reply_text k.reply ++ 10 ∷ after) (line_reply_text l.reply ++ 10 ∷ rest) g.numbers f.numbers a.1 in
    let d = split_unique 10 (line_reply_text k.reply) (line_reply_text l.reply) after rest (told_without k.event k.reply g.reply) (told_without l.event l.reply f.reply) b.1 in
    let reply : k.reply ≡ l.reply = told_injective l.event k.reply l.reply (ap (λ (e : Event). is_line_reply e k.reply) (sym b.0) ∙ g.reply) f.reply d.0 in
    (line_same l k a.0 b.0 reply, d.1)

-- a header at the front is unique, and so is what follows
header_unique : (m n : ℕ) (rest after : List ℕ) → m ≤ 64 → n ≤ 64 → header_text m ++ rest ≡ header_text n ++ after → (m ≡ n) × (rest ≡ after)
header_unique m n rest after few few' same =
    let behind : (decimal m ++ (10 ∷ [])) ++ rest ≡ (decimal n ++ (10 ∷ [])) ++ after = ap (drop 11) same in
    let behind' : decimal m ++ 10 ∷ rest ≡ decimal n ++ 10 ∷ after = sym (append_assoc (decimal m) (10 ∷ []) rest) ∙ (behind ∙ append_assoc (decimal n) (10 ∷ []) after) in
    let both = split_unique 10 (decimal m) (decimal n) rest after (decimal_without 10 m (omega arith) (omega arith)) (decimal_without 10 n (omega arith) (omega arith)) behind' in
    (decimal_injective m n (omega arith) (omega arith) both.0, both.1)

line_some : (l : Line) (rest : List ℕ) → line_text l ++ rest ≢ []
line_some l rest e =
    let long : length (decimal l.worker ++ 32 ∷ (event_text l.event ++ 32 ∷ (line_reply_text l.reply ++ 10 ∷ rest))) ≡ 0 = ap (length {A = ℕ}) (sym (line_parts l rest) ∙ e) in
    let parts = length-append (decimal l.worker) (32 ∷ (event_text l.event ++ 32 ∷ (line_reply_text l.reply ++ 10 ∷ rest))) in
    absurd (omega arith)

more_text : (l : Line) (ls : List Line) (rest : List ℕ) → flat_map line_text (l ∷ ls) ++ rest ≡ line_text l ++ (flat_map line_text ls ++ rest)
more_text l ls rest = append_assoc (line_text l) (flat_map line_text ls) rest

abbrev fits : ℕ → Line → Type 0
fits workers line = IsTrue (is_text_line workers line)

lines_unique : (workers : ℕ) (ls ks : List Line) → workers ≤ 64 → All (fits workers) ls → All (fits workers) ks → flat_map line_text ls ≡ flat_map line_text ks → ls ≡ ks
lines_unique workers [] [] most a b e = refl
lines_unique workers [] (k ∷ ks) most a b e = absurd (line_some k (flat_map line_text ks) (sym e))
lines_unique workers (l ∷ ls) [] most a b e = absurd (line_some l (flat_map line_text ls) e)
lines_unique workers (l ∷ ls) (k ∷ ks) most a b e =
    let one = line_unique workers l k (flat_map line_text ls) (flat_map line_text ks) most (All-head (fits workers) l ls a) (All-head (fits workers) k ks b) e in
    let rest : ls ≡ ks = lines_unique workers ls ks most (All-tail (fits workers) l ls a) (All-tail (fits workers) k ks b) (sym one.1) in
    let first : k ≡ l = one.0 in
    cc

-- a text is of one schedule at most
pub one_schedule : (v u : ScheduleView) → IsTextSchedule v → IsTextSchedule u → schedule_text v ≡ schedule_text u → v ≡ u
one_schedule v u f g e =
    let head = header_unique v.workers u.workers (flat_map line_text v.lines) (flat_map line_text u.lines) f.few g.few e in
    let lines : v.lines ≡ u.lines = lines_unique v.workers v.lines u.lines f.few f.lines (subst (λ (n : ℕ). All (fits n) u.lines) (sym head.0) g.lines) head.1 in
    go v.workers u.workers v.lines u.lines head.0 lines
  where
    go : (m n : ℕ) (ls ks : List Line) → m ≡ n → ls ≡ ks → ◌≡◌ {A = ScheduleView} (record { workers = m; lines = ls }) (record { workers = n; lines = ks })
    go m n ls ks a b = cc

-- lines in front of something that doesn't begin with a line are not all of a text
not_lines : (workers : ℕ) (ls ks : List Line) (rest : List ℕ) → workers ≤ 64 → All (fits workers) ls → All (fits workers) ks → rest ≢ []
    → ((next : Line) (after : List ℕ) → IsTrue (is_text_line workers next) → rest ≢ line_text next ++ after) → flat_map line_text ls ++ rest ≢ flat_map line_text ks
not_lines workers [] [] rest most a b some none e = some e
not_lines workers [] (k ∷ ks) rest most a b some none e = none k (flat_map line_text ks) (All-head (fits workers) k ks b) e
not_lines workers (l ∷ ls) [] rest most a b some none e = line_some l (flat_map line_text ls ++ rest) (sym (more_text l ls rest) ∙ e)
not_lines workers (l ∷ ls) (k ∷ ks) rest most a b some none e =
    let one = line_unique workers l k (flat_map line_text ls ++ rest) (flat_map line_text ks) most (All-head (fits workers) l ls a) (All-head (fits workers) k ks b) (sym (more_text l ls rest) ∙ e) in
    not_lines workers ls ks rest most (All-tail (fits workers) l ls a) (All-tail (fits workers) k ks b) some none (sym one.1)

-- a malformed text is no schedule's
pub no_schedule : (bytes : List ℕ) (line : ℕ) → IsMalformedAt bytes line → (v : ScheduleView) → IsTextSchedule v → bytes ≢ schedule_text v
no_schedule bytes line (inl bad) v f e = bad.none v.workers (flat_map line_text v.lines) f.some f.few e
no_schedule bytes line (inr bad) v f e =
    let same : header_text bad.workers ++ (flat_map line_text bad.lines ++ bad.rest) ≡ header_text v.workers ++ flat_map line_text v.lines =
    sym (append_assoc (header_text bad.workers) (flat_map line_text bad.lines) bad.rest) ∙ (sym bad.is ∙ e) in
    let head = header_unique bad.workers v.workers (flat_map line_text bad.lines ++ bad.rest) (flat_map line_text v.lines) bad.before.few f.few same in
    not_lines bad.workers bad.lines v.lines bad.rest bad.before.few bad.before.lines (subst (λ (n : ℕ). All (fits n) v.lines) (sym head.0) f.lines) bad.some bad.none head.1
