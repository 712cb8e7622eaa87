-- The bytes of a schedule's text, as they come from a device.
use Rattle.std.proofs.Common.{◌≡◌, ◌≢◌, ℕ, ◌+◌, ◌-◌, ◌<◌, ◌≤◌, ◌⊎◌, ◌^◌, true, List, [], ◌∷◌, ◌++◌, length, take, drop, take_all, Option, Some, None, inl, inr, refl, sym, ap, ◌∙◌, subst, arith, append_assoc, length-append, length-take}
use Rattle.std.specs.Prelude.{IfSome, IsTrue, codes, decimal, nat_lt, slice_range}
use Rattle.std.specs.Io.KnownBytes.{Consumes, IsAtEnd, prepend_known}
use Rattle.std.proofs.lemmas.Bool.{and_parts, ltb-true}
use Rattle.std.proofs.lemmas.Fmt.{length-decimal-le}
use Rattle.std.proofs.lemmas.List.{append-nil, drop-drop, drop-take, take-append-drop, take-append-le}
use Rattle.std.proofs.lemmas.List.Elements.{All-nil, All-push}
use Rattle.std.proofs.lemmas.List.Prefix.{front_rest}
use borrow.Rule.Slice.PartMut.{put_mid}
use Rattle.history.specs.Reading.{is_without}
use Rattle.history.specs.ReadSchedule.{is_text_line, IsTextSchedule, IsBadHeader, IsMalformedAt}
use Rattle.scheduler.specs.Schedule.{is_reply_to, is_line_reply}
use Rattle.scheduler.specs.CallText.{event_text, reply_text}
use Rattle.history.specs.ScheduleText.{line_reply_text, line_text, header_text, schedule_text}
use Rattle.history.specs.Verb.{has_numbers}
use Rattle.history.specs.Window.{HoldLine}
use Rattle.scheduler.specs.declared.event.Event.{Event}
use Rattle.scheduler.specs.declared.event.Event.TheVariants.{Claim, Look, Drain, Complete, Settle, Poll, Copy}
use Rattle.scheduler.specs.declared.schedule.line.Line.{Line}
use Rattle.scheduler.specs.declared.reply.Reply.{Reply}
use Rattle.scheduler.specs.declared.reply.Reply.TheVariants.{Yes, No, Open, Outside, Claimed, Filled, Last, NotLast, Done, All, More}
use Rattle.history.proofs.Lemmas.KnownBytes.{consumes_held, consumes_more, take_put_back}
use Rattle.history.proofs.Lemmas.LineTexts.{text_line, open_small, outside_small}
use Rattle.history.proofs.Lemmas.ScheduleTexts.{text_more}
use Rattle.history.proofs.Lemmas.Texts.{split_unique, decimal_without, without-append}

-- at most this number of bytes, without a newline
record IsWord (most : ℕ) (bytes : List ℕ) : Type 0 where
  plain : is_without 10 bytes ≡ true
  short : length bytes ≤ most

literal : (word : List ℕ) (long : ℕ) → is_without 10 word ≡ true → length word ≡ long → IsWord long word
literal word long plain is = record { plain = plain; short = omega (arith, is) }

both : (m n : ℕ) (xs ys : List ℕ) → IsWord m xs → IsWord n ys → IsWord (m + n) (xs ++ ys)
both m n xs ys a b =
    record { plain = without-append 10 xs ys a.plain b.plain; short = omega (arith, length-append xs ys, a.short, b.short) }

within : (m n : ℕ) (xs : List ℕ) → m ≤ n → IsWord m xs → IsWord n xs
within m n xs l a = record { plain = a.plain; short = omega (arith, l, a.short) }

number : (n : ℕ) → nat_lt n (2 ^ 32) ≡ true → IsWord 10 (decimal n)
number n h =
    let few : n < 2 ^ 32 = ltb-true n (2 ^ 32) h in
    record { plain = decimal_without 10 n (omega arith) (omega arith); short = length-decimal-le 10 n (omega arith) (omega arith) (omega arith) }

event_word : (e : Event) → has_numbers e ≡ true → IsWord 27 (event_text e)
event_word (Claim r) h = within 16 27 (event_text (Claim r)) (omega arith) (both 6 10 (codes "claim ") (decimal r) (literal (codes "claim ") 6 refl refl) (number r h))
event_word (Look r) h = within 15 27 (event_text (Look r)) (omega arith) (both 5 10 (codes "look ") (decimal r) (literal (codes "look ") 5 refl refl) (number r h))
event_word (Drain d s) h =
    let two = and_parts (nat_lt d (2 ^ 32)) (nat_lt s (2 ^ 32)) h in
    both 6 21 (codes "drain ") (decimal d ++ (32 ∷ decimal s)) (literal (codes "drain ") 6 refl refl)
    (both 10 11 (decimal d) (32 ∷ decimal s) (number d two.0) (both 1 10 (32 ∷ []) (decimal s) (literal (32 ∷ []) 1 refl refl) (number s two.1)))
event_word (Complete d) h = within 19 27 (event_text (Complete d)) (omega arith) (both 9 10 (codes "complete ") (decimal d) (literal (codes "complete ") 9 refl refl) (number d h))
event_word (Settle d) h = within 17 27 (event_text (Settle d)) (omega arith) (both 7 10 (codes "settle ") (decimal d) (literal (codes "settle ") 7 refl refl) (number d h))
event_word Poll h = within 4 27 (codes "poll") (omega arith) (literal (codes "poll") 4 refl refl)
event_word (Copy d n) h =
    let two = and_parts (nat_lt d (2 ^ 32)) (nat_lt n (2 ^ 32)) h in
    within 26 27 (event_text (Copy d n)) (omega arith)
    (both 5 21 (codes "copy ") (decimal d ++ (32 ∷ decimal n)) (literal (codes "copy ") 5 refl refl)
    (both 10 11 (decimal d) (32 ∷ decimal n) (number d two.0) (both 1 10 (32 ∷ []) (decimal n) (literal (32 ∷ []) 1 refl refl) (number n two.1))))

one_digit : (n : ℕ) → n ≤ 2 → IsWord 1 (decimal n)
one_digit n few = record { plain = decimal_without 10 n (omega arith) (omega arith); short = length-decimal-le 1 n (omega arith) (omega arith) (omega arith) }

two_digits : (n : ℕ) → n ≤ 64 → IsWord 2 (decimal n)
two_digits n few = record { plain = decimal_without 10 n (omega arith) (omega arith); short = length-decimal-le 2 n (omega arith) (omega arith) (omega arith) }

reply_word : (event : Event) (reply : Reply) → is_reply_to event reply ≡ true → IsWord 7 (reply_text reply)
reply_word event Yes h = within 3 7 (codes "yes") (omega arith) (literal (codes "yes") 3 refl refl)
reply_word event No h = within 2 7 (codes "no") (omega arith) (literal (codes "no") 2 refl refl)
reply_word event (Open n) h = within 5 7 (codes "open" ++ decimal n) (omega arith) (both 4 1 (codes "open") (decimal n) (literal (codes "open") 4 refl refl) (one_digit n (open_small event n h)))
reply_word event (Outside n) h = within 4 7 (codes "out" ++ decimal n) (omega arith) (both 3 1 (codes "out") (decimal n) (literal (codes "out") 3 refl refl) (one_digit n (outside_small event n h)))
reply_word event Claimed h = literal (codes "claimed") 7 refl refl
reply_word event Filled h = within 6 7 (codes "filled") (omega arith) (literal (codes "filled") 6 refl refl)
reply_word event Last h = within 4 7 (codes "last") (omega arith) (literal (codes "last") 4 refl refl)
reply_word event NotLast h = literal (codes "notlast") 7 refl refl
reply_word event Done h = within 2 7 (codes "ok") (omega arith) (literal (codes "ok") 2 refl refl)
reply_word event All h = within 3 7 (codes "all") (omega arith) (literal (codes "all") 3 refl refl)
reply_word event More h = within 4 7 (codes "more") (omega arith) (literal (codes "more") 4 refl refl)

told_word : (event : Event) (told : Option Reply) → is_line_reply event told ≡ true → IsWord 7 (line_reply_text told)
told_word event None h = within 1 7 (codes "?") (omega arith) (literal (codes "?") 1 refl refl)
told_word event (Some reply) h = reply_word event reply h

-- a word and a newline, of 64 bytes at most
pub record IsOneLine (text : List ℕ) : Type 0 where
  pub word : List ℕ
  pub plain : is_without 10 word ≡ true
  pub is : text ≡ word ++ 10 ∷ []
  pub short : length text ≤ 64

pub line_is_one : (workers : ℕ) (l : Line) → workers ≤ 64 → is_text_line workers l ≡ true → IsOneLine (line_text l)
line_is_one workers l most h =
    let fits = text_line workers l h in
    let below : l.worker < workers = fits.worker in
    let event : List ℕ = event_text l.event in
    let told : List ℕ = line_reply_text l.reply in
    let space : IsWord 1 (32 ∷ []) = literal (32 ∷ []) 1 refl refl in
    let word : List ℕ = decimal l.worker ++ (32 ∷ (event ++ (32 ∷ told))) in
    let all : IsWord 38 word =
    both 2 36 (decimal l.worker) (32 ∷ (event ++ (32 ∷ told))) (two_digits l.worker (omega arith))
    (both 1 35 (32 ∷ []) (event ++ (32 ∷ told)) space
    (both 27 8 event (32 ∷ told) (event_word l.event fits.numbers) (both 1 7 (32 ∷ []) told space (told_word l.event l.reply fits.reply)))) in
    let is : line_text l ≡ word ++ 10 ∷ [] =
    sym (append_assoc (decimal l.worker) (32 ∷ (event ++ (32 ∷ told))) (10 ∷ []) ∙ ap (λ (xs : List ℕ). decimal l.worker ++ 32 ∷ xs) (append_assoc event (32 ∷ told) (10 ∷ []))) in
    record { word = word; plain = all.plain; is = is; short = omega (arith, ap length is, length-append word (10 ∷ []), all.short) }

pub header_is_one : (workers : ℕ) → workers ≤ 64 → IsOneLine (header_text workers)
header_is_one workers most =
    let word : List ℕ = codes "schedule 1 " ++ decimal workers in
    let all : IsWord 13 word = both 11 2 (codes "schedule 1 ") (decimal workers) (literal (codes "schedule 1 ") 11 refl refl)
    (two_digits workers most) in
    let is : header_text workers ≡ word ++ 10 ∷ [] = sym (append_assoc (codes "schedule 1 ") (decimal workers) (10 ∷ [])) in
    record { word = word; plain = all.plain; is = is; short = omega (arith, ap length is, length-append word (10 ∷ []), all.short) }

-- a text at the front of bytes that are followed by more, and no longer than the bytes
short_in_front : (bytes more text rest : List ℕ) → length text ≤ length bytes → bytes ++ more ≡ text ++ rest → bytes ≡ text ++ drop (length text) bytes
short_in_front bytes more text rest short same =
    let n : ℕ = length text in
    let front : take n bytes ≡ text = sym (take-append-le n bytes more short) ∙ (ap (take n) same ∙ (take-append-le n text rest (omega arith) ∙ take_all n text (omega arith))) in
    sym (take-append-drop n bytes) ∙ ap (λ (xs : List ℕ). xs ++ drop n bytes) front

-- a line at the front of bytes with a newline
line_in_front : (bytes more front behind word rest : List ℕ) → is_without 10 front ≡ true → is_without 10 word ≡ true → bytes ≡ front ++ 10 ∷ behind → bytes ++ more ≡ (word ++ 10 ∷ []) ++ rest
    → bytes ≡ (word ++ 10 ∷ []) ++ behind
line_in_front bytes more front behind word rest plain plain' is same =
    let whole : front ++ 10 ∷ (behind ++ more) ≡ word ++ 10 ∷ rest =
    sym (append_assoc front (10 ∷ behind) more) ∙ (ap (λ (xs : List ℕ). xs ++ more) (sym is) ∙ (same ∙ append_assoc word (10 ∷ []) rest)) in
    let one : front ≡ word = (split_unique 10 front word (behind ++ more) rest plain plain' whole).0 in
    is ∙ (ap (λ (xs : List ℕ). xs ++ 10 ∷ behind) one ∙ sym (append_assoc word (10 ∷ []) behind))

-- a line at the front of all bytes is at the front of those that have come, if they hold a line
in_front : (bytes more text rest : List ℕ) → HoldLine bytes → IsOneLine text → bytes ++ more ≡ text ++ rest → (after : List ℕ) × (bytes ≡ text ++ after)
in_front bytes more text rest holds one same = elim holds [
  | inl long ↦ (drop (length text) bytes, short_in_front bytes more text rest (omega (arith, long, one.short)) same)
  | inr newline ↦ (
    newline.1,
    line_in_front bytes more newline.0 newline.1 one.word rest newline.2 one.plain newline.3 (same ∙ ap (λ (xs : List ℕ). xs ++ rest) one.is) ∙ ap (λ (xs : List ℕ). xs ++ newline.1) (sym one.is),
  )
]

not_in_front : (bytes more text : List ℕ) → HoldLine bytes ⊎ (more ≡ []) → IsOneLine text → ((after : List ℕ) → bytes ≢ text ++ after) → (rest : List ℕ) → bytes ++ more ≢ text ++ rest
not_in_front bytes more text whole one none rest same = elim whole [
  | inl holds ↦ let here = in_front bytes more text rest holds one same in none here.0 here.1
  | inr end ↦ none rest (sym (append-nil bytes) ∙ (ap (λ (xs : List ℕ). bytes ++ xs) (sym end) ∙ same))
]

-- what holds for all bytes that come holds for those before them
pub carried_back : (P : List ℕ → Type 0) (a b : Option (List ℕ)) → Consumes a b [] → IfSome b P → IfSome a P
carried_back P None b same h = tt
carried_back P (Some xs) None same h = absurd same
carried_back P (Some xs) (Some ys) same h = subst P (sym same) h

-- with no unread byte, what comes is what the device has left
pub from_device : (held : List ℕ) (left : Option (List ℕ)) → held ≡ [] → Consumes left (prepend_known held left) []
from_device held None none = tt
from_device held (Some xs) none = ap (λ (ys : List ℕ). ys ++ xs) (sym none)

-- no header has come
pub bad_header : (held : List ℕ) (left : Option (List ℕ)) → HoldLine held ⊎ IsAtEnd left
    → ((workers : ℕ) (rest : List ℕ) → 1 ≤ workers → workers ≤ 64 → held ≢ header_text workers ++ rest) → IfSome (prepend_known held left) (λ bytes. IsBadHeader bytes 1)
bad_header held None whole none = tt
bad_header held (Some more) whole none =
    record { first = refl; none = λ workers rest some few. not_in_front held more (header_text workers) whole (header_is_one workers few) (λ after. none workers after some few) rest }

some_more : (xs ys : List ℕ) → xs ≢ [] → xs ++ ys ≢ []
some_more [] ys some e = some refl
some_more (x ∷ xs) ys some e = let f : x ∷ (xs ++ ys) ≡ [] = e in cc

module _ (before left : Option (List ℕ)) (held : List ℕ) (workers : ℕ) (lines : List Line) where
  abbrev read : List ℕ
  read = schedule_text (record { workers = workers; lines = lines })

  -- no line has come after those that were read
  pub bad_line : IsTextSchedule (record { workers = workers; lines = lines }) → Consumes before (prepend_known held left) read → held ≢ [] → HoldLine held ⊎ IsAtEnd left
      → ((next : Line) (after : List ℕ) → is_text_line workers next ≡ true → held ≢ line_text next ++ after) → IfSome before (λ bytes. IsMalformedAt bytes (length lines + 2))
  bad_line kept is some whole none = go before left is whole
    where
      go : (b l : Option (List ℕ)) → Consumes b (prepend_known held l) read → HoldLine held ⊎ IsAtEnd l → IfSome b (λ bytes. IsMalformedAt bytes (length lines + 2))
      go None l is whole = tt
      go (Some xs) None is whole = absurd is
      go (Some xs) (Some ys) is whole =
          inr (record {
            workers = workers;
            lines = lines;
            rest = held ++ ys;
            before = kept;
            is = is;
            some = some_more held ys some;
            number = refl;
            none = λ next after fits. not_in_front held ys (line_text next) whole (line_is_one workers next kept.few fits) (λ behind. none next behind fits) after;
          })

  -- a line that has come is read
  pub line_read : (l : Line) (held' : List ℕ) → Consumes before (prepend_known held left) read → held ≡ line_text l ++ held'
      → Consumes before (prepend_known held' left) (schedule_text (record { workers = workers; lines = lines ++ l ∷ [] }))
  line_read l held' is next = subst (λ (bytes : List ℕ). Consumes before (prepend_known held' left) bytes) (sym (text_more workers lines l)) (consumes_held before left read held (line_text l) held' next is)

-- more bytes have come
pub held_more : (a b c : Option (List ℕ)) (read : List ℕ) → Consumes a b read → Consumes b c [] → Consumes a c read
held_more a b c read is same = subst (λ (bytes : List ℕ). Consumes a c bytes) (append-nil read) (consumes_more a b c read [] is same)

-- this number of bytes at the front are skipped
pub passed : (bytes front rest : List ℕ) (start end count : ℕ) → count ≤ length (slice_range bytes start end) → slice_range bytes start end ≡ front ++ rest → length front ≡ count
    → slice_range bytes (start + count) end ≡ rest
passed bytes front rest start end count held same is =
    let here = length-take (end - start) (drop start bytes) in
    let more : end - start ≡ count + (end - (start + count)) = omega (arith, held, here) in
    let tail : drop count (slice_range bytes start end) ≡ slice_range bytes (start + count) end =
    ap (λ (n : ℕ). drop count (take n (drop start bytes))) more
    ∙ (drop-take count (end - (start + count)) (drop start bytes) ∙ ap (take (end - (start + count))) (drop-drop count start bytes)) in
    sym tail ∙ (ap (λ (n : ℕ). drop n (slice_range bytes start end)) (sym is) ∙ front_rest (slice_range bytes start end) front rest same)

-- bytes that came after those at the front
pub came_behind : (bytes buffer : List ℕ) (end room came : ℕ) → end ≤ length bytes → came ≤ length buffer
    → slice_range (put_mid end room bytes buffer) 0 (end + came) ≡ slice_range bytes 0 end ++ take came buffer
came_behind bytes buffer end room came inside within =
    let e : end + came - 0 ≡ end + came = omega arith in
    let f : end ≡ end - 0 = omega arith in
    ap (λ (k : ℕ). take k (put_mid end room bytes buffer)) e
    ∙ (take_put_back bytes buffer end room came inside within ∙ ap (λ (k : ℕ). take k bytes ++ take came buffer) f)

-- what is known about the rest stays as bytes come
pub rest_kept : (held taken : List ℕ) (a b : Option (List ℕ)) → Consumes a b taken → Consumes (prepend_known held a) (prepend_known (held ++ taken) b) []
rest_kept held taken None b h = tt
rest_kept held taken (Some xs) None h = absurd h
rest_kept held taken (Some xs) (Some ys) h = ap (λ (bytes : List ℕ). held ++ bytes) h ∙ sym (append_assoc held taken ys)

-- the first line is read
pub header_read : (a b c : Option (List ℕ)) (workers : ℕ) (lines : List Line) → lines ≡ [] → Consumes a b [] → Consumes b c (header_text workers)
    → Consumes a c (schedule_text (record { workers = workers; lines = lines }))
header_read a b c workers lines none same is =
    subst (λ (ls : List Line). Consumes a c (schedule_text (record { workers = workers; lines = ls }))) (sym none)
    (subst (λ (bytes : List ℕ). Consumes a c bytes) (sym (append-nil (header_text workers))) (consumes_more a b c [] (header_text workers) same is))

-- no line is read yet
pub none_kept : (workers : ℕ) (lines : List Line) → lines ≡ [] → 1 ≤ workers → workers ≤ 64 → IsTextSchedule (record { workers = workers; lines = lines })
none_kept workers lines none some few =
    subst (λ (ls : List Line). IsTextSchedule (record { workers = workers; lines = ls })) (sym none)
    (record { some = some; few = few; lines = All-nil (λ (line : Line). IsTrue (is_text_line workers line)) })

-- one line more is
pub line_kept : (workers : ℕ) (lines lines' : List Line) (l : Line) → lines' ≡ lines ++ l ∷ [] → IsTextSchedule (record { workers = workers; lines = lines }) → is_text_line workers l ≡ true
    → IsTextSchedule (record { workers = workers; lines = lines' })
line_kept workers lines lines' l more kept fits =
    subst (λ (ls : List Line). IsTextSchedule (record { workers = workers; lines = ls })) (sym more)
    (record { some = kept.some; few = kept.few; lines = All-push (λ (line : Line). IsTrue (is_text_line workers line)) lines l kept.lines fits })
