-- The parts of an event's text.
use Rattle.std.proofs.Common.{◌≡◌, ℕ, ◌<◌, ◌^◌, true, List, ◌∷◌, ◌++◌, get_or, Option, Some, None, refl, sym, ap, ◌∙◌, arith, append_assoc}
use Rattle.std.proofs.lemmas.Bool.{and_parts, ltb-true}
use Rattle.std.proofs.lemmas.Fmt.{decimal_injective}
use Rattle.std.specs.Prelude.{MatchOption, nat_lt, ◌&&◌, ◌==◌, if◌then◌else◌, decimal}
use Rattle.history.specs.Reading.{is_without}
use Rattle.history.specs.Verb.{verb_text, verb_of, has_numbers, numbers_then}
use Rattle.scheduler.specs.CallText.{event_text}
use Rattle.scheduler.specs.declared.schedule.verb.Verb.{Verb}
use Rattle.scheduler.specs.declared.schedule.verb.Verb.TheVariants as verb
use Rattle.scheduler.specs.declared.event.Event.{Event}
use Rattle.scheduler.specs.declared.event.Event.TheVariants.{Claim, Look, Drain, Complete, Settle, Poll, Copy}
use Rattle.history.proofs.Lemmas.Texts.{split_unique, decimal_without}

pub verb_without : (v : Verb) → is_without 32 (verb_text v) ≡ true
verb_without verb.Claim = refl
verb_without verb.Look = refl
verb_without verb.Drain = refl
verb_without verb.Complete = refl
verb_without verb.Settle = refl
verb_without verb.Poll = refl
verb_without verb.Copy = refl

-- the verb whose text has these letters
verb_back : List ℕ → Verb
verb_back w =
    if get_or w 0 0 == 108 then verb.Look
    else if get_or w 0 0 == 100 then verb.Drain
    else if get_or w 0 0 == 115 then verb.Settle
    else if get_or w 0 0 == 112 then verb.Poll
    else if get_or w 1 0 == 108 then verb.Claim
    else if get_or w 2 0 == 109 then verb.Complete
    else verb.Copy

verb_back-text : (v : Verb) → verb_back (verb_text v) ≡ v
unfolding verb_back
verb_back-text verb.Claim = refl
verb_back-text verb.Look = refl
verb_back-text verb.Drain = refl
verb_back-text verb.Complete = refl
verb_back-text verb.Settle = refl
verb_back-text verb.Poll = refl
verb_back-text verb.Copy = refl

pub verb_injective : (v w : Verb) → verb_text v ≡ verb_text w → v ≡ w
verb_injective v w e = sym (verb_back-text v) ∙ (ap verb_back e ∙ verb_back-text w)

pub event_text-verb : (e : Event) (rest : List ℕ) → event_text e ++ 32 ∷ rest ≡ verb_text (verb_of e) ++ 32 ∷ numbers_then e rest
event_text-verb (Claim r) rest = refl
event_text-verb (Look r) rest = refl
event_text-verb (Drain d s) rest = ap (λ (xs : List ℕ). verb_text verb.Drain ++ 32 ∷ xs) (append_assoc (decimal d) (32 ∷ decimal s) (32 ∷ rest))
event_text-verb (Complete d) rest = refl
event_text-verb (Settle d) rest = refl
event_text-verb Poll rest = refl
event_text-verb (Copy d n) rest = ap (λ (xs : List ℕ). verb_text verb.Copy ++ 32 ∷ xs) (append_assoc (decimal d) (32 ∷ decimal n) (32 ∷ rest))

-- an event's text begins with its verb
pub begins : (e : Event) (name bytes rest after : List ℕ) → is_without 32 name ≡ true → bytes ≡ name ++ 32 ∷ rest → bytes ≡ event_text e ++ 32 ∷ after → (name ≡ verb_text (verb_of e)) × (rest ≡ numbers_then e after)
begins e name bytes rest after plain is same = split_unique 32 name (verb_text (verb_of e)) rest (numbers_then e after) plain (verb_without (verb_of e)) (sym is ∙ (same ∙ event_text-verb e after))

pub event_is : (e : Event) (v : Verb) (name bytes rest after : List ℕ) → name ≡ verb_text v → verb_of e ≡ v → bytes ≡ name ++ 32 ∷ rest → rest ≡ numbers_then e after → bytes ≡ event_text e ++ 32 ∷ after
event_is e v name bytes rest after spells is split numbers =
    split ∙ (ap (λ (w : List ℕ). w ++ 32 ∷ rest) (spells ∙ ap verb_text (sym is)) ∙ (ap (λ (r : List ℕ). verb_text (verb_of e) ++ 32 ∷ r) numbers ∙ sym (event_text-verb e after)))

-- what holds for a result, from what holds for either case
pub match_known : {X : Type 0} (o : Option X) (N M : Type 0) (P Q : X → Type 0) → MatchOption o N P → (N → M) → ((x : X) → P x → Q x) → MatchOption o M Q
match_known None N M P Q h f g = f h
match_known (Some x) N M P Q h f g = g x h

pub number_unique : (m n : ℕ) (t u : List ℕ) → m < 2 ^ 32 → n < 2 ^ 32 → decimal m ++ 32 ∷ t ≡ decimal n ++ 32 ∷ u → (m ≡ n) × (t ≡ u)
number_unique m n t u few few' e =
    let both = split_unique 32 (decimal m) (decimal n) t u (decimal_without 32 m (omega arith) (omega arith)) (decimal_without 32 n (omega arith) (omega arith)) e in
    (decimal_injective m n (omega arith) (omega arith) both.0, both.1)

pair_unique : (m n p q : ℕ) (t u : List ℕ) → (nat_lt m (2 ^ 32) && nat_lt n (2 ^ 32)) ≡ true → (nat_lt p (2 ^ 32) && nat_lt q (2 ^ 32)) ≡ true → decimal m ++ 32 ∷ (decimal n ++ 32 ∷ t) ≡ decimal p ++ 32 ∷ (decimal q ++ 32 ∷ u) → (m ≡ p) × (n ≡ q) × (t ≡ u)
pair_unique m n p q t u h k e =
    let a = and_parts (nat_lt m (2 ^ 32)) (nat_lt n (2 ^ 32)) h in
    let b = and_parts (nat_lt p (2 ^ 32)) (nat_lt q (2 ^ 32)) k in
    let one = number_unique m p (decimal n ++ 32 ∷ t) (decimal q ++ 32 ∷ u) (ltb-true m (2 ^ 32) a.0) (ltb-true p (2 ^ 32) b.0) e in
    let two = number_unique n q t u (ltb-true n (2 ^ 32) a.1) (ltb-true q (2 ^ 32) b.1) one.1 in
    (one.0, two.0, two.1)

one_unique : (make : ℕ → Event) (m n : ℕ) (t u : List ℕ) → nat_lt m (2 ^ 32) ≡ true → nat_lt n (2 ^ 32) ≡ true → decimal m ++ 32 ∷ t ≡ decimal n ++ 32 ∷ u → (make m ≡ make n) × (t ≡ u)
one_unique make m n t u h k e =
    let both = number_unique m n t u (ltb-true m (2 ^ 32) h) (ltb-true n (2 ^ 32) k) e in
    (ap make both.0, both.1)

two_unique : (make : ℕ → ℕ → Event) (m n p q : ℕ) (t u : List ℕ) → (nat_lt m (2 ^ 32) && nat_lt n (2 ^ 32)) ≡ true → (nat_lt p (2 ^ 32) && nat_lt q (2 ^ 32)) ≡ true → decimal m ++ 32 ∷ (decimal n ++ 32 ∷ t) ≡ decimal p ++ 32 ∷ (decimal q ++ 32 ∷ u) → (make m n ≡ make p q) × (t ≡ u)
two_unique make m n p q t u h k e =
    let all = pair_unique m n p q t u h k e in
    (ap (λ (x : ℕ). make x n) all.0 ∙ ap (make p) all.1, all.2)

numbers_unique : (e f : Event) (t u : List ℕ) → verb_of e ≡ verb_of f → has_numbers e ≡ true → has_numbers f ≡ true → numbers_then e t ≡ numbers_then f u → (e ≡ f) × (t ≡ u)
numbers_unique (Claim m) (Claim n) t u is h k e = one_unique Claim m n t u h k e
numbers_unique (Look m) (Look n) t u is h k e = one_unique Look m n t u h k e
numbers_unique (Complete m) (Complete n) t u is h k e = one_unique Complete m n t u h k e
numbers_unique (Settle m) (Settle n) t u is h k e = one_unique Settle m n t u h k e
numbers_unique (Drain m n) (Drain p q) t u is h k e = two_unique Drain m n p q t u h k e
numbers_unique (Copy m n) (Copy p q) t u is h k e = two_unique Copy m n p q t u h k e
numbers_unique Poll Poll t u is h k e = (refl, e)
numbers_unique e f t u is h k same = absurd (cc)

-- an event that ends at a space is unique, and so is what follows
pub event_unique : (e f : Event) (t u : List ℕ) → has_numbers e ≡ true → has_numbers f ≡ true → event_text e ++ 32 ∷ t ≡ event_text f ++ 32 ∷ u → (e ≡ f) × (t ≡ u)
event_unique e f t u h k same =
    let both = begins f (verb_text (verb_of e)) (event_text e ++ 32 ∷ t) (numbers_then e t) u (verb_without (verb_of e)) (event_text-verb e t) same in
    numbers_unique e f t u (verb_injective (verb_of e) (verb_of f) both.0) h k both.1
