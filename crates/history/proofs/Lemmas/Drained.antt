use Rattle.std.proofs.Common.{◌≡◌, ◌≢◌, ℕ, zero, suc, ◌+◌, ◌*◌, ◌/◌, ◌%◌, ◌<◌, ◌≤◌, Bool, true, false, List, [], ◌∷◌, ◌++◌, Option, Some, None, refl, sym, ap, ◌∙◌, subst, inl, inr, ◌⊎◌, arith}
use Rattle.std.specs.Prelude.{if◌then◌else◌, IsTrue, ◌==◌, ◌&&◌, not, is_none}
use Rattle.std.proofs.lemmas.Bool.{lt-ltb, le-ltb, and_parts, or_cases, or_right, eqb-true, cases_eq, cases_lt, eq-eqb, ne_eqb, false≢true}
use Rattle.std.proofs.lemmas.Nat.{div-mul-add, mod-mul-add, div-add-mod'}
use Rattle.scheduler.specs.MoveTable.{MoveTable, reads, to_fill}
use Rattle.scheduler.specs.State.{State, opening, is_pending, readers_left, may_claim, state_after, IsStep}
use Rattle.scheduler.specs.History.{CountsDown}
use Rattle.scheduler.specs.declared.event.Event.{Event}
use Rattle.scheduler.specs.declared.event.Event.TheVariants.{Claim, Look, Drain, Complete, Settle, Poll, Copy}
use Rattle.scheduler.specs.declared.reply.Reply.{Reply}
use Rattle.scheduler.specs.declared.reply.Reply.TheVariants.{Yes, No}
use Rattle.scheduler.specs.declared.entry.Entry.{Entry}
use Rattle.history.specs.Slide.{Slide, IsSlideOf, word_from, word_for, moved_heap, words_of, Machine, write_one, write_words, IsWritten, IsCopiedOut, AllowsWords, copied, machine_after, machine_from, AreMachineSteps}

-- the machine before any call, over this heap
abbrev pub machine_at_first : (ℕ → ℕ) → Machine
machine_at_first start = record { known = opening; heap = start; written = λ r. 0 }

-- the lowest unwritten word of d
abbrev pub next_place : Slide → ℕ → Machine → ℕ
next_place p d w = d * p.size + w.written d

-- when each word is written, its origin holds the word of the start
abbrev pub Finds : Slide → (ℕ → ℕ) → Machine → Event → Type 0
Finds p start w (Copy d n) = (k x : ℕ) → k < n → p.origin (d * p.size + w.written d + k) ≡ Some x → (write_words p d k w).heap x ≡ start x
Finds p start w _ = Unit {0}

abbrev pub AllFind : Slide → (ℕ → ℕ) → Machine → List Entry → Type 0
AllFind p start w [] = Unit {0}
AllFind p start w (e ∷ es) = Finds p start w e.event × AllFind p start (machine_after p w e) es

-- so does each call, by the machine after the calls before it
pub finds_in : (p : Slide) (start : ℕ → ℕ) (w : Machine) (before after : List Entry) (e : Entry) → AllFind p start w (before ++ e ∷ after) → Finds p start (machine_from p w before) e.event
finds_in p start w [] after e all = all.0
finds_in p start w (f ∷ fs) after e all = finds_in p start (machine_after p w f) fs after e all.1

-- all regions that are to be filled are filled
abbrev pub AllFilled : MoveTable → State → Type 0
AllFilled m now = (r : ℕ) → IsTrue (to_fill m r) → IsTrue (now.filled r)

-- What holds after each call.
pub record IsKept (m : MoveTable) (p : Slide) (start : ℕ → ℕ) (w : Machine) : Type 0 where
  pub untouched : (d : ℕ) → w.known.claimed d ≡ None → w.written d ≡ 0
  pub read_out : (d s worker : ℕ) → w.known.claimed s ≡ Some worker → IsTrue (reads m d s) → IsTrue (w.known.drained d s)
  pub copied_out : (d s : ℕ) → IsTrue (w.known.drained d s) → IsCopiedOut p w d s
  pub within : (d : ℕ) → w.written d ≤ words_of p d
  pub done : (d : ℕ) → IsTrue (w.known.filled d) → w.written d ≡ words_of p d
  pub moved : (a : ℕ) → IsWritten p w a → w.heap a ≡ word_for p start a
  pub stands : (a : ℕ) → w.written (a / p.size) ≤ a % p.size → w.heap a ≡ start a

-- either a choice is the first, where the numbers are equal, or the second
pub choice_cases : {A : Type 0} (a b : ℕ) (x y : A) → ((a ≡ b) × ((if a == b then x else y) ≡ x)) ⊎ ((a ≢ b) × ((if a == b then x else y) ≡ y))
choice_cases a b x y = go (cases_eq a b)
  where
    go : (a ≡ b) ⊎ (a ≡ b → ⊥) → ((a ≡ b) × ((if a == b then x else y) ≡ x)) ⊎ ((a ≢ b) × ((if a == b then x else y) ≡ y))
    go (inl e) = inl (e, rw (eq-eqb a b e))
    go (inr n) = inr (n, rw (ne_eqb a b n))

-- an option that isn't `None` has a value
pub some_where_not_none : (o : Option ℕ) → (o ≡ None → ⊥) → (v : ℕ) × (o ≡ Some v)
some_where_not_none None h = absurd (h refl)
some_where_not_none (Some v) h = (v, refl)

-- two heaps that agree at the word's origin give the same word
pub word_from_same : (p : Slide) (f g : ℕ → ℕ) (a : ℕ) (o : Option ℕ) → ((x : ℕ) → o ≡ Some x → f x ≡ g x) → word_from p f a o ≡ word_from p g a o
word_from_same p f g a None h = refl
word_from_same p f g a (Some x) h = ap (λ v. p.carried x v) (h x refl)

-- the next place of a region whose words aren't all written
pub record IsPlace (p : Slide) (d k a : ℕ) : Type 0 where
  pub below : a < p.top
  pub short : k < p.size
  pub region : a / p.size ≡ d
  pub offset : a % p.size ≡ k

pub place_is : (p : Slide) (d k : ℕ) → k < words_of p d → IsPlace p d k (d * p.size + k)
place_is p d k h =
    let s : k < p.size = omega arith in
    record { below = omega arith; short = s; region = div-mul-add d p.size k s; offset = mod-mul-add d p.size k s }

-- an address is determined by its region and its offset in it
pub address_is : (p : Slide) (a d k : ℕ) → a / p.size ≡ d → a % p.size ≡ k → a ≡ d * p.size + k
address_is p a d k e f = sym (div-add-mod' a p.size) ∙ (rw (e, f) refl)

-- the origin of the next word of a region that is being filled still has the word of the start
pub origin_stands : (m : MoveTable) (p : Slide) (start : ℕ → ℕ) (w : Machine) (worker d x : ℕ)
    → IsSlideOf m p → IsKept m p start w → w.known.claimed d ≡ Some worker → w.written d < words_of p d
    → p.origin (next_place p d w) ≡ Some x → w.heap x ≡ start x
origin_stands m p start w worker d x slide kept own room from = kept.stands x (above (cases_lt (x % p.size) (w.written (x / p.size))))
  where
    place : IsPlace p d (w.written d) (next_place p d w)
    place = place_is p d (w.written d) room

    same : x / p.size ≡ d → w.written (x / p.size) ≤ x % p.size
    same e =
        let down : next_place p d w ≤ x = slide.down (next_place p d w) x place.below from in
        let at : x ≡ d * p.size + x % p.size = address_is p x d (x % p.size) e refl in
        rw e (omega arith)

    other : (d ≡ x / p.size → ⊥) → x % p.size < w.written (x / p.size) → ⊥
    other n lt =
        let some = some_where_not_none (w.known.claimed (x / p.size)) (λ none. let z : w.written (x / p.size) ≡ 0 = kept.untouched (x / p.size) none in omega arith) in
        let reads_it : IsTrue (reads m d (x / p.size)) = rw place.region at (slide.crossing (next_place p d w) x place.below from (λ e. n (sym place.region ∙ e))) in
        let drained : IsTrue (w.known.drained d (x / p.size)) = kept.read_out d (x / p.size) some.0 some.1 reads_it in
        let out : IsWritten p w (next_place p d w) = kept.copied_out d (x / p.size) drained (next_place p d w) x place.below place.region from refl in
        let out' : w.written d < w.written d = rw (place.offset, place.region) at out in
        omega arith

    above : (x % p.size < w.written (x / p.size)) ⊎ (w.written (x / p.size) ≤ x % p.size) → w.written (x / p.size) ≤ x % p.size
    above (inr le) = le
    above (inl lt) = either (cases_eq d (x / p.size)) lt
      where
        either : (d ≡ x / p.size) ⊎ (d ≡ x / p.size → ⊥) → x % p.size < w.written (x / p.size) → w.written (x / p.size) ≤ x % p.size
        either (inl e) lt = same (sym e)
        either (inr n) lt = absurd (other n lt)

-- one word more
pub write_one_kept : (m : MoveTable) (p : Slide) (start : ℕ → ℕ) (w : Machine) (worker d : ℕ)
    → IsSlideOf m p → IsKept m p start w → w.known.claimed d ≡ Some worker → w.known.filled d ≡ false → w.written d < words_of p d
    → IsKept m p start (write_one p d w)
write_one_kept m p start w worker d slide kept own unfilled room =
    record {
      untouched = λ e none. untouched' e none (count e);
      read_out = kept.read_out;
      copied_out = λ e s drained a x below region from source. grown a (kept.copied_out e s drained a x below region from source) (count (a / p.size));
      within = λ e. within' e (count e);
      done = λ e filled. done' e filled (count e);
      moved = λ a written. moved' a written (count (a / p.size)) (choice_cases a (next_place p d w) (word_for p w.heap a) (w.heap a));
      stands = λ a above. stands' a above (count (a / p.size)) (choice_cases a (next_place p d w) (word_for p w.heap a) (w.heap a));
    }
  where
    place : IsPlace p d (w.written d) (next_place p d w)
    place = place_is p d (w.written d) room

    new : Machine
    new = write_one p d w

    Count : ℕ → Type 0
    Count e = ((e ≡ d) × ((write_one p d w).written e ≡ w.written e + 1)) ⊎ ((e ≢ d) × ((write_one p d w).written e ≡ w.written e))

    count : (e : ℕ) → ((e ≡ d) × ((write_one p d w).written e ≡ w.written e + 1)) ⊎ ((e ≢ d) × ((write_one p d w).written e ≡ w.written e))
    count e = choice_cases e d (w.written e + 1) (w.written e)

    untouched' : (e : ℕ) → w.known.claimed e ≡ None → ((e ≡ d) × ((write_one p d w).written e ≡ w.written e + 1)) ⊎ ((e ≢ d) × ((write_one p d w).written e ≡ w.written e)) → (write_one p d w).written e ≡ 0
    untouched' e none (inl h) = let f : w.known.claimed e ≡ w.known.claimed d = ap w.known.claimed h.0 in cc
    untouched' e none (inr h) = h.1 ∙ kept.untouched e none

    grown : (a : ℕ) → IsWritten p w a → ((a / p.size ≡ d) × ((write_one p d w).written (a / p.size) ≡ w.written (a / p.size) + 1)) ⊎ ((a / p.size ≢ d) × ((write_one p d w).written (a / p.size) ≡ w.written (a / p.size))) → IsWritten p (write_one p d w) a
    grown a lt (inl h) = rw h.1 (omega arith)
    grown a lt (inr h) = rw h.1 lt

    within' : (e : ℕ) → ((e ≡ d) × ((write_one p d w).written e ≡ w.written e + 1)) ⊎ ((e ≢ d) × ((write_one p d w).written e ≡ w.written e)) → (write_one p d w).written e ≤ words_of p e
    within' e (inl h) = rw (h.1, h.0) (omega arith)
    within' e (inr h) = rw h.1 (kept.within e)

    done' : (e : ℕ) → IsTrue (w.known.filled e) → ((e ≡ d) × ((write_one p d w).written e ≡ w.written e + 1)) ⊎ ((e ≢ d) × ((write_one p d w).written e ≡ w.written e)) → (write_one p d w).written e ≡ words_of p e
    done' e filled (inl h) = let f : w.known.filled e ≡ w.known.filled d = ap w.known.filled h.0 in cc
    done' e filled (inr h) = h.1 ∙ kept.done e filled

    found : word_for p w.heap (next_place p d w) ≡ word_for p start (next_place p d w)
    found = word_from_same p w.heap start (next_place p d w) (p.origin (next_place p d w)) (λ x from. origin_stands m p start w worker d x slide kept own room from)

    -- another place of the region is not the next one
    moved' : (a : ℕ) → IsWritten p (write_one p d w) a
        → ((a / p.size ≡ d) × ((write_one p d w).written (a / p.size) ≡ w.written (a / p.size) + 1)) ⊎ ((a / p.size ≢ d) × ((write_one p d w).written (a / p.size) ≡ w.written (a / p.size)))
        → ((a ≡ next_place p d w) × ((write_one p d w).heap a ≡ word_for p w.heap a)) ⊎ ((a ≢ next_place p d w) × ((write_one p d w).heap a ≡ w.heap a))
        → (write_one p d w).heap a ≡ word_for p start a
    moved' a lt c (inl at) = at.1 ∙ (rw at.0 found)
    moved' a lt (inr h) (inr at) = at.1 ∙ kept.moved a (rw h.1 at lt)
    moved' a lt (inl h) (inr at) = at.1 ∙ kept.moved a (lower (cases_lt (a % p.size) (w.written (a / p.size))))
      where
        lower : (a % p.size < w.written (a / p.size)) ⊎ (w.written (a / p.size) ≤ a % p.size) → a % p.size < w.written (a / p.size)
        lower (inl lt') = lt'
        lower (inr ge) =
            let lt2 : a % p.size < w.written (a / p.size) + 1 = rw h.1 at lt in
            let same : a % p.size ≡ w.written (a / p.size) = omega arith in
            absurd (at.0 (address_is p a d (w.written d) h.0 (same ∙ ap w.written h.0)))

    stands' : (a : ℕ) → (write_one p d w).written (a / p.size) ≤ a % p.size
        → ((a / p.size ≡ d) × ((write_one p d w).written (a / p.size) ≡ w.written (a / p.size) + 1)) ⊎ ((a / p.size ≢ d) × ((write_one p d w).written (a / p.size) ≡ w.written (a / p.size)))
        → ((a ≡ next_place p d w) × ((write_one p d w).heap a ≡ word_for p w.heap a)) ⊎ ((a ≢ next_place p d w) × ((write_one p d w).heap a ≡ w.heap a))
        → (write_one p d w).heap a ≡ start a
    stands' a ge (inl h) (inr at) = at.1 ∙ kept.stands a (let g : w.written (a / p.size) + 1 ≤ a % p.size = rw h.1 at ge in omega arith)
    stands' a ge (inr h) (inr at) = at.1 ∙ kept.stands a (rw h.1 at ge)
    stands' a ge (inr h) (inl at) = absurd (h.0 (ap (λ b. b / p.size) at.0 ∙ place.region))
    stands' a ge (inl h) (inl at) =
        let g : w.written (a / p.size) + 1 ≤ a % p.size = rw h.1 at ge in
        let o : a % p.size ≡ w.written d = ap (λ b. b % p.size) at.0 ∙ place.offset in
        let s : w.written (a / p.size) ≡ w.written d = ap w.written h.0 in
        absurd (omega arith)

-- copying changes nothing that the scheduler knows
pub write_words_known : (p : Slide) (d n : ℕ) (w : Machine) → (write_words p d n w).known ≡ w.known
write_words_known p d zero w = refl
write_words_known p d (suc n) w = write_words_known p d n w

pub written-write_words : (p : Slide) (d n : ℕ) (w : Machine) → (write_words p d n w).written d ≡ w.written d + n
written-write_words p d zero w = omega arith
written-write_words p d (suc n) w = rw (eq-eqb d d refl) (omega (arith, written-write_words p d n w))

-- n words more
pub write_words_kept : (m : MoveTable) (p : Slide) (start : ℕ → ℕ) (w : Machine) (worker d n : ℕ)
    → IsSlideOf m p → IsKept m p start w → w.known.claimed d ≡ Some worker → w.known.filled d ≡ false → w.written d + n ≤ words_of p d
    → IsKept m p start (write_words p d n w)
write_words_kept m p start w worker d zero slide kept own unfilled room = kept
write_words_kept m p start w worker d (suc n) slide kept own unfilled room =
    let before : IsKept m p start (write_words p d n w) = write_words_kept m p start w worker d n slide kept own unfilled (omega arith) in
    let known : (write_words p d n w).known ≡ w.known = write_words_known p d n w in
    let count : (write_words p d n w).written d ≡ w.written d + n = written-write_words p d n w in
    write_one_kept m p start (write_words p d n w) worker d slide before (ap (λ (s : State). s.claimed d) known ∙ own) (ap (λ (s : State). s.filled d) known ∙ unfilled) (omega arith)

-- each word of a copy is found as it was at the start
pub copy_finds : (m : MoveTable) (p : Slide) (start : ℕ → ℕ) (w : Machine) (worker d n : ℕ)
    → IsSlideOf m p → IsKept m p start w → w.known.claimed d ≡ Some worker → w.known.filled d ≡ false → w.written d + n ≤ words_of p d
    → Finds p start w (Copy d n)
copy_finds m p start w worker d n slide kept own unfilled room k x few from =
    let before : IsKept m p start (write_words p d k w) = write_words_kept m p start w worker d k slide kept own unfilled (omega arith) in
    let known : (write_words p d k w).known ≡ w.known = write_words_known p d k w in
    let count : (write_words p d k w).written d ≡ w.written d + k = written-write_words p d k w in
    let at : next_place p d (write_words p d k w) ≡ d * p.size + w.written d + k = omega arith in
    origin_stands m p start (write_words p d k w) worker d x slide before (ap (λ (s : State). s.claimed d) known ∙ own) (omega arith) (ap p.origin at ∙ from)

-- the state at the opening
pub kept_at_first : (m : MoveTable) (p : Slide) (start : ℕ → ℕ) → IsKept m p start (machine_at_first start)
kept_at_first m p start =
    record {
      untouched = λ d e. refl;
      read_out = λ d s worker e reads_it. absurd (let f : Some worker ≡ None = sym e in cc);
      copied_out = λ d s e. absurd (false≢true e);
      within = λ d. omega arith;
      done = λ d e. absurd (false≢true e);
      moved = λ a lt. absurd (omega arith);
      stands = λ a le. refl;
    }

-- the same words, with another expression for the scheduler's state
pub kept_known : (m : MoveTable) (p : Slide) (start : ℕ → ℕ) (w : Machine) (known : State) → w.known ≡ known → IsKept m p start w
    → IsKept m p start (record { known = known; heap = w.heap; written = w.written })
kept_known m p start w known e kept =
    subst (λ (k : State). IsKept m p start (record { known = k; heap = w.heap; written = w.written })) e kept

pub yes_tells : (b : Bool) → Yes ≡ (if b then Yes else No) → b ≡ true
yes_tells true e = refl
yes_tells false e = cc

pub drained_where_not_pending : (r b : Bool) → (r && not b) ≡ false → r ≡ true → b ≡ true
drained_where_not_pending true true e f = refl
drained_where_not_pending true false e f = sym e
drained_where_not_pending false b e f = absurd (false≢true f)

-- a region that may be claimed has no pending readers
idle_where_claimable : (m : MoveTable) (now : State) (r : ℕ) → CountsDown m now → may_claim m now r ≡ true → (d : ℕ) → is_pending m now d r ≡ false
idle_where_claimable m now r counts e d =
    let a = and_parts (to_fill m r) (is_none (now.claimed r) && (readers_left m now r == 0)) e in
    let b = and_parts (is_none (now.claimed r)) (readers_left m now r == 0) a.1 in
    counts.no_reader d r (eqb-true (readers_left m now r) 0 b.1)

-- a granted claim
pub claim_kept : (m : MoveTable) (p : Slide) (start : ℕ → ℕ) (w : Machine) (worker r : ℕ)
    → IsKept m p start w → ((d : ℕ) → is_pending m w.known d r ≡ false)
    → IsKept m p start (record { known = state_after w.known worker (Claim r) Yes; heap = w.heap; written = w.written })
claim_kept m p start w worker r kept idle =
    record {
      untouched = λ d none. untouched' d none (choice_cases d r (Some worker) (w.known.claimed d));
      read_out = λ d s by own reads_it. read_out' d s by own reads_it (choice_cases s r (Some worker) (w.known.claimed s));
      copied_out = kept.copied_out;
      within = kept.within;
      done = kept.done;
      moved = kept.moved;
      stands = kept.stands;
    }
  where
    untouched' : (d : ℕ) → (if d == r then Some worker else w.known.claimed d) ≡ None
        → ((d ≡ r) × ((if d == r then Some worker else w.known.claimed d) ≡ Some worker)) ⊎ ((d ≢ r) × ((if d == r then Some worker else w.known.claimed d) ≡ w.known.claimed d))
        → w.written d ≡ 0
    untouched' d none (inl h) = let f : Some worker ≡ None = sym h.1 ∙ none in cc
    untouched' d none (inr h) = kept.untouched d (sym h.1 ∙ none)

    read_out' : (d s by : ℕ) → (if s == r then Some worker else w.known.claimed s) ≡ Some by → IsTrue (reads m d s)
        → ((s ≡ r) × ((if s == r then Some worker else w.known.claimed s) ≡ Some worker)) ⊎ ((s ≢ r) × ((if s == r then Some worker else w.known.claimed s) ≡ w.known.claimed s))
        → IsTrue (w.known.drained d s)
    read_out' d s by own reads_it (inl h) = rw h.0 (drained_where_not_pending (reads m d r) (w.known.drained d r) (idle d) (rw h.0 at reads_it))
    read_out' d s by own reads_it (inr h) = kept.read_out d s by (sym h.1 ∙ own) reads_it

-- one more call: each word is found as it was at the start, and the invariant stays
pub step_kept : (m : MoveTable) (p : Slide) (start : ℕ → ℕ) (w : Machine) (worker : ℕ) (event : Event) (reply : Reply)
    → IsSlideOf m p → CountsDown m w.known → IsKept m p start w
    → IsStep m w.known worker event reply (state_after w.known worker event reply) → AllowsWords p w event
    → Finds p start w event × IsKept m p start (record { known = state_after w.known worker event reply; heap = (copied p w event).heap; written = (copied p w event).written })
step_kept m p start w worker (Claim r) Yes slide counts kept step allowed =
    (tt, claim_kept m p start w worker r kept (idle_where_claimable m w.known r counts (yes_tells (may_claim m w.known r) step.replied)))
step_kept m p start w worker (Claim r) reply slide counts kept step allowed = (tt, kept)
step_kept m p start w worker (Look r) reply slide counts kept step allowed = (tt, kept)
step_kept m p start w worker Poll reply slide counts kept step allowed = (tt, kept)
step_kept m p start w worker (Drain d s) reply slide counts kept step allowed = (
  tt,
  record {
    untouched = kept.untouched;
    read_out = λ e t by own reads_it. or_right (e == d && t == s) (w.known.drained e t) (kept.read_out e t by own reads_it);
    copied_out = λ e t drained. out e t (or_cases (e == d && t == s) (w.known.drained e t) drained);
    within = kept.within;
    done = kept.done;
    moved = kept.moved;
    stands = kept.stands;
  },
)
  where
    out : (e t : ℕ) → ((e == d && t == s) ≡ true) ⊎ (w.known.drained e t ≡ true) → IsCopiedOut p w e t
    out e t (inr h) = kept.copied_out e t h
    out e t (inl h) =
        let both = and_parts (e == d) (t == s) h in
        rw (eqb-true e d both.0, eqb-true t s both.1) allowed
step_kept m p start w worker (Complete d) reply slide counts kept step allowed = (
  tt,
  record {
    untouched = kept.untouched;
    read_out = kept.read_out;
    copied_out = kept.copied_out;
    within = kept.within;
    done = λ r filled. done' r (or_cases (r == d) (w.known.filled r) filled);
    moved = kept.moved;
    stands = kept.stands;
  },
)
  where
    done' : (r : ℕ) → ((r == d) ≡ true) ⊎ (w.known.filled r ≡ true) → w.written r ≡ words_of p r
    done' r (inl h) = rw (eqb-true r d h) allowed
    done' r (inr h) = kept.done r h
step_kept m p start w worker (Settle d) reply slide counts kept step allowed =
    (tt, record { untouched = kept.untouched; read_out = kept.read_out; copied_out = kept.copied_out; within = kept.within; done = kept.done; moved = kept.moved; stands = kept.stands })
step_kept m p start w worker (Copy d n) reply slide counts kept step allowed = (
  copy_finds m p start w worker d n slide kept step.allowed.0.0 step.allowed.0.1 allowed,
  kept_known m p start (write_words p d n w) w.known (write_words_known p d n w) (write_words_kept m p start w worker d n slide kept step.allowed.0.0 step.allowed.0.1 allowed),
)

-- a whole history
pub steps_kept : (m : MoveTable) (p : Slide) (workers : ℕ) (start : ℕ → ℕ) (w : Machine) (log : List Entry)
    → IsSlideOf m p → ((now : State) → CountsDown m now) → IsKept m p start w → AreMachineSteps m p workers w log
    → AllFind p start w log × IsKept m p start (machine_from p w log)
steps_kept m p workers start w [] slide counts kept steps = (tt, kept)
steps_kept m p workers start w (e ∷ es) slide counts kept steps =
    let one = step_kept m p start w e.worker e.event e.reply slide (counts w.known) kept steps.0.1 steps.0.2 in
    let rest = steps_kept m p workers start (machine_after p w e) es slide counts one.1 steps.1 in
    ((one.0, rest.0), rest.1)

-- once all regions are filled, the heap is the moved one
pub filled_heap : (m : MoveTable) (p : Slide) (start : ℕ → ℕ) (w : Machine) → IsSlideOf m p → IsKept m p start w → AllFilled m w.known
    → (a : ℕ) → w.heap a ≡ moved_heap p start a
filled_heap m p start w slide kept filled a = go (cases_lt a p.top)
  where
    split : a ≡ a / p.size * p.size + a % p.size
    split = sym (div-add-mod' a p.size)

    sized : a % p.size < p.size
    sized = let s : 0 < p.size = slide.sized in omega arith

    go : (a < p.top) ⊎ (p.top ≤ a) → w.heap a ≡ moved_heap p start a
    go (inl lt) =
        let all : w.written (a / p.size) ≡ words_of p (a / p.size) = kept.done (a / p.size) (filled (a / p.size) (slide.filled a lt)) in
        rw (lt-ltb a p.top lt) (kept.moved a (rw all (omega arith)))
    go (inr le) =
        let few : w.written (a / p.size) ≤ words_of p (a / p.size) = kept.within (a / p.size) in
        rw (le-ltb a p.top le) (kept.stands a (omega arith))

-- what holds for a whole history, from the opening on
pub history_kept : (m : MoveTable) (p : Slide) (workers : ℕ) (start : ℕ → ℕ) (log : List Entry) → IsSlideOf m p → ((now : State) → CountsDown m now) → AreMachineSteps m p workers (machine_at_first start) log
    → AllFind p start (machine_at_first start) log × IsKept m p start (machine_from p (machine_at_first start) log)
history_kept m p workers start log slide counts steps = steps_kept m p workers start (machine_at_first start) log slide counts (kept_at_first m p start) steps
