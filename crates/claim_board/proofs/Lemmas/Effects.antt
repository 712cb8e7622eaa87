-- What each kind of step does to its word.
use Rattle.std.proofs.Common.{◌≡◌, ◌≢◌, ◌⊎◌, ℕ, ◌+◌, ◌-◌, ◌%◌, ◌^◌, ◌<◌, ◌≤◌, Bool, true, false, cond, ◌&&◌, ◌==◌, nat_lt, bit_or, List, Option, Some, None, is_some, refl, sym, ap, ◌∙◌, subst, inl, inr, ne_eqb, arith}
use Rattle.std.specs.Prelude.{IsTrue, not}
use Rattle.std.proofs.lemmas.Bool.{cases_eq}
use prog.Atomic.{either}
use Rattle.scheduler.specs.declared.event.Event.{Event}
use Rattle.scheduler.specs.declared.event.Event.TheVariants.{Claim, Look, Drain, Complete, Settle, Poll}
use Rattle.scheduler.specs.declared.reply.Reply.{Reply}
use Rattle.scheduler.specs.declared.reply.Reply.TheVariants.{Yes, No, Open, Outside, Claimed, Filled, Done, All, More}
use Rattle.scheduler.specs.declared.entry.Entry.{Entry}
use Rattle.scheduler.specs.MoveTable.{MoveTable, IsMoveTable, region_count, to_fill, reads}
use Rattle.scheduler.specs.State.{State, state_after, IsStep, unsettled, readers_left, may_claim, is_pending, IsFilling}
use Rattle.scheduler.specs.History.{state_of, IsLegal, calls_by, TellsOwn, AgreeOn}
use Rattle.claim_board.specs.Rule.{word_of, claim_reply, drain_reply, complete_reply, settle_reply, poll_reply, look_reply}
use Rattle.claim_board.proofs.Lemmas.Premises.{Reached, Own, Counts}
use Rattle.claim_board.proofs.Lemmas.Words.{at_word, at_region, at_rest, free_word, claim_others, claim_here, drain_others, drain_last, drain_here, complete_others, complete_here, settle_others, settle_here, one_left}

-- What a step must show, for any legal history with exactly these own calls of the worker, whatever the word is
abbrev pub Effect : MoveTable → ℕ → ℕ → List Entry → Event → (ℕ → Reply) → (ℕ → ℕ) → ℕ → Type 0
Effect m n w mine event reply f i =
    (log : List Entry) → IsLegal m n log → IsMoveTable m → calls_by w log ≡ mine → (found : ℕ) → found < 18446744073709551616 → found ≡ at_word m (state_of log) i
    → IsStep m (state_of log) w event (reply found) (state_after (state_of log) w event (reply found))
    × ((q : ℕ) → q ≢ i → at_word m (state_of log) q ≡ at_word m (state_after (state_of log) w event (reply found)) q)
    × (f found ≡ at_word m (state_after (state_of log) w event (reply found)) i)

-- what the worker's own calls say, in any history with exactly these
pub own_of : Own → (m : MoveTable) (n w : ℕ) (mine log : List Entry) → IsLegal m n log → calls_by w log ≡ mine → TellsOwn w (state_of mine) (state_of log)
own_of law m n w mine log legal calls = subst (λ c. TellsOwn w (state_of c) (state_of log)) calls (law m n w log legal)

claimed_or_not : (o : Option ℕ) (w : ℕ) → (o ≡ Some w) ⊎ (o ≢ Some w)
claimed_or_not None w = inr (λ e. cc)
claimed_or_not (Some x) w = go (cases_eq x w)
  where
    go : (x ≡ w) ⊎ (x ≡ w → ⊥) → (Some x ≡ Some w) ⊎ (Some x ≢ Some w)
    go (inl e) = inl (ap Some e)
    go (inr n) = inr (λ e. n (let f : Some x ≡ Some w = e in cc))

-- they determine the state of a region that they claimed
pub agree : (m : MoveTable) (w d : ℕ) (own st : State) → TellsOwn w own st → own.claimed d ≡ Some w → AgreeOn d own st
agree m w d own st tells claimed = go (claimed_or_not (st.claimed d) w)
  where
    go : (st.claimed d ≡ Some w) ⊎ (st.claimed d ≢ Some w) → AgreeOn d own st
    go (inl e) = tells.claimed d e
    go (inr n) = absurd (let f : Some w ≡ None = sym claimed ∙ (tells.others d n).claimed in cc)

filling_of : (w d : ℕ) (own st : State) → AgreeOn d own st → IsFilling own w d → IsFilling st w d
filling_of w d own st a f = (sym a.claimed ∙ f.0, sym a.filled ∙ f.1)

pub pending_as : (m : MoveTable) (d s : ℕ) (own st : State) → AgreeOn d own st → is_pending m own d s ≡ is_pending m st d s
pending_as m d s own st a = ap (λ (b : Bool). reads m d s && not b) (a.drained s)

pub claims : Reached → (m : MoveTable) (n w r : ℕ) (mine : List Entry) → r < region_count m → Effect m n w mine (Claim r) claim_reply (λ n. either (n == 0) 8 n) r
claims reached m n w r mine below log legal lawful calls found small is = (
  record { allowed = below; replied = ap (λ b. cond b Yes No) free; after = refl },
  (λ q apart. claim_others m st w r (found == 0) q apart),
  ap (λ (x : ℕ). either (found == 0) 8 x) at ∙ (claim_here m st w r (reached m n log legal) (found == 0) (sym free) ∙ sym (at_region m (state_after st w (Claim r) (claim_reply found)) r below)),
)
  where
    st : State
    st = state_of log

    at : found ≡ word_of m st r
    at = is ∙ at_region m st r below

    free : (found == 0) ≡ may_claim m st r
    free = ap (λ (x : ℕ). x == 0) at ∙ free_word m st r

pub drains : Reached → Own → Counts → (m : MoveTable) (n w d s : ℕ) (mine : List Entry) → s < region_count m → IsFilling (state_of mine) w d → IsTrue (is_pending m (state_of mine) d s)
    → Effect m n w mine (Drain d s) drain_reply (λ n. (n + (2 ^ 64 - 1)) % 2 ^ 64) s
drains reached own counts m n w d s mine below filling p log legal lawful calls found small is =
    let st = state_of log in
    let same = agree m w d (state_of mine) st (own_of own m n w mine log legal calls) filling.0 in
    let c = counts m st lawful in
    let q : IsTrue (is_pending m st d s) = sym (pending_as m d s (state_of mine) st same) ∙ p in
    let at = is ∙ at_region m st s below in (
      record { allowed = (filling_of w d (state_of mine) st same filling, q); replied = drain_last m st 0 d s found c (reached m n log legal) q at; after = refl },
      (λ x apart. drain_others m st w d s (drain_reply found) c q x apart),
      drain_here m st w d s found (drain_reply found) c (reached m n log legal) q at small ∙ sym (at_region m (state_after st w (Drain d s) (drain_reply found)) s below),
    )

pub completes : Own → (m : MoveTable) (n w d : ℕ) (mine : List Entry) → IsFilling (state_of mine) w d → ((s : ℕ) → is_pending m (state_of mine) d s ≡ false)
    → d < region_count m → Effect m n w mine (Complete d) complete_reply (λ n. bit_or n 4) d
completes own m n w d mine filling all below log legal lawful calls found small is =
    let st = state_of log in
    let same = agree m w d (state_of mine) st (own_of own m n w mine log legal calls) filling.0 in
    let f = filling_of w d (state_of mine) st same filling in (
      record { allowed = (f, λ s. sym (pending_as m d s (state_of mine) st same) ∙ all s); replied = refl; after = refl },
      (λ x apart. complete_others m st w d Done x apart),
      complete_here m st w d found Done f (is ∙ at_region m st d below) ∙ sym (at_region m (state_after st w (Complete d) Done) d below),
    )

pub settles : Reached → Own → Counts → (m : MoveTable) (n w d : ℕ) (mine : List Entry) → (state_of mine).claimed d ≡ Some w → IsTrue ((state_of mine).filled d) → (state_of mine).settled d ≡ false
    → Effect m n w mine (Settle d) settle_reply (λ n. (n + (2 ^ 64 - 1)) % 2 ^ 64) (region_count m)
settles reached own counts m n w d mine claimed full out log legal lawful calls found small is =
    let st = state_of log in
    let same = agree m w d (state_of mine) st (own_of own m n w mine log legal calls) claimed in
    let c = counts m st lawful in
    let here : st.claimed d ≡ Some w = sym same.claimed ∙ claimed in
    let open' : st.settled d ≡ false = sym same.settled ∙ out in
    let fills = (reached m n log legal).claimed_to_fill d w here in
    let at : found ≡ unsettled m st = is ∙ at_rest m st in (
      record {
        allowed = (here, sym same.filled ∙ full, open');
        replied = ap (λ b. cond b All More) (one_left found (unsettled m (state_after st 0 (Settle d) All)) (at ∙ c.unsettled_one 0 d All fills open'));
        after = refl;
      },
      (λ x apart. settle_others m st w d (settle_reply found) x apart),
      settle_here m st w d found (settle_reply found) c fills open' at small ∙ sym (at_rest m (state_after st w (Settle d) (settle_reply found))),
    )

pub polls : (m : MoveTable) (n w : ℕ) (mine : List Entry) → Effect m n w mine Poll poll_reply (λ n. n) (region_count m)
polls m n w mine log legal lawful calls found small is =
    (record { allowed = tt; replied = ap (λ (x : ℕ). cond (x == 0) All More) (is ∙ at_rest m (state_of log)); after = refl }, (λ x apart. refl), is)

look_is : (o : Option ℕ) (f t : Bool) (p found : ℕ) → (f ≡ true → o ≢ None) → p ≤ 2 → found ≡ cond {A = ℕ} (is_some o) (cond {A = ℕ} f 12 8) (p + cond {A = ℕ} t 0 16)
    → look_reply found ≡ cond f Filled (cond (is_some o) Claimed (cond t (Open p) (Outside p)))
look_is (Some w) true t p found was small is = ap look_reply is
look_is (Some w) false t p found was small is = ap look_reply is
look_is None true t p found was small is = absurd (was refl refl)
look_is None false true p found was small is =
    let e : found ≡ p = omega arith in
    rw (ne_eqb found 12 (λ z. omega arith), ne_eqb found 8 (λ z. omega arith)) (low (nat_lt found 16) refl e)
  where
    low : (b : Bool) → nat_lt found 16 ≡ b → found ≡ p → cond b (Open found) (Outside (found % 16)) ≡ Open p
    low true h e = ap Open e
    low false h e = absurd (grind arith)
look_is None false false p found was small is =
    rw (ne_eqb found 12 (λ z. omega arith), ne_eqb found 8 (λ z. omega arith)) (high (nat_lt found 16) refl)
  where
    high : (b : Bool) → nat_lt found 16 ≡ b → cond b (Open found) (Outside (found % 16)) ≡ Outside p
    high true h = absurd (grind arith)
    high false h = ap Outside (omega arith)

pub looks : Reached → Counts → (m : MoveTable) (n w r : ℕ) (mine : List Entry) → r < region_count m → Effect m n w mine (Look r) look_reply (λ n. n) r
looks reached counts m n w r mine below log legal lawful calls found small is =
    let st = state_of log in (
      record { allowed = below; replied = look_is (st.claimed r) (st.filled r) (to_fill m r) (readers_left m st r) found ((reached m n log legal).filled_claimed r) ((counts m st lawful).few r) (is ∙ at_region m st r below); after = refl },
      (λ x apart. refl),
      is,
    )
