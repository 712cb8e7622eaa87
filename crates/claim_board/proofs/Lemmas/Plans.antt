-- Each kind of step keeps the rule, and adds its entry.
use Rattle.std.proofs.Common.{◌≡◌, ◌≢◌, ◌⊎◌, ℕ, zero, suc, ◌-◌, ◌<◌, Bool, true, false, cond, ◌&&◌, ◌||◌, ◌==◌, nat_lt, List, [], ◌∷◌, ◌++◌, length, set, slice_index, get_or, refl, sym, ap, ◌∙◌, subst, inl, inr, ⊎_elim, length-set, eq-eqb, ne_eqb, arith}
use Rattle.std.specs.Prelude.{Option}
use Rattle.std.proofs.lemmas.Bool.{cases_order, and_parts, eqb-true, or_cases, ltb-true, false_from_ne_true}
use mathlib.Core.Option.{some}
use mathlib.Core.Option as maybe
use lib.ListN.{get_elem?}
use Rattle.atomic_table.specs.Table.{Me, Step, Valid, homes_after, keeps, gives, rest, Allows}
use Rattle.scheduler.specs.declared.event.Event.{Event}
use Rattle.scheduler.specs.declared.event.Event.TheVariants.{Claim, Look, Drain, Complete, Settle, Poll}
use Rattle.scheduler.specs.declared.reply.Reply.{Reply}
use Rattle.scheduler.specs.declared.reply.Reply.TheVariants.{Yes, No}
use Rattle.scheduler.specs.declared.entry.Entry.{Entry}
use Rattle.scheduler.specs.MoveTable.{MoveTable, IsMoveTable, region_count, is_before}
use Rattle.scheduler.specs.State.{State, opening, state_after, IsStep}
use Rattle.scheduler.specs.History.{entry, state_of, IsLegal, calls_by}
use Rattle.scheduler.specs.Shares.{MovesShares}
use Rattle.claim_board.specs.declared.rule.table_key.TableKey.{TableKey}
use Rattle.claim_board.specs.declared.rule.view.View.{View}
use Rattle.claim_board.specs.declared.rule.view.Touch.{Touch}
use Rattle.claim_board.specs.Views.{pass_view, IsPassView, worker_of, seen_of, mine_of, steps_of}
use Rattle.claim_board.specs.Steps.{touch_of}
use Rattle.claim_board.specs.Rule.{Kept, Extends, claim_reply, drain_reply, look_reply, complete_reply, settle_reply, poll_reply}
use Rattle.claim_board.specs.Slots.{pair_at, region_slot, touches, HomesFit, take_below, act_of, slots, first_of_slot, moved_of, kept, moved_and_added, GivesRight, GivesRegion}
use Rattle.claim_board.proofs.Lemmas.Logs.{legal_snoc, state_snoc}
use Rattle.claim_board.proofs.Lemmas.Words.{words_at, at_word, at_region, at_rest}
use Rattle.claim_board.proofs.Lemmas.Appends.{appends}
use Rattle.claim_board.proofs.Lemmas.Effects.{Effect}
use Rattle.claim_board.proofs.Lemmas.Acts.{grants_act, drains_give, completes_give, settles_still}

-- What the slots must show: the act is valid, and the slots then have what the longer history says
abbrev pub Plan : {S : Type 0} → MoveTable → ℕ → (ℕ → S) → (ℕ → S) → ℕ → ℕ → List (ℕ × S) → Event → (ℕ → Reply) → Type 0
Plan {S} m n first moved workers w held event reply =
    (log : List Entry) (found : ℕ) (homes : List (maybe.Option S)) → IsMoveTable m → IsLegal m workers (log ++ entry w event (reply found) ∷ []) → HomesFit m n first moved (state_of log) homes
    → Valid homes held (act_of m n first event found) × HomesFit m n first moved (state_after (state_of log) w event (reply found)) (homes_after homes held (act_of m n first event found))

pub allowed : {X : Type 0} (k : TableKey X) (count id i : ℕ) (me : Me (Option X) View) (event : Event) (reply : ℕ → Reply) (f : ℕ → ℕ) (s0 : Step (Option X)) → i < suc (region_count k.moves) → IsPassView me.0
    → Effect k.moves k.workers (worker_of me.0) (mine_of me.0) event reply f i
    → Plan k.moves (slots k) (first_of_slot k) (moved_of k) k.workers (worker_of me.0) me.1 event reply
    → Allows (kept k) count id me i f (moved_and_added k.moves (slots k) (first_of_slot k) k.workers event reply s0 me)
allowed {X} k count id i me event reply f s0 below is effect plan s both homes at small = (
  pass_view w (h.log ++ e ∷ []) (mine ++ e ∷ []) (taken ++ t ∷ []),
  act_of m (slots k) (first_of_slot k) event found,
  moved.0,
  record {
    words_kept = done.0.0;
    fit = subst (λ l. HomesFit m (slots k) (first_of_slot k) (moved_of k) (state_of l) after) (sym done.0.1)
        (subst (λ now. HomesFit m (slots k) (first_of_slot k) (moved_of k) now after) (sym (state_snoc opening h.log e)) moved.1);
  },
  ((refl, refl, done.1, refl), refl),
)
  where
    h : Kept k.moves k.workers s.words s.views
    h = both.words_kept

    m : MoveTable
    m = k.moves

    w : ℕ
    w = worker_of me.0

    mine : List Entry
    mine = mine_of me.0

    taken : List Touch
    taken = steps_of me.0

    t : Touch
    t = touch_of s0

    found : ℕ
    found = slice_index s.words i

    st : State
    st = state_of h.log

    e : Entry
    e = entry w event (reply found)

    st' : State
    st' = state_after st w event (reply found)

    after : List (maybe.Option (Option X))
    after = homes_after s.homes me.1 (act_of m (slots k) (first_of_slot k) event found)

    here : get_elem? s.views id ≡ some (pass_view w (seen_of me.0) mine taken)
    here = at ∙ ap some is

    calls : calls_by w h.log ≡ mine
    calls = (h.each_view id (pass_view w (seen_of me.0) mine taken) here).1.0.calls

    all_words : (q : ℕ) → q < suc (region_count m) → get_or s.words q 0 ≡ at_word m st q
    all_words q low = ⊎_elim
        (λ (t : q < region_count m). h.each_word q t ∙ sym (at_region m st q t))
        (λ (t : q ≡ region_count m). subst (λ (x : ℕ). get_or s.words x 0 ≡ at_word m st x) (sym t) (h.remaining ∙ sym (at_rest m st)))
        (split q (region_count m) low)
      where
        split : (q b : ℕ) → q < suc b → (q < b) ⊎ (q ≡ b)
        split zero zero low = inr refl
        split zero (suc b) low = inl (omega arith)
        split (suc q) zero low = absurd (omega arith)
        split (suc q) (suc b) low = ⊎_elim (λ (t : q < b). inl (omega arith)) (λ (t : q ≡ b). inr (ap suc t)) (split q b (omega arith))

    shown : IsStep m st w event (reply found) st' × ((q : ℕ) → q ≢ i → at_word m st q ≡ at_word m st' q) × (f found ≡ at_word m st' i)
    shown = effect h.log h.legal h.table calls found small (all_words i below)

    inside : i < length s.words
    inside = let z = h.size in omega arith

    words' : (q : ℕ) → q < suc (region_count m) → get_or (set s.words i (f found)) q 0 ≡ at_word m st' q
    words' = words_at s.words i (f found) (suc (region_count m)) (at_word m st) (at_word m st') inside shown.1 shown.2 all_words

    legal' : IsLegal m k.workers (h.log ++ e ∷ [])
    legal' = legal_snoc m k.workers opening h.log e h.legal (h.each_view id (pass_view w (seen_of me.0) mine taken) here).1.0.below shown.0

    moved : Valid s.homes me.1 (act_of m (slots k) (first_of_slot k) event found) × HomesFit m (slots k) (first_of_slot k) (moved_of k) st' after
    moved = plan h.log found s.homes h.table legal' both.fit

    done : ((k' : Kept m k.workers (set s.words i (f found)) (set s.views id (pass_view w (h.log ++ e ∷ []) (mine ++ e ∷ []) (taken ++ t ∷ [])))) × (k'.log ≡ h.log ++ e ∷ []))
        × Extends m k.workers w (seen_of me.0) mine event (reply found) (h.log ++ e ∷ []) (mine ++ e ∷ [])
    done = appends m k.workers s.words s.views h id w (seen_of me.0) mine taken t here event (reply found) shown.0
        (set s.words i (f found)) (length-set s.words i (f found))
        (λ r low. words' r (omega arith) ∙ at_region m st' r low)
        (words' (region_count m) (omega arith) ∙ at_rest m st')

-- what the scheduler's law says
abbrev pub Shares : Type 0
Shares = (m : MoveTable) (workers : ℕ) (log : List Entry) (worker : ℕ) (event : Event) (reply : Reply) → IsMoveTable m → IsLegal m workers (log ++ entry worker event reply ∷ [])
    → MovesShares m (state_of log) (state_after (state_of log) worker event reply) event reply

-- no other slot has the pair
alone : (m : MoveTable) (at k : ℕ) → IsMoveTable m → at < length m.pairs → k < length m.pairs → k ≢ at → ((pair_at m k).0 == (pair_at m at).0 && (pair_at m k).1 == (pair_at m at).1) ≡ false
alone m at k table inside lt apart =
    false_from_ne_true ((pair_at m k).0 == (pair_at m at).0 && (pair_at m k).1 == (pair_at m at).1)
    (λ e. let both = and_parts ((pair_at m k).0 == (pair_at m at).0) ((pair_at m k).1 == (pair_at m at).1) e in go (cases_order k at) (eqb-true (pair_at m k).0 (pair_at m at).0 both.0) (eqb-true (pair_at m k).1 (pair_at m at).1 both.1))
  where
    never : (p q : ℕ × ℕ) → p.0 ≡ q.0 → p.1 ≡ q.1 → is_before p q ≡ true → ⊥
    never p q a b e = test (or_cases (nat_lt p.0 q.0) (p.0 == q.0 && nat_lt p.1 q.1) e)
      where
        test : (nat_lt p.0 q.0 ≡ true) ⊎ ((p.0 == q.0 && nat_lt p.1 q.1) ≡ true) → ⊥
        test (inl h) = let lt = ltb-true p.0 q.0 h in omega arith
        test (inr h) = let lt = ltb-true p.1 q.1 (and_parts (p.0 == q.0) (nat_lt p.1 q.1) h).1 in omega arith

    go : (k ≡ at) ⊎ ((k < at) ⊎ (at < k)) → (pair_at m k).0 ≡ (pair_at m at).0 → (pair_at m k).1 ≡ (pair_at m at).1 → ⊥
    go (inl same) a b = apart same
    go (inr (inl less)) a b = never (pair_at m at) (pair_at m k) (sym a) (sym b) (table.ascending (length m.pairs - suc at) (length m.pairs - suc k) (0, 0) (omega arith) (omega arith))
    go (inr (inr more)) a b = never (pair_at m k) (pair_at m at) a b (table.ascending (length m.pairs - suc k) (length m.pairs - suc at) (0, 0) (omega arith) (omega arith))

module _ {S : Type 0} (m : MoveTable) (n : ℕ) (first moved : ℕ → S) where
  -- without slots nothing is to be shown
  none_fit : (now : State) (homes : List (maybe.Option S)) → n ≡ 0 → length homes ≡ n → HomesFit m n first moved now homes
  none_fit now homes none size = record { size = size; each = λ k lt. absurd (omega arith) }

  pub claim_plan : Shares → (workers w r : ℕ) (held : List (ℕ × S)) → Plan m n first moved workers w held (Claim r) claim_reply
  claim_plan law workers w r held log found homes table legal fit = go (found == 0) (law m workers log w (Claim r) (claim_reply found) table legal)
    where
      go : (b : Bool) → MovesShares m (state_of log) (state_after (state_of log) w (Claim r) (cond b Yes No)) (Claim r) (cond b Yes No)
          → Valid homes held (cond b (take_below first (touches m r) n) keeps) × HomesFit m n first moved (state_after (state_of log) w (Claim r) (cond b Yes No)) (homes_after homes held (cond b (take_below first (touches m r) n) keeps))
      go true moves = grants_act m first moved n r (state_of log) (state_after (state_of log) w (Claim r) Yes) homes held fit moves (λ q. refl)
      go false moves = (tt, fit)

  -- with no slots, nothing is given back
  none_plan : (workers w : ℕ) (held : List (ℕ × S)) (event : Event) (reply : ℕ → Reply) → ((found : ℕ) → act_of m n first event found ≡ gives) → n ≡ 0 → held ≡ [] → Plan m n first moved workers w held event reply
  none_plan workers w held event reply gives_it none bare log found homes table legal fit =
      subst (λ act. Valid homes held act × HomesFit m n first moved (state_after (state_of log) w event (reply found)) (homes_after homes held act)) (sym (gives_it found))
      (tt, subst (λ c. HomesFit m n first moved (state_after (state_of log) w event (reply found)) (homes_after homes c gives)) (sym bare) (none_fit (state_after (state_of log) w event (reply found)) homes none fit.size))

  some_drain : Shares → (workers w d s at : ℕ) (held rest : List (ℕ × S)) → at < n → at < length m.pairs → (pair_at m at).0 ≡ d → (pair_at m at).1 ≡ s → held ≡ (at, first at) ∷ rest
      → Plan m n first moved workers w held (Drain d s) drain_reply
  some_drain law workers w d s at held rest there inside one other is log found homes table legal fit = (
    tt,
    subst (λ c. HomesFit m n first moved (state_after (state_of log) w (Drain d s) (drain_reply found)) (homes_after homes c gives)) (sym is)
        (drains_give m first moved n at d s (state_of log) (state_after (state_of log) w (Drain d s) (drain_reply found)) homes rest there inside one other
        (λ k lt apart. (λ i. ((pair_at m k).0 == sym one i && (pair_at m k).1 == sym other i)) ∙ alone m at k table inside lt apart) (λ q. refl) fit (law m workers log w (Drain d s) (drain_reply found) table legal)),
  )

  some_complete : Shares → (workers w r : ℕ) (held rest : List (ℕ × S)) → region_slot m r < n → held ≡ (region_slot m r, moved r) ∷ rest → Plan m n first moved workers w held (Complete r) complete_reply
  some_complete law workers w r held rest inside is log found homes table legal fit = (
    tt,
    subst (λ c. HomesFit m n first moved (state_after (state_of log) w (Complete r) (complete_reply found)) (homes_after homes c gives)) (sym is)
        (completes_give m first moved n r (state_of log) (state_after (state_of log) w (Complete r) (complete_reply found)) homes rest inside (ap (λ (b : Bool). b || (state_of log).filled r) (eq-eqb r r refl))
        (λ q apart. ap (λ (b : Bool). b || (state_of log).filled q) (ne_eqb q r apart)) fit (law m workers log w (Complete r) (complete_reply found) table legal)),
  )

  pub look_plan : (workers w r : ℕ) (held : List (ℕ × S)) → Plan m n first moved workers w held (Look r) look_reply
  look_plan workers w r held log found homes table legal fit = (tt, fit)

  pub poll_plan : (workers w : ℕ) (held : List (ℕ × S)) → Plan m n first moved workers w held Poll poll_reply
  poll_plan workers w held log found homes table legal fit = (tt, fit)

  pub settle_plan : (workers w r : ℕ) (held : List (ℕ × S)) → Plan m n first moved workers w held (Settle r) settle_reply
  settle_plan workers w r held log found homes table legal fit = (tt, settles_still m first moved n (state_of log) (state_after (state_of log) w (Settle r) (settle_reply found)) homes fit (λ d s. refl) (λ q. refl) (λ q. refl))

module _ {X : Type 0} (k : TableKey X) where
  pub drain_plan : Shares → (w d s : ℕ) (held : List (ℕ × Option X)) → GivesRight k d s held → Plan k.moves (slots k) (first_of_slot k) (moved_of k) k.workers w held (Drain d s) drain_reply
  drain_plan law w d s held (inl none) = none_plan k.moves (slots k) (first_of_slot k) (moved_of k) k.workers w held (Drain d s) drain_reply (λ found. refl) none.0 none.1
  drain_plan law w d s held (inr on) = some_drain k.moves (slots k) (first_of_slot k) (moved_of k) law k.workers w d s on.0 held (rest held) on.2 on.1 (ap (λ p. p.0) on.3) (ap (λ p. p.1) on.3) on.4

  pub complete_plan : Shares → (w r : ℕ) (held : List (ℕ × Option X)) → GivesRegion k r held → Plan k.moves (slots k) (first_of_slot k) (moved_of k) k.workers w held (Complete r) complete_reply
  complete_plan law w r held (inl none) = none_plan k.moves (slots k) (first_of_slot k) (moved_of k) k.workers w held (Complete r) complete_reply (λ found. refl) none.0 none.1
  complete_plan law w r held (inr on) = some_complete k.moves (slots k) (first_of_slot k) (moved_of k) law k.workers w r held (rest held) on.0 on.1
