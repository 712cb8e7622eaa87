-- What is in the slots once all regions to be filled are settled.
use Rattle.std.proofs.Common.{◌≡◌, ◌⊎◌, ℕ, zero, suc, ◌+◌, ◌-◌, ◌^◌, ◌<◌, ◌≤◌, Bool, true, false, cond, List, [], ◌∷◌, ◌++◌, length, Option, Some, None, refl, sym, ap, ◌∙◌, subst, inl, inr, arith, true≢false, ne_eqb, nat_lt}
use Rattle.std.specs.Prelude.{◌||◌, ◌&&◌, ◌==◌, not, is_none, is_some, count_by, slice_index, slice_index_or, if◌then◌else◌}
use Rattle.std.specs.List.{range_with_len}
use Rattle.std.proofs.lemmas.Bool.{cases_Bool, cases_eq, lt-ltb, or_right, and_from}
use Rattle.std.proofs.lemmas.List.Sums.{sum_by-cons}
use mathlib.Core.Option.{some, none, some-ne-none, some-injective}
use mathlib.Core.Option as maybe
use lib.ListN.{get_elem?}
use Rattle.atomic_table.specs.Table.{Final, Seen}
use Rattle.scheduler.specs.declared.event.Event.{Event}
use Rattle.scheduler.specs.declared.event.Event.TheVariants.{Claim, Look, Drain, Complete, Settle, Poll, Copy}
use Rattle.scheduler.specs.declared.reply.Reply.{Reply}
use Rattle.scheduler.specs.declared.reply.Reply.TheVariants.{Yes}
use Rattle.scheduler.specs.declared.entry.Entry.{Entry}
use Rattle.scheduler.specs.MoveTable.{MoveTable, IsMoveTable, region_count, to_fill}
use Rattle.scheduler.specs.State.{State, opening, state_after, readers_left, unsettled}
use Rattle.scheduler.specs.History.{IsReached, IsLegal, state_of, state_from, BeginsWith}
use Rattle.scheduler.specs.Shares.{share_is_home, region_is_home}
use Rattle.claim_board.specs.declared.regions.holding.Holding.{Holding}
use Rattle.claim_board.specs.declared.rule.table_key.TableKey.{TableKey}
use Rattle.claim_board.specs.declared.rule.view.View.{View}
use Rattle.claim_board.specs.Rule.{Kept, word_of}
use Rattle.claim_board.specs.Slots.{pair_at, region_slot, all_slots, value_at, home_at, HomesFit, slots, moved_of, kept}
use Rattle.claim_board.specs.Holds.{pair_slot}
use Rattle.claim_board.specs.Homes.{is_claimed_word, IsHome, AreAsWordsSay}
use Rattle.box_row.specs.declared.place.InRow.{InRow}
use Rattle.claim_board.specs.Holdings.{IsSharedOut, IsPartOf, AreRegions, AreMoved, AreLaid, LieIn, is_moved, lies_in, words_of, in_pair, in_region}
use Rattle.claim_board.specs.Places.{source_at}
use Rattle.claim_board.specs.Unions.{IsComplete, AreComplete}
use Rattle.claim_board.proofs.Lemmas.Places.{pair, reads_at}
use Rattle.claim_board.proofs.Lemmas.Premises.{Reached, Counts}
use Rattle.claim_board.proofs.Lemmas.Acts.{moved_home}

none_counted : (p : ℕ → Bool) (a n r : ℕ) → count_by p (range_with_len a n) ≡ 0 → a ≤ r → r < a + n → p r ≡ false
none_counted p a zero r zero_is low high = absurd (omega arith)
none_counted p a (suc n) r zero_is low high = go (cases_eq r a) (λ c l h. none_counted p (a + 1) n r c l h)
  where
    cons : count_by p (a ∷ range_with_len (a + 1) n) ≡ cond {A = ℕ} (p a) 1 0 + count_by p (range_with_len (a + 1) n)
    cons = sum_by-cons (λ y. cond (p y) 1 0) a (range_with_len (a + 1) n)

    no_more : count_by p (a ∷ range_with_len (a + 1) n) ≡ 0
    no_more = zero_is

    here : (b : Bool) → cond {A = ℕ} b 1 0 ≡ 0 → b ≡ false
    here true e = absurd (omega arith)
    here false e = refl

    go : (r ≡ a) ⊎ (r ≡ a → ⊥) → (count_by p (range_with_len (a + 1) n) ≡ 0 → a + 1 ≤ r → r < a + 1 + n → p r ≡ false) → p r ≡ false
    go (inl same) later = ap p same ∙ here (p a) (let z = cons in let y = no_more in omega arith)
    go (inr other) later = later (let z = cons in let y = no_more in omega arith) (omega arith) (omega arith)

pub settled_all : (m : MoveTable) (st : State) (r : ℕ) → unsettled m st ≡ 0 → r < region_count m → to_fill m r ≡ true → st.settled r ≡ true
settled_all m st r left inside fills = go (st.settled r) (ap (λ (b : Bool). b && not (st.settled r)) (sym fills) ∙ none_counted (λ q. to_fill m q && not (st.settled q)) 0 (region_count m) r left (omega arith) (omega arith))
  where
    go : (b : Bool) → (true && not b) ≡ false → b ≡ true
    go true e = refl
    go false e = absurd (true≢false e)

filled_on : (w r : ℕ) (st : State) (event : Event) (reply : Reply) → st.filled r ≡ true → (state_after st w event reply).filled r ≡ true
filled_on w r st (Claim q) Yes is = is
filled_on w r st (Claim q) reply is = is
filled_on w r st (Look q) reply is = is
filled_on w r st (Drain d s) reply is = is
filled_on w r st (Complete d) reply is = or_right (r == d) (st.filled r) is
filled_on w r st (Settle d) reply is = is
filled_on w r st Poll reply is = is
filled_on w r st (Copy d n) reply is = is

filled_later : (st : State) (log : List Entry) (r : ℕ) → st.filled r ≡ true → (state_from st log).filled r ≡ true
filled_later st [] r is = is
filled_later st (e ∷ log) r is = filled_later (state_after st e.worker e.event e.reply) log r (filled_on e.worker r st e.event e.reply is)

state_append : (st : State) (one more : List Entry) → state_from st (one ++ more) ≡ state_from (state_from st one) more
state_append st [] more = refl
state_append st (e ∷ one) more = state_append (state_after st e.worker e.event e.reply) one more

-- a region that was filled stays so
pub filled_still : (log seen : List Entry) (r : ℕ) → BeginsWith log seen → (state_of seen).filled r ≡ true → (state_of log).filled r ≡ true
filled_still log seen r begins is = ap (λ l. (state_of l).filled r) begins.1 ∙ (ap (λ (st : State). st.filled r) (state_append opening seen begins.0) ∙ filled_later (state_of seen) begins.0 r is)

at_index : (xs : List (Option Holding)) (i : ℕ) (y : Option Holding) → get_elem? xs i ≡ some y → slice_index_or xs i None ≡ y
at_index [] i y e = absurd (some-ne-none y (sym e))
at_index (x ∷ xs) zero y e = some-injective x y e
at_index (x ∷ xs) (suc i) y e = at_index xs i y e

module _ (m : MoveTable) (table : IsMoveTable m) (n : ℕ) (values : List (Option Holding)) (moved : ℕ → Option Holding) (st : State) (homes : List (maybe.Option (Option Holding))) (xs : List (Option Holding)) (all : n ≡ all_slots m)
    (fit : HomesFit m n (λ i. slice_index_or values i None) moved st homes) (final : (k : ℕ) (y : Option Holding) → get_elem? homes k ≡ some (some y) → get_elem? xs k ≡ some y) (reached : IsReached m st) where
  first : ℕ → Option Holding
  first i = slice_index_or values i None

  moved_in : (r : ℕ) → r < region_count m → st.filled r ≡ true → in_region m xs r ≡ moved r
  moved_in r inside is = at_index xs (region_slot m r) (moved r) (final (region_slot m r) (moved r) (moved_home m (λ i. slice_index_or values i None) moved n r st homes fit (omega arith) is))

  unfilled : (r : ℕ) → st.claimed r ≡ None → st.filled r ≡ false
  unfilled r unclaimed = go (cases_Bool (st.filled r))
    where
      go : (st.filled r ≡ true) ⊎ (st.filled r ≡ false) → st.filled r ≡ false
      go (inl is) = absurd (reached.filled_claimed r is unclaimed)
      go (inr not_so) = not_so

  original_in : (r : ℕ) → r < region_count m → st.claimed r ≡ None → in_region m xs r ≡ in_region m values r
  original_in r inside none_claimed = at_index xs (region_slot m r) (in_region m values r) (final (region_slot m r) (in_region m values r) (fit.each (region_slot m r) (omega arith) ∙ ap some (home ∙ ap some value)))
    where
      back : region_slot m r - length m.pairs ≡ r
      back = omega arith

      above : nat_lt (region_slot m r) (length m.pairs) ≡ false
      above = Rattle.std.proofs.lemmas.Bool.false_from_ne_true (nat_lt (region_slot m r) (length m.pairs)) (λ e. let lt = Rattle.std.proofs.lemmas.Bool.ltb-true (region_slot m r) (length m.pairs) e in omega arith)

      home : home_at m (λ i. slice_index_or values i None) moved st (region_slot m r) ≡ some (value_at m (λ i. slice_index_or values i None) moved st (region_slot m r))
      home = ap (λ (b : Bool). if b then some (value_at m (λ i. slice_index_or values i None) moved st (region_slot m r)) else none)
          (ap (λ (b : Bool). if b then share_is_home st (pair_at m (region_slot m r)).0 (pair_at m (region_slot m r)).1 else region_is_home st (region_slot m r - length m.pairs)) above
          ∙ (ap (region_is_home st) back ∙ ap (λ o. is_none o || st.filled r) none_claimed))

      value : value_at m (λ i. slice_index_or values i None) moved st (region_slot m r) ≡ in_region m values r
      value = ap (λ (b : Bool). if b then in_region m values r else (if st.filled (region_slot m r - length m.pairs) then moved (region_slot m r - length m.pairs) else in_region m values r)) above
          ∙ (ap (λ (q : ℕ). if st.filled q then moved q else in_region m values r) back ∙ ap (λ (b : Bool). if b then moved r else in_region m values r) (unfilled r none_claimed))

  -- no worker reads with the right of this pair
  abbrev IsUnread : ℕ → Type 0
  IsUnread p = (is_none (st.claimed (pair m p).0) || st.drained (pair m p).0 (pair m p).1) ≡ true

  unread_if_filled : (p : ℕ) → p < length m.pairs → st.filled (pair m p).0 ≡ true → IsUnread p
  unread_if_filled p lt is =
      or_right (is_none (st.claimed (pair m p).0)) (st.drained (pair m p).0 (pair m p).1)
      (go (st.drained (pair m p).0 (pair m p).1) (ap (λ (b : Bool). b && not (st.drained (pair m p).0 (pair m p).1)) (sym (reads_at m table p (pair m p).0 (pair m p).1 lt refl refl)) ∙ reached.filled_drained (pair m p).0 (pair m p).1 is))
    where
      go : (b : Bool) → (true && not b) ≡ false → b ≡ true
      go true e = refl
      go false e = absurd (true≢false e)

  right_in : (p : ℕ) → p < length m.pairs → st.claimed (source_at m p) ≡ None → IsUnread p → in_pair m xs p ≡ in_pair m values p
  right_in p lt none_claimed unread = at_index xs (pair_slot m p) (in_pair m values p) (final (pair_slot m p) (in_pair m values p) (fit.each (pair_slot m p) (omega arith) ∙ ap some (home ∙ ap some value)))
    where
      below : nat_lt (pair_slot m p) (length m.pairs) ≡ true
      below = lt-ltb (pair_slot m p) (length m.pairs) (omega arith)

      the_pair : pair_at m (pair_slot m p) ≡ pair m p
      the_pair = let e : length m.pairs - suc (pair_slot m p) ≡ p = omega arith in ap (pair m) e

      is_there : share_is_home st (pair m p).0 (pair m p).1 ≡ true
      is_there = and_from (is_none (st.claimed (pair m p).1)) (is_none (st.claimed (pair m p).0) || st.drained (pair m p).0 (pair m p).1) (ap is_none none_claimed) unread

      home : home_at m (λ i. slice_index_or values i None) moved st (pair_slot m p) ≡ some (value_at m (λ i. slice_index_or values i None) moved st (pair_slot m p))
      home = ap (λ (b : Bool). if b then some (value_at m (λ i. slice_index_or values i None) moved st (pair_slot m p)) else none)
          (ap (λ (b : Bool). if b then share_is_home st (pair_at m (pair_slot m p)).0 (pair_at m (pair_slot m p)).1 else region_is_home st (pair_slot m p - length m.pairs)) below
          ∙ (ap (λ (q : ℕ × ℕ). share_is_home st q.0 q.1) the_pair ∙ is_there))

      value : value_at m (λ i. slice_index_or values i None) moved st (pair_slot m p) ≡ in_pair m values p
      value = ap (λ (b : Bool). if b then in_pair m values p else (if st.filled (pair_slot m p - length m.pairs) then moved (pair_slot m p - length m.pairs) else in_pair m values p)) below

  -- what an unclaimed region with no reader at work has in its slots
  abbrev EndsAsFirst : ℕ → Type 0
  EndsAsFirst r = IsComplete m r xs × (in_region m xs r ≡ in_region m values r)

  original_ends : AreRegions m values → (r : ℕ) → r < region_count m → st.claimed r ≡ None → ((p : ℕ) → p < length m.pairs → source_at m p ≡ r → IsUnread p) → EndsAsFirst r
  original_ends regions r inside none_claimed unread = (
    inr (
      subst (IsSharedOut m r) (sym (original_in r inside none_claimed)) (regions.regions r inside),
      λ p lt is. subst (λ v. IsPartOf v (in_pair m xs p)) (sym (original_in r inside none_claimed))
          (subst (IsPartOf (in_region m values r)) (sym (right_in p lt (ap st.claimed is ∙ none_claimed) (unread p lt is))) (subst (λ (s : ℕ). IsPartOf (in_region m values s) (in_pair m values p)) is (regions.rights p lt))),
    ),
    original_in r inside none_claimed,
  )

  -- a region that isn't to be filled isn't claimed
  unclaimed : (r : ℕ) (o : Option ℕ) → st.claimed r ≡ o → to_fill m r ≡ false → o ≡ None
  unclaimed r None e stays = refl
  unclaimed r (Some w) e stays = absurd (true≢false (sym (reached.claimed_to_fill r w e) ∙ stays))

  -- each region lies where it lay once all are filled
  pub ends_lie : ((r : ℕ) → r < region_count m → to_fill m r ≡ true → st.filled r ≡ true) → (spots : ℕ → InRow) → LieIn m spots values → ((r : ℕ) → r < region_count m → lies_in (moved r) ≡ Some (spots r)) → LieIn m spots xs
  ends_lie full spots first are r inside = go (to_fill m r) refl
    where
      go : (b : Bool) → to_fill m r ≡ b → lies_in (in_region m xs r) ≡ Some (spots r)
      go true e = ap lies_in (moved_in r inside (full r inside e)) ∙ are r inside
      go false e = ap lies_in (original_in r inside (unclaimed r (st.claimed r) refl e)) ∙ first r inside

  -- each region is complete once all are filled, with its moved words if it was to be filled
  pub ends : ((r : ℕ) → r < region_count m → to_fill m r ≡ true → st.filled r ≡ true) → AreRegions m values → ((r : ℕ) → r < region_count m → is_moved (moved r) ≡ true) → (r : ℕ) → r < region_count m
      → IsComplete m r xs × (words_of (in_region m xs r) ≡ (if to_fill m r then words_of (moved r) else words_of (in_region m values r)))
  ends full regions are r inside = go (to_fill m r) refl
    where
      go : (b : Bool) → to_fill m r ≡ b → IsComplete m r xs × (words_of (in_region m xs r) ≡ (if b then words_of (moved r) else words_of (in_region m values r)))
      go true e = (inl (ap is_moved (moved_in r inside (full r inside e)) ∙ are r inside), ap words_of (moved_in r inside (full r inside e)))
      go false e =
          let end = original_ends regions r inside (unclaimed r (st.claimed r) refl e) (λ p lt is. unread_if_filled p lt (full (pair m p).0 (let h = table.slide p (0, 0) lt in omega (arith, h.0, h.1)) (table.slide p (0, 0) lt).2)) in
          (end.0, ap words_of end.1)

  -- so is each region that is home by the words, with its original words
  module _ (words : List ℕ) (each_word : (r : ℕ) → r < region_count m → slice_index words r ≡ word_of m st r) where
    unclaimed_word : (o : Option ℕ) (f : Bool) (rest : ℕ) → is_claimed_word (cond {A = ℕ} (is_some o) (cond {A = ℕ} f 12 8) rest) ≡ false → o ≡ None
    unclaimed_word None f rest e = refl
    unclaimed_word (Some w) true rest e = absurd (true≢false e)
    unclaimed_word (Some w) false rest e = absurd (true≢false e)

    unread_word : (o : Option ℕ) (f d : Bool) (rest : ℕ) → (f ≡ true → (is_none o || d) ≡ true) → (cond {A = ℕ} (is_some o) (cond {A = ℕ} f 12 8) rest ≡ 8 → ⊥) → (is_none o || d) ≡ true
    unread_word None f d rest filled not_8 = refl
    unread_word (Some w) true d rest filled not_8 = filled refl
    unread_word (Some w) false d rest filled not_8 = absurd (not_8 refl)

    pub home_ends : AreRegions m values → (r : ℕ) → r < region_count m → IsHome m words r → EndsAsFirst r
    home_ends regions r inside home =
        original_ends regions r inside (unclaimed_word (st.claimed r) (st.filled r) _ (ap is_claimed_word (sym (each_word r inside)) ∙ home.unclaimed))
        (λ p lt is. unread_word (st.claimed (pair m p).0) (st.filled (pair m p).0) (st.drained (pair m p).0 (pair m p).1) _ (unread_if_filled p lt)
        (λ e. home.readers p lt is (each_word (pair m p).0 (let h = table.slide p (0, 0) lt in omega (arith, h.0, h.1)) ∙ e)))

-- the table at the end, whose seat has seen that all are settled
module _ (law : Reached) (k : TableKey Holding) (id : ℕ) (v : View) (ws : List ℕ) (xs : List (Option Holding)) (final : Final (Seen (kept k) id v) ws xs) (legal : IsLegal k.moves k.workers v.note) (settled : unsettled k.moves (state_of v.note) ≡ 0)
    (all : slots k ≡ all_slots k.moves) where
  final_size : length xs ≡ all_slots k.moves
  final_size = let a = final.3 in let b = final.1.0.fit.size in omega arith

  pub final_ends : AreRegions k.moves k.values.value.items → AreMoved k.moves k.moved.items → (r : ℕ) → r < region_count k.moves
      → IsComplete k.moves r xs × (words_of (in_region k.moves xs r) ≡ (if to_fill k.moves r then words_of (moved_of k r) else words_of (in_region k.moves k.values.value.items r)))
  final_ends regions are r inside =
      ends k.moves h.table (slots k) k.values.value.items (moved_of k) (state_of h.log) final.0.homes xs all final.1.0.fit final.4 (law k.moves k.workers h.log h.legal)
      (λ q lt fills. filled_still h.log v.note q (h.each_view id v final.1.1).0 ((law k.moves k.workers v.note legal).settled_filled q (settled_all k.moves (state_of v.note) q settled lt fills))) regions are r inside
    where
      h : Kept k.moves k.workers final.0.words final.0.views
      h = final.1.0.words_kept

  pub final_lie : (spots : ℕ → InRow) → LieIn k.moves spots k.values.value.items → AreLaid k.moves spots k.moved.items → LieIn k.moves spots xs
  final_lie spots first moved =
      ends_lie k.moves h.table (slots k) k.values.value.items (moved_of k) (state_of h.log) final.0.homes xs all final.1.0.fit final.4 (law k.moves k.workers h.log h.legal)
      (λ q lt fills. filled_still h.log v.note q (h.each_view id v final.1.1).0 ((law k.moves k.workers v.note legal).settled_filled q (settled_all k.moves (state_of v.note) q settled lt fills))) spots first moved
    where
      h : Kept k.moves k.workers final.0.words final.0.views
      h = final.1.0.words_kept

  pub final_complete : AreRegions k.moves k.values.value.items → AreMoved k.moves k.moved.items → all_slots k.moves < 2 ^ 64 → AreComplete k.moves xs
  final_complete regions are small = record { table = final.1.0.words_kept.table; size = final_size; small = small; each = λ r inside. (final_ends regions are r inside).0 }

-- the table at the end, whoever has seen what
module _ (law : Reached) (k : TableKey Holding) (ws : List ℕ) (xs : List (Option Holding)) (final : Final (kept k) ws xs) (all : slots k ≡ all_slots k.moves) (regions : AreRegions k.moves k.values.value.items) where
  abbrev the_kept : Kept k.moves k.workers final.0.words final.0.views
  the_kept = final.1.words_kept

  the_words : (r : ℕ) → r < region_count k.moves → slice_index ws r ≡ word_of k.moves (state_of the_kept.log) r
  the_words r inside = ap (λ us. slice_index us r) (sym final.2) ∙ the_kept.each_word r inside

  pub home_by_words : (r : ℕ) → r < region_count k.moves → IsHome k.moves ws r → IsComplete k.moves r xs × (in_region k.moves xs r ≡ in_region k.moves k.values.value.items r)
  home_by_words =
      home_ends k.moves the_kept.table (slots k) k.values.value.items (moved_of k) (state_of the_kept.log) final.0.homes xs all final.1.fit final.4 (law k.moves k.workers the_kept.log the_kept.legal) ws the_words regions

  pub as_words_say : all_slots k.moves < 2 ^ 64 → AreAsWordsSay k.moves ws xs
  as_words_say small = record {
    table = the_kept.table;
    long = ap length (sym final.2) ∙ the_kept.size;
    size = (let a = final.3 in let b = final.1.fit.size in omega arith);
    small = small;
    complete = λ r inside home. (home_by_words r inside home).0;
  }

  -- a region with the word of a claimed one is claimed in some legal history
  pub claimed_by_word : Counts → (r : ℕ) → r < region_count k.moves → is_claimed_word (slice_index ws r) ≡ true → (log : List Entry) × IsLegal k.moves k.workers log × (is_some ((state_of log).claimed r) ≡ true)
  claimed_by_word counts r inside is = (
    the_kept.log,
    the_kept.legal,
    go ((state_of the_kept.log).claimed r) ((state_of the_kept.log).filled r) (readers_left k.moves (state_of the_kept.log) r) (to_fill k.moves r)
        ((counts k.moves (state_of the_kept.log) the_kept.table).few r) (ap is_claimed_word (sym (the_words r inside)) ∙ is),
  )
    where
      go : (o : Option ℕ) (f : Bool) (n : ℕ) (t : Bool) → n ≤ 2 → is_claimed_word (cond {A = ℕ} (is_some o) (cond {A = ℕ} f 12 8) (n + cond {A = ℕ} t 0 16)) ≡ true → is_some o ≡ true
      go (Some w) f n t few e = refl
      go None f n true few e = absurd (true≢false (sym e ∙ (ap (λ (b : Bool). b || (n + 0 == 12)) (ne_eqb (n + 0) 8 (λ z. omega arith)) ∙ ne_eqb (n + 0) 12 (λ z. omega arith))))
      go None f n false few e = absurd (true≢false (sym e ∙ (ap (λ (b : Bool). b || (n + 16 == 12)) (ne_eqb (n + 16) 8 (λ z. omega arith)) ∙ ne_eqb (n + 16) 12 (λ z. omega arith))))
