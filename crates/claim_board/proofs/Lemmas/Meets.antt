-- Passes that meet, and passes that are gathered.
use Rattle.std.proofs.Common.{◌≡◌, ◌≢◌, ◌⊎◌, ℕ, zero, suc, ◌+◌, ◌<◌, ◌≤◌, Bool, true, false, cond, ◌==◌, List, [], ◌∷◌, ◌++◌, length, set, slice_index, get_or, refl, sym, ap, ◌∙◌, subst, inl, inr, ⊎_elim, append_assoc, append-nil, length-append, arith}
use mathlib.Core.Option.{some}
use lib.ListN.{get_elem?}
use Rattle.std.specs.Prelude.{Option}
use Rattle.atomic_table.specs.Table.{Me, Step, keeps, Allows, Splits, Joins}
use Rattle.atomic_table.proofs.Lists.{at_set, at_snoc, set_again}
use Rattle.scheduler.specs.declared.entry.Entry.{Entry}
use Rattle.scheduler.specs.MoveTable.{MoveTable, region_count}
use Rattle.scheduler.specs.History.{BeginsWith, calls_by}
use Rattle.claim_board.proofs.Lemmas.Logs.{calls-append, begins_refl}
use Rattle.claim_board.specs.declared.rule.table_key.TableKey.{TableKey}
use Rattle.claim_board.specs.declared.rule.view.Hold.{Hold}
use Rattle.claim_board.specs.declared.rule.view.View.{View}
use Rattle.claim_board.specs.Views.{hold, pass_view, times_held, total, HoldFits, AllFit, ViewFits, IsPassView, worker_of, seen_of, mine_of, steps_of}
use Rattle.claim_board.specs.declared.rule.view.Touch.{Touch}
use Rattle.claim_board.specs.Steps.{touch_of}
use Rattle.claim_board.specs.Rule.{Kept, nobody, note_of, informed, gathered, sees, takes_note, surveys}
use Rattle.claim_board.specs.Slots.{kept}
use Rattle.claim_board.specs.Notes.{HasNote}
use Rattle.claim_board.proofs.Lemmas.Totals.{total_set, total_same, total_snoc}

begins_seen : (n : ℕ) (log : List Entry) (hs : List Hold) → AllFit n log hs → BeginsWith log (seen_of (record { note = []; holds = hs }))
begins_seen n log [] fits = (log, refl)
begins_seen n log (h ∷ hs) fits = fits.0.begins

noted : (m : MoveTable) (n : ℕ) (words : List ℕ) (views : List View) (h : Kept m n words views) (id : ℕ) (v : View) → get_elem? views id ≡ some v → Kept m n words (set views id v ++ note_of v ∷ [])
noted m n words views h id v at = record {
  table = h.table;
  log = h.log;
  legal = h.legal;
  size = h.size;
  each_word = h.each_word;
  remaining = h.remaining;
  each_view = λ j u there. ⊎_elim
      (λ (t : get_elem? (set views id v) j ≡ some u). h.each_view j u (subst (λ l. get_elem? l j ≡ some u) same t))
      (λ (t : note_of v ≡ u). subst (ViewFits n h.log) t (begins_seen n h.log v.holds (h.each_view id v at).1, tt))
      (at_snoc (set views id v) (note_of v) u j there);
  once = λ x. total_snoc (λ u. times_held x u.holds) (set views id v) (note_of v) ∙ (Rattle.std.proofs.Common.add-zero (total (λ u. times_held x u.holds) (set views id v)) ∙ (ap (total (λ u. times_held x u.holds)) same ∙ h.once x));
  counted = total_snoc (λ u. length u.holds) (set views id v) (note_of v) ∙ (Rattle.std.proofs.Common.add-zero (total (λ u. length u.holds) (set views id v)) ∙ (ap (total (λ u. length u.holds)) same ∙ h.counted));
}
  where
    same : set views id v ≡ views
    same = set_again views id v at

-- a note of what the seat has seen
pub notes : {X : Type 0} (k : TableKey X) (id : ℕ) (v : View) → Splits (kept k) id v v (note_of v)
unfolding noted
notes k id v s h at = record { words_kept = noted k.moves k.workers s.words s.views h.words_kept id v at; fit = h.fit }

-- two views change, and the workers stay
joined : (m : MoveTable) (n : ℕ) (words : List ℕ) (views : List View) (h : Kept m n words views) (id other : ℕ) (v w both : View) → get_elem? views id ≡ some v → ¬ (other ≡ id) → get_elem? (set views id both) other ≡ some w
    → (ViewFits n h.log v → ViewFits n h.log w → ViewFits n h.log both)
    → ((x : ℕ) → times_held x both.holds ≡ times_held x v.holds + times_held x w.holds) → length both.holds ≡ length v.holds + length w.holds
    → Kept m n words (set (set views id both) other nobody)
joined m n words views h id other v w both at apart there fits times long = record {
  table = h.table;
  log = h.log;
  legal = h.legal;
  size = h.size;
  each_word = h.each_word;
  remaining = h.remaining;
  each_view = λ j u is. ⊎_elim
      (λ (t : (j ≡ other) × (nobody ≡ u)). subst (ViewFits n h.log) t.1 ((h.log, refl), tt))
      (λ (t : (j ≢ other) × (get_elem? (set views id both) j ≡ some u)). ⊎_elim
      (λ (q : (j ≡ id) × (both ≡ u)). subst (ViewFits n h.log) q.1 (fits (h.each_view id v at) (h.each_view other w there')))
      (λ (q : (j ≢ id) × (get_elem? views j ≡ some u)). h.each_view j u q.1)
      (at_set views id j both u t.1))
      (at_set (set views id both) other j nobody u is);
  once = λ x. let a = total_set (λ u. times_held x u.holds) views id v both at in let b = total_set (λ u. times_held x u.holds) (set views id both) other w nobody there in let c = times x in (let e : total (λ u. times_held x u.holds) (set (set views id both) other nobody) ≡ total (λ u. times_held x u.holds) views = omega arith in e) ∙ h.once x;
  counted = let a = total_set (λ u. length u.holds) views id v both at in let b = total_set (λ u. length u.holds) (set views id both) other w nobody there in (let e : total (λ u. length u.holds) (set (set views id both) other nobody) ≡ total (λ u. length u.holds) views = omega arith in e) ∙ h.counted;
}
  where
    there' : get_elem? views other ≡ some w
    there' = ⊎_elim (λ (t : (other ≡ id) × (both ≡ w)). absurd (apart t.0)) (λ (t : (other ≢ id) × (get_elem? views other ≡ some w)). t.1) (at_set views id other both w there)

pub informs : {X : Type 0} (k : TableKey X) (id other : ℕ) (v w : View) → w.holds ≡ [] → Joins (kept k) id v other w (informed v w) nobody
unfolding joined
informs k id other v w none s h at apart there = record {
  words_kept = joined k.moves k.workers s.words s.views h.words_kept id other v w (informed v w) at apart there (λ a b. (b.0, a.1))
      (λ x. let e : times_held x w.holds ≡ 0 = ap (times_held x) none in omega arith) (let e : length w.holds ≡ 0 = ap length none in omega arith);
  fit = h.fit;
}

all_fit-append : (n : ℕ) (log : List Entry) (xs ys : List Hold) → AllFit n log xs → AllFit n log ys → AllFit n log (xs ++ ys)
all_fit-append n log [] ys a b = b
all_fit-append n log (x ∷ xs) ys a b = (a.0, all_fit-append n log xs ys a.1 b)

times_held-append : (x : ℕ) (xs ys : List Hold) → times_held x (xs ++ ys) ≡ times_held x xs + times_held x ys
times_held-append x [] ys = omega arith
times_held-append x (h ∷ hs) ys = let e = times_held-append x hs ys in omega arith

pub gathers : {X : Type 0} (k : TableKey X) (id other : ℕ) (v w : View) → Joins (kept k) id v other w (gathered v w) nobody
unfolding joined
gathers k id other v w s h at apart there = record {
  words_kept = joined k.moves k.workers s.words s.views h.words_kept id other v w (gathered v w) at apart there
      (λ a b. (a.0, all_fit-append k.workers h.words_kept.log v.holds w.holds a.1 b.1)) (λ x. times_held-append x v.holds w.holds) (length-append v.holds w.holds);
  fit = h.fit;
}

set_found : (ws : List ℕ) (i : ℕ) → i < length ws → set ws i (get_or ws i 0) ≡ ws
set_found [] i inside = absurd (omega arith)
set_found (x ∷ xs) zero inside = refl
set_found (x ∷ xs) (suc i) inside = ap (λ l. x ∷ l) (set_found xs i (omega arith))

-- one view changes, and its workers stay
reviewed : (m : MoveTable) (n : ℕ) (words words' : List ℕ) (views : List View) (h : Kept m n words views) (id : ℕ) (v new : View) → words' ≡ words → get_elem? views id ≡ some v → ViewFits n h.log new
    → ((x : ℕ) → times_held x new.holds ≡ times_held x v.holds) → length new.holds ≡ length v.holds → Kept m n words' (set views id new)
reviewed m n words words' views h id v new same at fits times long = record {
  table = h.table;
  log = h.log;
  legal = h.legal;
  size = ap length same ∙ h.size;
  each_word = λ r low. ap (λ ws. slice_index ws r) same ∙ h.each_word r low;
  remaining = ap (λ ws. slice_index ws (region_count m)) same ∙ h.remaining;
  each_view = λ j u there. ⊎_elim
      (λ (t : (j ≡ id) × (new ≡ u)). subst (ViewFits n h.log) t.1 fits)
      (λ (t : (j ≢ id) × (get_elem? views j ≡ some u)). h.each_view j u t.1)
      (at_set views id j new u there);
  once = λ x. total_same (λ u. times_held x u.holds) views id v new at (times x) ∙ h.once x;
  counted = total_same (λ u. length u.holds) views id v new at long ∙ h.counted;
}

-- a pass to which a history was passed
pub told_view : (v w : View) → IsPassView v → HasNote (informed v w)
told_view v w is = λ i. record { note = w.note; holds = ap (λ (u : View). u.holds) is i }

pub sees_all : {X : Type 0} (k : TableKey X) (slots id i : ℕ) (me : Me (Option X) View) (s0 : Step (Option X)) → i < suc (region_count k.moves) → HasNote me.0
    → Allows (kept k) slots id me i (λ n. n) (sees k.moves k.workers s0 me)
unfolding reviewed
sees_all k slots id i me s0 inside is s both homes at small = (
  pass_view w h.log mine taken,
  keeps,
  tt,
  record {
    words_kept = reviewed k.moves k.workers s.words (set s.words i (slice_index s.words i)) s.views h id old (pass_view w h.log mine taken) (set_found s.words i (let z = h.size in omega arith)) here
        ((h.log, refl), (record { below = had.below; begins = begins_refl h.log; calls = had.calls; seen_calls = had.calls }, tt)) (λ x. refl) refl;
    fit = both.fit;
  },
  (refl, refl, refl, record { begins = had.begins; heard = (h.each_view id old here).0; legal = h.legal; mine_is = refl; seen_calls = had.calls }, refl),
)
  where
    h : Kept k.moves k.workers s.words s.views
    h = both.words_kept

    w : ℕ
    w = worker_of me.0

    mine : List Entry
    mine = mine_of me.0

    taken : List Touch
    taken = steps_of me.0 ++ touch_of s0 ∷ []

    old : View
    old = record { note = me.0.note; holds = hold w (seen_of me.0) mine (steps_of me.0) ∷ [] }

    here : get_elem? s.views id ≡ some old
    here = at ∙ ap some is

    had : HoldFits k.workers h.log (hold w (seen_of me.0) mine (steps_of me.0))
    had = (h.each_view id old here).1.0

-- between two beginnings with the same calls
between : (w : ℕ) (seen note log mine : List Entry) → BeginsWith note seen → BeginsWith log note → calls_by w seen ≡ mine → calls_by w log ≡ mine → calls_by w note ≡ mine
between w seen note log mine a b low high =
    let x : calls_by w note ≡ mine ++ calls_by w a.0 = ap (calls_by w) a.1 ∙ (calls-append w seen a.0 ∙ ap (λ l. l ++ calls_by w a.0) low) in
    let y : mine ≡ calls_by w note ++ calls_by w b.0 = sym high ∙ (ap (calls_by w) b.1 ∙ calls-append w note b.0) in
    x ∙ (ap (λ l. mine ++ l) (nothing mine (calls_by w a.0) (calls_by w b.0) (y ∙ ap (λ l. l ++ calls_by w b.0) x)) ∙ append-nil mine)
  where
    nothing : (m p q : List Entry) → m ≡ (m ++ p) ++ q → p ≡ []
    nothing m [] q e = refl
    nothing m (x ∷ xs) q e = absurd (let l = ap length e in let a = length-append (m ++ x ∷ xs) q in let b = length-append m (x ∷ xs) in omega arith)

pub takes : {X : Type 0} (k : TableKey X) (slots id i : ℕ) (me : Me (Option X) View) (s0 : Step (Option X)) → i < suc (region_count k.moves) → HasNote me.0 → BeginsWith me.0.note (seen_of me.0)
    → Allows (kept k) slots id me i (λ n. n) (takes_note s0 me)
unfolding reviewed
takes k slots id i me s0 inside is longer s both homes at small = (
  pass_view w me.0.note mine taken,
  keeps,
  tt,
  record {
    words_kept = reviewed k.moves k.workers s.words (set s.words i (slice_index s.words i)) s.views h id old (pass_view w me.0.note mine taken) (set_found s.words i (let z = h.size in omega arith)) here
        ((h.log, refl), (record { below = had.below; begins = all.0; calls = had.calls; seen_calls = calls }, tt)) (λ x. refl) refl;
    fit = both.fit;
  },
  (refl, refl, refl, refl, refl, calls, refl),
)
  where
    h : Kept k.moves k.workers s.words s.views
    h = both.words_kept

    w : ℕ
    w = worker_of me.0

    mine : List Entry
    mine = mine_of me.0

    taken : List Touch
    taken = steps_of me.0 ++ touch_of s0 ∷ []

    old : View
    old = record { note = me.0.note; holds = hold w (seen_of me.0) mine (steps_of me.0) ∷ [] }

    here : get_elem? s.views id ≡ some old
    here = at ∙ ap some is

    all : ViewFits k.workers h.log old
    all = h.each_view id old here

    had : HoldFits k.workers h.log (hold w (seen_of me.0) mine (steps_of me.0))
    had = all.1.0

    calls : calls_by w me.0.note ≡ mine
    calls = between w (seen_of me.0) me.0.note h.log mine longer all.0 had.seen_calls had.calls

pub surveys_all : {X : Type 0} (k : TableKey X) (slots id : ℕ) (me : Me (Option X) View) (s0 : Step (Option X)) → Allows (kept k) slots id me (region_count k.moves) (λ n. n) (surveys k.moves k.workers s0 me)
unfolding reviewed
surveys_all k slots id me s0 s both homes at small = (
  record { note = h.log; holds = me.0.holds },
  keeps,
  tt,
  record {
    words_kept = reviewed k.moves k.workers s.words (set s.words (region_count k.moves) (slice_index s.words (region_count k.moves))) s.views h id me.0 (record { note = h.log; holds = me.0.holds }) (set_found s.words (region_count k.moves) (let z = h.size in omega arith)) at
        (begins_refl h.log, (h.each_view id me.0 at).1) (λ x. refl) refl;
    fit = both.fit;
  },
  (h.legal, (h.each_view id me.0 at).1, h.remaining),
)
  where
    h : Kept k.moves k.workers s.words s.views
    h = both.words_kept
