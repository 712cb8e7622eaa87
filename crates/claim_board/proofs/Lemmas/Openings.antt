-- The board at the opening, and a seat that is cut.
use Rattle.std.proofs.Common.{◌≡◌, ◌≢◌, ℕ, zero, suc, ◌+◌, ◌<◌, ◌≤◌, Bool, true, false, cond, ◌&&◌, ◌==◌, nat_lt, List, [], ◌∷◌, ◌++◌, length, map, set, slice_index, get_or, refl, sym, ap, ◌∙◌, subst, ⊎_elim, ne_eqb, arith}
use Rattle.std.proofs.Math.Path.{fun_ext}
use Rattle.std.specs.Prelude.{count_by, if◌then◌else◌, Option, None}
use mathlib.Core.Option.{some, some-ne-none, some-injective}
use lib.ListN.{get_elem?}
use Rattle.atomic_table.specs.Seated.{TableId}
use Rattle.atomic_table.specs.Table.{Splits, opening as opened}
use Rattle.atomic_table.proofs.Lists.{at_set, at_snoc}
use Rattle.scheduler.specs.declared.entry.Entry.{Entry}
use Rattle.scheduler.specs.MoveTable.{MoveTable, IsMoveTable, region_count, to_fill}
use Rattle.scheduler.specs.State.{opening, readers_left, unsettled}
use Rattle.claim_board.proofs.Lemmas.Logs.{tested}
use Rattle.claim_board.specs.declared.pass.Pass.{Pass}
use Rattle.claim_board.specs.declared.rule.table_key.TableKey.{TableKey}
use Rattle.claim_board.specs.declared.rule.view.Hold.{Hold}
use Rattle.claim_board.specs.declared.rule.view.View.{View}
use Rattle.claim_board.specs.Views.{hold, fresh, rest_of, head_of, times_held, total, AllFit, ViewFits, IsPassView, worker_of, seen_of, mine_of}
use Rattle.claim_board.specs.Rule.{Kept, word_of, others_of, first_of}
use Rattle.claim_board.specs.Slots.{slots, first_of_slot, moved_of, home_at, kept, all_workers}
use Rattle.claim_board.specs.Boards.{IsNew, ArePassesFrom, AllBare, held}
use Rattle.claim_board.proofs.Lemmas.Totals.{total_set, total_snoc}

pub at_old : (xs : List ℕ) (x k : ℕ) → k < length xs → get_or (xs ++ x ∷ []) k 0 ≡ get_or xs k 0
at_old [] x k below = absurd (omega arith)
at_old (y ∷ ys) x zero below = refl
at_old (y ∷ ys) x (suc k) below = at_old ys x k (omega arith)

pub at_new : (xs : List ℕ) (x k : ℕ) → k ≡ length xs → get_or (xs ++ x ∷ []) k 0 ≡ x
at_new [] x zero e = refl
at_new [] x (suc k) e = absurd (omega arith)
at_new (y ∷ ys) x zero e = absurd (omega arith)
at_new (y ∷ ys) x (suc k) e = at_new ys x k (omega arith)

and_true : (b : Bool) → (b && true) ≡ b
and_true true = refl
and_true false = refl

-- at the opening every pair is still to be read
pub all_readers : (m : MoveTable) (s : ℕ) → count_by (λ pair. s == pair.1) m.pairs ≡ readers_left m opening s
all_readers m s = ap (λ (f : ℕ × ℕ → Bool). count_by f m.pairs) (fun_ext (λ pair. sym (and_true (s == pair.1))))

fresh_fit : (n k c : ℕ) → k + c ≤ n → AllFit n [] (fresh k c)
fresh_fit n k zero small = tt
fresh_fit n k (suc c) small = (record { below = omega arith; begins = ([], refl); calls = refl; seen_calls = refl }, fresh_fit n (suc k) c (omega arith))

fresh_before : (k c x : ℕ) → x < k → times_held x (fresh k c) ≡ 0
fresh_before k zero x below = refl
fresh_before k (suc c) x below = let e = fresh_before (suc k) c x (omega arith) in let h : cond {A = ℕ} (k == x) 1 0 ≡ 0 = ap (λ b. cond {A = ℕ} b 1 0) (ne_eqb k x (λ z. omega arith)) in omega arith

fresh_held : (k c x : ℕ) → k ≤ x → x < k + c → times_held x (fresh k c) ≡ 1
fresh_held k zero x low high = absurd (omega arith)
fresh_held k (suc c) x low high = ⊎_elim
    (λ (t : (k ≡ x) × ((k == x) ≡ true)). let e = fresh_before (suc k) c x (let z = t.0 in omega arith) in let h : cond {A = ℕ} (k == x) 1 0 ≡ 1 = ap (λ b. cond {A = ℕ} b 1 0) t.1 in omega arith)
    (λ (t : (k ≢ x) × ((k == x) ≡ false)). let ne = t.0 in let e = fresh_held (suc k) c x (omega arith) (omega arith) in let h : cond {A = ℕ} (k == x) 1 0 ≡ 0 = ap (λ b. cond {A = ℕ} b 1 0) t.1 in omega arith)
    (tested k x)

fresh_over : (k c x : ℕ) → k + c ≤ x → times_held x (fresh k c) ≡ 0
fresh_over k zero x high = refl
fresh_over k (suc c) x high = let e = fresh_over (suc k) c x (omega arith) in let h : cond {A = ℕ} (k == x) 1 0 ≡ 0 = ap (λ b. cond {A = ℕ} b 1 0) (ne_eqb k x (λ z. omega arith)) in omega arith

fresh_length : (k c : ℕ) → length (fresh k c) ≡ c
fresh_length k zero = refl
fresh_length k (suc c) = ap suc (fresh_length (suc k) c)

fresh_once : (n x : ℕ) (b : Bool) → nat_lt x n ≡ b → times_held x (fresh 0 n) + 0 ≡ cond {A = ℕ} b 1 0
fresh_once n x true e = let h = fresh_held 0 n x (omega arith) (grind arith) in omega arith
fresh_once n x false e = let h = fresh_over 0 n x (grind arith) in omega arith

-- the rule of the words at the opening
opens_words : (m : MoveTable) (workers : ℕ) (words : List ℕ) → IsMoveTable m → length words ≡ suc (region_count m) → ((r : ℕ) → r < region_count m → slice_index words r ≡ word_of m opening r)
    → slice_index words (region_count m) ≡ unsettled m opening → Kept m workers words (record { note = []; holds = fresh 0 workers } ∷ [])
opens_words m workers words lawful size each rest = record {
  table = lawful;
  log = [];
  legal = tt;
  size = size;
  each_word = each;
  remaining = rest;
  each_view = view;
  once = λ x. fresh_once workers x (nat_lt x workers) refl;
  counted = let h = fresh_length 0 workers in omega arith;
}
  where
    view : (by : ℕ) (v : View) → get_elem? (record { note = []; holds = fresh 0 workers } ∷ []) by ≡ some v → ViewFits workers [] v
    view zero v e = subst (ViewFits workers []) (some-injective _ _ e) (([], refl), fresh_fit workers 0 workers (omega arith))
    view (suc by) v e = absurd (some-ne-none v (sym e))

-- the rule at the opening of a table with no slots
pub opens : {X : Type 0} (k : TableKey X) (words : List ℕ) → slots k ≡ 0 → IsMoveTable k.moves → length words ≡ suc (region_count k.moves) → ((r : ℕ) → r < region_count k.moves → slice_index words r ≡ word_of k.moves opening r)
    → slice_index words (region_count k.moves) ≡ unsettled k.moves opening → kept k (opened words [] (all_workers k))
unfolding opens_words
opens k words none lawful size each rest = record {
  words_kept = opens_words k.moves k.workers words lawful size each rest;
  fit = record { size = sym none; each = λ i lt. absurd (omega arith) };
}

at_map : {S : Type 0} (xs : List S) (k : ℕ) (d : S) → k < length xs → get_elem? (map some xs) k ≡ some (some (get_or xs k d))
at_map [] k d lt = absurd (omega arith)
at_map (x ∷ xs) zero d lt = refl
at_map (x ∷ xs) (suc k) d lt = at_map xs k d (omega arith)

long_map : {S : Type 0} (xs : List S) → length (map some xs) ≡ length xs
long_map [] = refl
long_map (x ∷ xs) = ap suc (long_map xs)

all_home : {S : Type 0} (m : MoveTable) (first moved : ℕ → S) (k : ℕ) → home_at m first moved opening k ≡ some (first k)
all_home m first moved k = go (nat_lt k (length m.pairs))
  where
    go : (b : Bool) → (if (if b then true else true) then some (if b then first k else first k) else mathlib.Core.Option.none) ≡ some (first k)
    go true = refl
    go false = refl

-- the rule at the opening of a table with slots
pub opens_slots : {X : Type 0} (k : TableKey X) (words : List ℕ) (values : List (Option X)) → values ≡ k.values.value.items → IsMoveTable k.moves → length words ≡ suc (region_count k.moves)
    → ((r : ℕ) → r < region_count k.moves → slice_index words r ≡ word_of k.moves opening r) → slice_index words (region_count k.moves) ≡ unsettled k.moves opening → kept k (opened words values (all_workers k))
unfolding opens_words
opens_slots k words values are lawful size each rest = record {
  words_kept = opens_words k.moves k.workers words lawful size each rest;
  fit = record { size = long_map values ∙ ap length are; each = λ i lt. at_map values i None (let z = ap length are in omega arith) ∙ (ap (λ vs. some (some (get_or vs i None))) are ∙ ap some (sym (all_home k.moves (first_of_slot k) (moved_of k) i))) };
}

rest_fits : (n : ℕ) (log : List Entry) (hs : List Hold) → AllFit n log hs → AllFit n log (rest_of hs)
rest_fits n log [] f = tt
rest_fits n log (h ∷ hs) f = f.1

head_fits : (n : ℕ) (log : List Entry) (hs : List Hold) → AllFit n log hs → AllFit n log (head_of hs)
head_fits n log [] f = tt
head_fits n log (h ∷ hs) f = (f.0, tt)

times_cut : (x : ℕ) (hs : List Hold) → times_held x hs ≡ times_held x (rest_of hs) + times_held x (head_of hs)
times_cut x [] = refl
times_cut x (h ∷ hs) = omega arith

length_cut : (hs : List Hold) → length hs ≡ length (rest_of hs) + length (head_of hs)
length_cut [] = refl
length_cut (h ∷ hs) = omega arith

total_cut : (f : View → ℕ) (views : List View) (id : ℕ) (v a b : View) → get_elem? views id ≡ some v → f v ≡ f a + f b → total f (set views id a ++ b ∷ []) ≡ total f views
total_cut f views id v a b at e = let s = total_snoc f (set views id a) b in let t = total_set f views id v a at in omega arith

cut : (m : MoveTable) (workers : ℕ) (words : List ℕ) (views : List View) (h : Kept m workers words views) (id : ℕ) (v : View) → get_elem? views id ≡ some v → Kept m workers words (set views id (others_of v) ++ first_of v ∷ [])
cut m workers words views h id v at = record {
  table = h.table;
  log = h.log;
  legal = h.legal;
  size = h.size;
  each_word = h.each_word;
  remaining = h.remaining;
  each_view = view;
  once = λ x. total_cut (λ u. times_held x u.holds) views id v (others_of v) (first_of v) at (times_cut x v.holds) ∙ h.once x;
  counted = total_cut (λ u. length u.holds) views id v (others_of v) (first_of v) at (length_cut v.holds) ∙ h.counted;
}
  where
    mine : ViewFits workers h.log v
    mine = h.each_view id v at

    left : ViewFits workers h.log (others_of v)
    left = (mine.0, rest_fits workers h.log v.holds mine.1)

    right : ViewFits workers h.log (first_of v)
    right = (mine.0, head_fits workers h.log v.holds mine.1)

    view : (j : ℕ) (u : View) → get_elem? (set views id (others_of v) ++ first_of v ∷ []) j ≡ some u → ViewFits workers h.log u
    view j u there = ⊎_elim
        (λ (t : get_elem? (set views id (others_of v)) j ≡ some u). ⊎_elim
        (λ (q : (j ≡ id) × (others_of v ≡ u)). subst (ViewFits workers h.log) q.1 left)
        (λ (q : (j ≢ id) × (get_elem? views j ≡ some u)). h.each_view j u q.1)
        (at_set views id j (others_of v) u t))
        (λ (t : first_of v ≡ u). subst (ViewFits workers h.log) t right)
        (at_snoc (set views id (others_of v)) (first_of v) u j there)

-- a worker's seat is cut off
pub deals : {X : Type 0} (k : TableKey X) (id : ℕ) (v : View) → Splits (kept k) id v (others_of v) (first_of v)
unfolding cut
deals k id v s h at = record { words_kept = cut k.moves k.workers s.words s.views h.words_kept id v at; fit = h.fit }

-- the seat of one worker has nobody else
pub all_of_it : (v : View) → IsPassView v → first_of v ≡ v
all_of_it v is = ap first_of is ∙ sym is

pub passes_push : (z : TableId) (k : ℕ) (ps : List Pass) (p : Pass) (n : ℕ) → n ≡ k + length ps → ArePassesFrom z k ps → IsNew z n p → ArePassesFrom z k (ps ++ p ∷ [])
passes_push z k [] p n e are new = (subst (λ (q : ℕ). IsNew z q p) (omega arith) new, tt)
passes_push z k (q ∷ qs) p n e are new = (are.0, passes_push z (suc k) qs p n (omega arith) are.1 new)

pub bare_push : (ps : List Pass) (p : Pass) → AllBare ps → held p ≡ [] → AllBare (ps ++ p ∷ [])
bare_push [] p all is = (is, tt)
bare_push (q ∷ qs) p all is = (all.0, bare_push qs p all.1 is)

-- the workers that are left to deal
pub left_to_deal : (k a b : ℕ) → b ≡ suc a → others_of (record { note = []; holds = fresh k b }) ≡ record { note = []; holds = fresh (suc k) a }
left_to_deal k a b e = ap (λ n. others_of (record { note = []; holds = fresh k n })) e

pub next_to_deal : (k a b : ℕ) → b ≡ suc a → first_of (record { note = []; holds = fresh k b }) ≡ record { note = []; holds = hold k [] [] [] ∷ [] }
next_to_deal k a b e = ap (λ n. first_of (record { note = []; holds = fresh k n })) e

-- the seat that is left, once one more pass is dealt
pub dealt : {S : Type 0} (l l' a a' : ℕ) (me me' : View × List (ℕ × S)) → me' ≡ (others_of me.0, me.1) → me ≡ (record { note = []; holds = fresh l (suc a) }, []) → l' ≡ l + 1 → a ≡ suc a' → me' ≡ (record { note = []; holds = fresh l' (suc a') }, [])
dealt {S} l l' a a' me me' is was e f =
    let x : suc l ≡ l' = omega arith in
    is ∙ (ap (λ (m : View × List (ℕ × S)). (others_of m.0, m.1)) was ∙ (ap (λ n. (record { note = []; holds = fresh n a }, [])) x ∙ ap (λ n. (record { note = []; holds = fresh l' n }, [])) f))

-- the pass that is dealt
pub dealt_one : {S : Type 0} (l a : ℕ) (me : View × List (ℕ × S)) (v : View) → v ≡ first_of me.0 → me ≡ (record { note = []; holds = fresh l (suc a) }, []) → v ≡ record { note = []; holds = hold l [] [] [] ∷ [] }
dealt_one {S} l a me v is was = is ∙ ap (λ (m : View × List (ℕ × S)). first_of m.0) was

pub new_pass : (z : TableId) (k : ℕ) (t : TableId) (v : View) → t ≡ z → v ≡ record { note = []; holds = hold k [] [] [] ∷ [] } → (t ≡ z) × (worker_of v ≡ k) × (seen_of v ≡ []) × (mine_of v ≡ [])
new_pass z k t v there is = (there, ap worker_of is, ap seen_of is, ap mine_of is)

pub opening_word : (m : MoveTable) (r readers x : ℕ) (b : Bool) → readers ≡ count_by (λ pair. r == pair.1) m.pairs → b ≡ to_fill m r → x ≡ readers + cond {A = ℕ} b 0 16 → x ≡ word_of m opening r
opening_word m r readers x b count fill is = is ∙ (ap (λ c. readers + cond {A = ℕ} c 0 16) fill ∙ ap (λ n. n + cond {A = ℕ} (to_fill m r) 0 16) (count ∙ all_readers m r))
