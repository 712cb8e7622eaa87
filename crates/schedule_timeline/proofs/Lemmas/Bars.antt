-- Bars and marks, after one call more.
use Rattle.std.proofs.Common.{◌≡◌, ◌∙◌, ◌<◌, ◌≤◌, ◌+◌, ◌++◌, ◌∷◌, [], ℕ, List, Bool, false, Option, Some, None, take, length, get_or, append-nil, inl, inr, refl, ap, sym, subst, arith}
use Rattle.std.specs.Prelude.{All, slice_get, slice_index_or}
use Rattle.std.specs.List.{cons_option, enumerate_from, filter_map}
use Rattle.std.proofs.lemmas.Bool.{cases_Bool}
use Rattle.std.proofs.lemmas.Bool.Decides.{leb_tells}
use Rattle.std.proofs.lemmas.List.{get_or_past}
use Rattle.std.proofs.lemmas.List.Elements.{All-head, All-tail}
use Rattle.scheduler.specs.History.{is_grant}
use Rattle.scheduler.specs.declared.entry.Entry.{Entry}
use Rattle.schedule_timeline.specs.declared.timeline.call.Call.{Call}
use Rattle.schedule_timeline.specs.declared.timeline.deed.Deed.TheVariants.{Completion, Grant, Settling}
use Rattle.schedule_timeline.specs.FirstCalls.{AreFirst, AreGrantedBelow}
use Rattle.schedule_timeline.specs.Timeline.{bar_of, call_if, does, first_call, freeing_of}
use Rattle.schedule_timeline.proofs.Lemmas.Calls.{filter_map_more}

-- filter_map by places, if the next element gives nothing
pub none_more : {X Y : Type 0} (h : ℕ × X → Option Y) (xs : List X) (i : ℕ) (d : X) (ys : List Y) → i < length xs
    → ys ≡ filter_map h (enumerate_from 0 (take i xs)) → h (i, get_or xs i d) ≡ None → ys ≡ filter_map h (enumerate_from 0 (take (i + 1) xs))
none_more {X} {Y} h xs i d ys inside are none =
    are ∙ sym (filter_map_more h xs i d inside ∙ ap (λ (o : Option Y). filter_map h (enumerate_from 0 (take i xs)) ++ cons_option o []) none ∙ append-nil (filter_map h (enumerate_from 0 (take i xs))))

-- the same, if it gives this
pub one_more : {X Y : Type 0} (h : ℕ × X → Option Y) (xs : List X) (i : ℕ) (d : X) (ys : List Y) (y : Y) → i < length xs
    → ys ≡ filter_map h (enumerate_from 0 (take i xs)) → h (i, get_or xs i d) ≡ Some y → ys ++ y ∷ [] ≡ filter_map h (enumerate_from 0 (take (i + 1) xs))
one_more {X} {Y} h xs i d ys y inside are some =
    ap (λ (l : List Y). l ++ y ∷ []) are ∙ sym (filter_map_more h xs i d inside ∙ ap (λ (o : Option Y). filter_map h (enumerate_from 0 (take i xs)) ++ cons_option o []) some)

-- if the condition holds for no entry, there is no first call
none_that : (is : Entry → Bool) (log : List Entry) (n : ℕ) → All (λ e. is e ≡ false) log → filter_map (call_if is) (enumerate_from n log) ≡ []
none_that is [] n all = refl
none_that is (e ∷ es) n all =
    let other : is e ≡ false = All-head (λ e. is e ≡ false) e es all in
    let none : call_if is (n, e) ≡ None = rw other refl in
    ap (λ (o : Option Call). cons_option o (filter_map (call_if is) (enumerate_from (n + 1) es))) none
    ∙ none_that is es (n + 1) (All-tail (λ e. is e ≡ false) e es all)

module _ (regions : ℕ) (log : List Entry) (below : AreGrantedBelow regions log) where
  -- no entry grants a region past the last
  never : (r : ℕ) → regions ≤ r → All (λ e. is_grant r e ≡ false) log
  never r high = λ k d few. elim (cases_Bool (is_grant r (get_or log k d))) [
    | inl grants ↦ let less : r < regions = below k d few r grants in let no : ⊥ = omega (arith, less, high) in absurd no
    | inr other ↦ other
  ]

  -- the first grant of any region
  pub taken : (calls : List (Option Call)) (r : ℕ) → AreFirst Grant regions log calls → slice_index_or calls r None ≡ first_call (does Grant r) log
  taken calls r first = elim (leb_tells regions r) [
    | inl past ↦
        get_or_past calls r None (subst (λ n. n ≤ r) (sym first.all) past.1)
        ∙ sym (ap (λ (calls : List Call). slice_get calls 0) (none_that (is_grant r) log 0 (never r past.1)))
    | inr inside ↦ first.each r (omega (arith, inside.1))
  ]

-- equal bars, by their parts
pub bar_same : (log : List Entry) (call call' : Call) (r : ℕ) (completed settled : Option Call) → call ≡ call'
    → completed ≡ first_call (does Completion r) log → settled ≡ first_call (does Settling r) log
    → record { region = r; claimed = call; completed = completed; settled = settled } ≡ bar_of log call' r
bar_same log call call' r completed settled c d s = cc

-- equal marks, by their parts
pub freeing_same : (log : List Entry) (call call' : Call) (d s : ℕ) (taken : Option Call) → call ≡ call' → taken ≡ first_call (does Grant s) log
    → record { drain = call; destination = d; source = s; taken = taken } ≡ freeing_of log call' (d, s)
freeing_same log call call' d s taken c t = cc
