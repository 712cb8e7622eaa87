-- The first call of a history, with one call more.
use Rattle.std.proofs.Common.{◌≡◌, ◌∙◌, ◌<◌, ◌+◌, ◌++◌, ◌∷◌, [], ℕ, List, Bool, true, false, Option, Some, None, take, length, get_or, length-take, refl, ap, arith}
use Rattle.std.specs.Prelude.{slice_get}
use Rattle.std.specs.List.{cons_option, enumerate_from, filter_map}
use Rattle.std.proofs.lemmas.List.{take_more}
use Rattle.std.proofs.lemmas.List.Elements.{filter_map-append}
use Rattle.scheduler.specs.declared.entry.Entry.{Entry}
use Rattle.schedule_timeline.specs.declared.timeline.call.Call.{Call}
use Rattle.schedule_timeline.specs.FirstCalls.{earlier_of}
use Rattle.schedule_timeline.specs.Timeline.{call_at, call_if, calls_that, first_call}

pub enumerate_push : {X : Type 0} (n : ℕ) (xs : List X) (x : X) → enumerate_from n (xs ++ x ∷ []) ≡ enumerate_from n xs ++ (n + length xs, x) ∷ []
enumerate_push {X} n [] x = ap (λ m. (m, x) ∷ []) (omega arith)
enumerate_push {X} n (y ∷ ys) x =
    ap (λ (l : List (ℕ × X)). (n, y) ∷ l) (enumerate_push (n + 1) ys x ∙ ap (λ m. enumerate_from (n + 1) ys ++ (m, x) ∷ []) (omega arith))

-- filter_map by places, with one element more
pub filter_map_more : {X Y : Type 0} (h : ℕ × X → Option Y) (xs : List X) (i : ℕ) (d : X) → i < length xs
    → filter_map h (enumerate_from 0 (take (i + 1) xs)) ≡ filter_map h (enumerate_from 0 (take i xs)) ++ cons_option (h (i, get_or xs i d)) []
filter_map_more {X} {Y} h xs i d inside =
    let x = get_or xs i d in
    let long : length (take i xs) ≡ i = omega (arith, length-take i xs) in
    ap (λ l. filter_map h (enumerate_from 0 l)) (take_more xs i d inside)
    ∙ ap (filter_map h) (enumerate_push 0 (take i xs) x)
    ∙ filter_map-append h (enumerate_from 0 (take i xs)) ((0 + length (take i xs), x) ∷ [])
    ∙ ap (λ m. filter_map h (enumerate_from 0 (take i xs)) ++ cons_option (h (m, x)) []) (omega (arith, long))

-- the first of a list, with one element more
first_or : (calls : List Call) (call : Call) → slice_get (calls ++ call ∷ []) 0 ≡ earlier_of (slice_get calls 0) call
first_or [] call = refl
first_or (c ∷ cs) call = refl

first_same : (calls : List Call) → slice_get (calls ++ []) 0 ≡ slice_get calls 0
first_same [] = refl
first_same (c ∷ cs) = refl

module _ (is : Entry → Bool) (log : List Entry) (i : ℕ) (d : Entry) where
  -- a call for which the condition doesn't hold
  pub first_unless : i < length log → is (get_or log i d) ≡ false → first_call is (take (i + 1) log) ≡ first_call is (take i log)
  first_unless inside other =
      let none : call_if is (i, get_or log i d) ≡ None = rw other refl in
      ap (λ (calls : List Call). slice_get calls 0) (filter_map_more (call_if is) log i d inside
      ∙ ap (λ (call : Option Call). calls_that is (take i log) ++ cons_option call []) none)
      ∙ first_same (calls_that is (take i log))

  -- a call for which it holds
  pub first_if : i < length log → is (get_or log i d) ≡ true → first_call is (take (i + 1) log) ≡ earlier_of (first_call is (take i log)) (call_at (i, get_or log i d))
  first_if inside found =
      let some : call_if is (i, get_or log i d) ≡ Some (call_at (i, get_or log i d)) = rw found refl in
      ap (λ (calls : List Call). slice_get calls 0) (filter_map_more (call_if is) log i d inside
      ∙ ap (λ (call : Option Call). calls_that is (take i log) ++ cons_option call []) some)
      ∙ first_or (calls_that is (take i log)) (call_at (i, get_or log i d))
