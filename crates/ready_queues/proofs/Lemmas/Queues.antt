-- Each operation keeps the invariant of a queue's deque.
use Rattle.std.proofs.Common.{◌≡◌, ◌≢◌, ℕ, zero, suc, ◌<◌, ◌+◌, ◌-◌, true, false, List, [], ◌∷◌, ◌++◌, length, get_or, set, refl, sym, ◌∙◌, ap, subst, arith, ⊎_elim, append_assoc, length-append}
use Rattle.std.specs.Prelude.{All, Contains}
use Rattle.std.proofs.lemmas.Bool.{false≢true}
use Rattle.std.proofs.lemmas.List.{get_or-append_right, get_or_append_left, get_or_default}
use mathlib.Core.Option.{some, some-ne-none}
use lib.ListN.{get_elem?}
use Rattle.crossbeam_deque.specs.Tasks.{Pushes, Takes, Admits}
use Rattle.crossbeam_deque.proofs.Lists.{at_set, at_snoc}
use Rattle.ready_queues.specs.declared.shared_queue.Pushed.{Pushed}
use Rattle.ready_queues.specs.Ready.{pushed_so_far, HoldsTheRest}

abbrev guest : Pushed
guest = record { owner = false; numbers = [] }

-- the only pass of a new deque is its owner's
pub begins : HoldsTheRest [] (pushed_so_far [] ∷ [])
begins = record { owner = 0; numbers = []; taken = []; rest = refl; known = known }
  where
    known : (pass : ℕ) (view : Pushed) → get_elem? (pushed_so_far [] ∷ []) pass ≡ some view → view.owner ≡ true → (pass ≡ 0) × (view.numbers ≡ [])
    known zero view e _ = (refl, ap (λ (v : Pushed). v.numbers) (sym (first e)))
      where
        first : some (pushed_so_far []) ≡ some view → pushed_so_far [] ≡ view
        first e = cc
    known (suc pass) view e _ = absurd (some-ne-none view (sym e))

pub admits : Admits HoldsTheRest guest
admits items views h = record {
  owner = h.owner;
  numbers = h.numbers;
  taken = h.taken;
  rest = h.rest;
  known = λ pass view e is.
      ⊎_elim (λ old. h.known pass view old is)
      (λ (new : guest ≡ view). absurd (false≢true (ap (λ (v : Pushed). v.owner) new ∙ is)))
      (at_snoc views guest view pass e);
}

-- the owner pushes
pub pushes : (port : ℕ) (v : Pushed) (xs : List ℕ) → v.owner ≡ true → Pushes HoldsTheRest port v xs (λ w. w ≡ record { owner = v.owner; numbers = v.numbers ++ xs })
pushes port v xs is items views h at =
    let w : Pushed = record { owner = v.owner; numbers = v.numbers ++ xs } in
    let mine = h.known port v at is in (
      w,
      record {
        owner = h.owner;
        numbers = h.numbers ++ xs;
        taken = h.taken;
        rest = ap (λ l. l ++ xs) h.rest ∙ append_assoc h.taken items xs;
        known = λ pass view e owns. ⊎_elim
            (λ (x : (pass ≡ port) × (w ≡ view)). (x.0 ∙ mine.0, ap (λ (v : Pushed). v.numbers) (sym x.1) ∙ ap (λ l. l ++ xs) mine.1))
            (λ (x : (pass ≢ port) × (get_elem? views pass ≡ some view)). absurd (x.0 ((h.known pass view x.1 owns).0 ∙ sym mine.0)))
            (at_set views port pass w view e);
      },
      refl,
    )

-- any pass takes the first
takes : (port : ℕ) (v : Pushed) (xs items : List ℕ) (views : List Pushed) → HoldsTheRest (xs ++ items) views → get_elem? views port ≡ some v → HoldsTheRest items (set views port v)
takes port v xs items views h at = record {
  owner = h.owner;
  numbers = h.numbers;
  taken = h.taken ++ xs;
  rest = h.rest ∙ sym (append_assoc h.taken xs items);
  known = λ pass view e owns. ⊎_elim
      (λ (x : (pass ≡ port) × (v ≡ view)). h.known pass view (subst (λ (p : ℕ × Pushed). get_elem? views p.0 ≡ some p.1) (λ i. (sym x.0 i, x.1 i)) at) owns)
      (λ (x : (pass ≢ port) × (get_elem? views pass ≡ some view)). h.known pass view x.1 owns)
      (at_set views port pass v view e);
}

pub takes_any : (port : ℕ) (v : Pushed) → Takes HoldsTheRest port v 1 (λ _ w. w ≡ v)
takes_any port v xs items views _ _ h at = (v, takes port v xs items views h at, refl)

pub takes_pushed : (port : ℕ) (v : Pushed) → v.owner ≡ true → Takes HoldsTheRest port v 1 (λ xs w. (w ≡ v) × All (Contains v.numbers) xs)
takes_pushed port v is xs items views _ _ h at = (v, takes port v xs items views h at, (refl, each))
  where
    each : All (Contains v.numbers) xs
    each k d l =
        let y : ℕ = get_or xs k d in
        let same : v.numbers ≡ h.taken ++ (xs ++ items) = (h.known port v at is).1 ∙ h.rest in
        let place : length h.taken + k ≡ k + length h.taken = omega arith in
        let left : length h.taken + k - length h.taken ≡ k = omega arith in
        let one = length-append h.taken (xs ++ items) in
        let two = length-append xs items in (
          length h.taken + k,
          subst (λ (l : List ℕ). length h.taken + k < length l) (sym same) (omega arith),
          ap (λ (l : List ℕ). get_or l (length h.taken + k) y) same
              ∙ get_or-append_right h.taken (xs ++ items) (length h.taken) (length h.taken + k) y refl (omega arith)
              ∙ ap (λ n. get_or (xs ++ items) n y) left ∙ get_or_append_left xs items y k l ∙ get_or_default xs k y d l,
        )
