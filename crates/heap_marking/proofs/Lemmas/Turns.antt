-- A round of all parts.
use Rattle.std.proofs.Common.{◌≡◌, ◌⊎◌, ℕ, ◌+◌, ◌-◌, ◌*◌, ◌/◌, ◌^◌, ◌≤◌, ◌<◌, inl, inr, true, false, List, [], ◌∷◌, ◌++◌, length, get_or, take, drop, refl, sym, ◌∙◌, ap, subst, arith}
use Rattle.std.proofs.Math.Nat.{div-mul-le_self, lt-div-mul-add, mul-div_cancel}
use Rattle.std.proofs.lemmas.Bool.{false≢true}
use Rattle.std.proofs.lemmas.Nat.{div-mul-add}
use Rattle.std.proofs.lemmas.List.{get_or_default}
use Rattle.std.proofs.lemmas.List.Folds.{list_any_at, Any-from_list_any}
use Rattle.std.specs.Prelude.{All, Contains}
use Rattle.object_heap.specs.HeapImage.{HeapImage, heap_words}
use Rattle.object_heap.specs.Bits.{has}
use Rattle.heap_marking.specs.Boxes.{leads, arrives}
use Rattle.heap_marking.specs.Spread.{Marks, Holds, IsFollowed, IsRoundOf}
use Rattle.heap_marking.specs.Rounds.{IsHeld, IsLayout, IsTraced, IsState, HaveTurned, IsSwapped, AreExchanged, mark_of}
use Rattle.heap_marking.specs.declared.marking.part.Part.{Part}
use Rattle.heap_marking.proofs.Lemmas.Numbers.{part_some}
use Rattle.heap_marking.proofs.Lemmas.Running.{marks_as}

-- an element of a list
pub some_at : {X : Type 0} (xs : List X) (i : ℕ) → i < length xs → X
some_at [] i l = let no : ⊥ = omega arith in absurd no
some_at (x ∷ xs) i l = x

-- a vector that is written over as a whole
pub written : {X : Type 0} (n : ℕ) (new old : List X) → n ≡ length new → take n (new ++ drop (length new) old) ≡ new
written n new old e = ap (λ k. take k (new ++ drop (length new) old)) e ∙ front new (drop (length new) old)
  where
    front : {Y : Type 0} (xs ys : List Y) → take (length xs) (xs ++ ys) ≡ xs
    front [] ys = refl
    front (x ∷ xs) ys = ap (λ zs. x ∷ zs) (front xs ys)

module _ (log : ℕ) where
  abbrev size : ℕ
  size = 2 ^ log

  -- the part of an address
  pub in_part : (k b : ℕ) → k * size ≤ b → b < k * size + size → b / size ≡ k
  in_part k b low high = ap (λ n. n / size) (split (k * size) b low) ∙ div-mul-add k size (b - k * size) (omega (arith, low, high))
    where
      split : (m n : ℕ) → m ≤ n → n ≡ m + (n - m)
      split m n l = omega (arith, l)

  module _ (image : HeapImage) (parts mid parts' : List Part) (sent sent' : List (List (List ℕ))) (layout : IsLayout log image parts sent)
      (turned : HaveTurned log image sent parts mid) (fine : All (λ p. p.failed ≡ false) mid) (exchanged : AreExchanged mid parts' sent sent') where
    abbrev words : ℕ
    words = heap_words image

    ran : (k : ℕ) (d : Part) → k < length parts → IsRoundOf log image sent (get_or parts k d) (get_or mid k d)
    ran k d l = elim (turned.each k d l) [
      | inl failed ↦ absurd (false≢true (sym (fine k d (let same = turned.count in omega (arith, l, same))) ∙ failed))
      | inr round ↦ round
    ]

    swapped : (k : ℕ) (d : Part) (e : List (List ℕ)) → k < length parts → IsSwapped (get_or mid k d) (get_or parts' k d) (get_or sent k e) (get_or sent' k e)
    swapped k d e l = exchanged.each k d e (let same = turned.count in omega (arith, l, same))

    long : length parts' ≡ length parts
    long = exchanged.parts_count ∙ turned.count

    low_part : (k : ℕ) → k < length parts' → k < length parts
    low_part k l = let same = long in omega (arith, l, same)

    low_row : (j : ℕ) → j < length sent' → j < length parts
    low_row j l = let count = exchanged.sent_count in let rows = layout.rows in omega (arith, l, count, rows)

    there : (k : ℕ) (d : Part) (a : ℕ) → k < length parts → Marks log (get_or mid k d) a → Marks log (get_or parts' k d) a
    there k d a l = let s = swapped k d [] l in marks_as log (get_or mid k d) (get_or parts' k d) s.first s.bits a

    back : (k : ℕ) (d : Part) (a : ℕ) → k < length parts → Marks log (get_or parts' k d) a → Marks log (get_or mid k d) a
    back k d a l = let s = swapped k d [] l in marks_as log (get_or parts' k d) (get_or mid k d) (sym s.first) (sym s.bits) a

    pub turned_layout : IsLayout log image parts' sent'
    turned_layout = record {
      small = layout.small;
      count = λ b l. let same = long in let was = layout.count b l in omega (arith, same, was);
      rows = exchanged.sent_count ∙ layout.rows ∙ sym long;
      boxes = λ j e l b m.
          let low : j < length parts = low_row j l in
          let d : Part = some_at parts j low in
          let is = ap length (swapped j d e low).leaves in
          let same = (ran j d low).boxes in
          let was = (layout.parts_are j d low).part.boxes b m in
          omega (arith, is, same, was);
      parts_are = λ k d l.
          let low : k < length parts = low_part k l in
          let s = swapped k d [] low in
          let r = ran k d low in
          let was = layout.parts_are k d low in
          record {
            first = s.first ∙ r.first ∙ was.first;
            part = record {
              small = was.part.small;
              inside = let e = s.first ∙ r.first in let inside = was.part.inside in omega (arith, e, inside);
              bits = let e = ap length s.bits ∙ r.room in let bits = was.part.bits in omega (arith, e, bits);
              boxes = λ b m. let is = ap length s.lies in let rows = layout.rows in let row = layout.boxes k [] (omega (arith, low, rows)) b m in omega (arith, is, row);
            };
            waiting = λ a c. let old = r.inside a (subst (λ v. Contains v.items a) s.stack c) in (old.0, there k d a low old.1);
          };
    }

    -- ---- the state

    module _ (roots : List ℕ) (state : IsState log image roots parts sent) where
      start : (k : ℕ) (d : Part) → k < length parts → (get_or parts k d).first ≡ k * size
      start k d l = (layout.parts_are k d l).first

      -- what was held is held
      kept_held : (b : ℕ) → b < words → IsHeld log image parts sent b → IsHeld log image parts' sent' b
      kept_held b l h =
          let k : ℕ = b / size in
          let low : k < length parts = layout.count b l in
          elim h [
            | inl marked ↦ inl (λ d. there k d b low ((ran k d low).kept b (marked d)))
            | inr came ↦ inl (λ d.
                let p : Part = get_or parts k d in
                let first : p.first ≡ k * size = start k d low in
                let from : k * size ≤ b = div-mul-le_self b size in
                let to : b < k * size + size = lt-div-mul-add {a = b} {b = size} (part_some log) in
                let number : p.first / size ≡ k = ap (λ n. n / size) first ∙ mul-div_cancel k {n = size} (part_some log) in
                there k d b low ((ran k d low).taken b l (omega (arith, from, first), omega (arith, to, first)) (ap (λ n. arrives sent n b) number ∙ came)))
          ]

      -- what a part holds is held
      new_held : (k : ℕ) (d : Part) → k < length parts → (b : ℕ) → b < words → Holds log (get_or mid k d) b → IsHeld log image parts' sent' b
      new_held k d low b l h = elim h [
        | inl marked ↦
            let first : (get_or mid k d).first ≡ k * size = (ran k d low).first ∙ start k d low in
            let here : b / size ≡ k = in_part k b (let from = marked.0.0 in omega (arith, from, first)) (let to = marked.0.1 in omega (arith, to, first)) in
            inl (λ e. subst (λ j. Marks log (get_or parts' j e) b) (sym here) (there k e b low (subst (λ p. Marks log p b) (get_or_default mid k d e (let same = turned.count in omega (arith, low, same))) marked)))
        | inr sends ↦ inr (list_any_at (λ row. leads row (b / size) b) sent' k [] (let count = exchanged.sent_count in let rows = layout.rows in omega (arith, low, count, rows))
            (ap (λ row. leads row (b / size) b) (swapped k d [] low).leaves ∙ sends))
      ]

      -- what waits or is followed in a part waits or is traced
      new_traced : (k : ℕ) (d : Part) (a : ℕ) → k < length parts → Contains (get_or mid k d).stack.items a ⊎ IsFollowed log image (get_or mid k d) a
          → Contains (get_or parts' k d).stack.items a ⊎ IsTraced log image parts' sent' (get_or parts' k d) a
      new_traced k d a low h =
          let s = swapped k d [] low in
          elim h [
            | inl waits ↦ inl (subst (λ v. Contains v.items a) (sym s.stack) waits)
            | inr done ↦ inr (record {
              held = λ b m refers. new_held k d low b m (done.held b m refers);
              formed = λ said. done.formed (sym s.well_formed ∙ said);
            })
          ]

      pub turned_state : IsState log image roots parts' sent'
      turned_state = record {
        marked = λ q closed k d a l h.
            let low : k < length parts = low_part k l in
            ((ran k d low).sound q closed.from_objects (λ c m. state.marked q closed k d c low m) (state.sent_are q closed)).0 a (back k d a low h);
        sent_are = λ q closed k b l h.
            let any = Any-from_list_any (λ row. leads row k b) sent' h in
            let j : ℕ = any.0 in
            let e : List (List ℕ) = any.1 in
            let in_sent : j < length sent' = any.2 in
            let is : get_or sent' j e ≡ e = any.3 in
            let leads_there : leads e k b ≡ true = any.4 in
            let low : j < length parts = low_row j in_sent in
            let d : Part = some_at parts j low in
            ((ran j d low).sound q closed.from_objects (λ c m. state.marked q closed j d c low m) (state.sent_are q closed)).1 k b l
            (ap (λ row. leads row k b) (sym (swapped j d e low).leaves ∙ is) ∙ leads_there);
        started = λ b l h. kept_held b l (state.started b l h);
        followed = λ k d a l h.
            let low : k < length parts = low_part k l in
            let r = ran k d low in
            let s = swapped k d [] low in
            elim (r.followed a (back k d a low h)) [
              | inr since ↦ new_traced k d a low since
              | inl old ↦ elim (state.followed k d a low old) [
                | inl waits ↦ new_traced k d a low (r.stacked a waits)
                | inr done ↦ inr (record {
                  held = λ b m refers. kept_held b m (done.held b m refers);
                  formed = λ said. done.formed (r.well_formed (sym s.well_formed ∙ said));
                })
              ]
            ];
      }

module _ (log : ℕ) (image : HeapImage) (parts : List Part) (sent : List (List (List ℕ))) (layout : IsLayout log image parts sent) where
  -- the mark of an address in its part
  pub mark_as : (a : ℕ) (d : Part) → a / 2 ^ log < length parts → Marks log (get_or parts (a / 2 ^ log) d) a → mark_of log parts a d ≡ true
  mark_as a d l m =
      let first = (layout.parts_are (a / 2 ^ log) d l).first in
      ap (λ f. has (get_or parts (a / 2 ^ log) d).bits (a - f)) (sym first) ∙ m.1

  pub as_mark : (a : ℕ) (d : Part) → a / 2 ^ log < length parts → mark_of log parts a d ≡ true → Marks log (get_or parts (a / 2 ^ log) d) a
  as_mark a d l h =
      let first = (layout.parts_are (a / 2 ^ log) d l).first in
      let from : (a / 2 ^ log) * 2 ^ log ≤ a = div-mul-le_self a (2 ^ log) in
      let to : a < (a / 2 ^ log) * 2 ^ log + 2 ^ log = lt-div-mul-add {a = a} {b = 2 ^ log} (part_some log) in
      ((omega (arith, first, from), omega (arith, first, to)), ap (λ f. has (get_or parts (a / 2 ^ log) d).bits (a - f)) first ∙ h)
