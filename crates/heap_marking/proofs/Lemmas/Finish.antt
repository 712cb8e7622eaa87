-- Rounds that stop at any time: one thread goes on from there.
use Rattle.std.proofs.Common.{◌≡◌, ℕ, ◌+◌, ◌-◌, ◌*◌, ◌/◌, ◌^◌, ◌≤◌, ◌<◌, inl, inr, Bool, true, false, List, [], ◌++◌, length, get_or, ltb, sym, ◌∙◌, ap, subst, arith}
use Rattle.std.proofs.lemmas.Bool.{cases_Bool, cases_lt, lt-ltb, ltb-true}
use Rattle.std.proofs.lemmas.List.{get_or_default}
use Rattle.std.proofs.lemmas.List.Elements.{Contains-get_or, Contains-append_left, Contains-append_right, Contains-append_cases}
use Rattle.std.specs.Prelude.{All, Contains}
use Rattle.object_heap.specs.HeapImage.{HeapImage, heap_words, reachable}
use Rattle.object_heap.specs.Bits.{has}
use Rattle.heap_marking.specs.Boxes.{arrives_anywhere}
use Rattle.heap_marking.specs.Marking.{AreStacked, IsGrown, IsMarking}
use Rattle.object_heap.specs.Reachable.{is_listed, IsClosed}
use Rattle.heap_marking.specs.Spread.{Marks}
use Rattle.heap_marking.specs.Rounds.{IsHeld, IsLayout, IsState, WaitsIn, mark_of}
use Rattle.heap_marking.specs.declared.marking.part.Part.{Part}
use Rattle.heap_marking.proofs.Lemmas.Joins.{has_past, below_end}
use Rattle.heap_marking.proofs.Lemmas.Numbers.{part_some}
use Rattle.heap_marking.proofs.Lemmas.Rows.{anywhere_from_box, box_from_anywhere}
use Rattle.heap_marking.proofs.Lemmas.Turns.{some_at, in_part, mark_as, as_mark}

-- the parts cover the heap
pub layout_covers : (log : ℕ) (image : HeapImage) (parts : List Part) (sent : List (List (List ℕ))) (words : ℕ) → words ≡ heap_words image → IsLayout log image parts sent → words ≤ length parts * 2 ^ log
layout_covers log image parts sent words are layout = elim (cases_lt 0 words) [
  | inr none ↦ omega (arith, none)
  | inl some ↦
      let last : (words - 1) / 2 ^ log < length parts = layout.count (words - 1) (omega (arith, some, are)) in
      let below = below_end (words - 1) (length parts) (2 ^ log) (part_some log) last in
      omega (arith, below, some)
]

module _ (log : ℕ) (image : HeapImage) (parts : List Part) (sent : List (List (List ℕ))) (layout : IsLayout log image parts sent) where
  -- the part that has marked an address is its own
  own_part : (k : ℕ) (d : Part) (a : ℕ) → k < length parts → Marks log (get_or parts k d) a → a / 2 ^ log ≡ k
  own_part k d a l m =
      let first = (layout.parts_are k d l).first in
      in_part log k a (let from = m.0.0 in omega (arith, from, first)) (let to = m.0.1 in omega (arith, to, first))

  -- what waits in a part is below the end of the heap, and its own part has marked it
  waits_marked : (a : ℕ) → WaitsIn parts a → (a < heap_words image) × ((d : Part) → mark_of log parts a d ≡ true)
  waits_marked a w =
      let k : ℕ = w.0 in
      let l : k < length parts = w.1 in
      let e : Part = some_at parts k l in
      let low = ((layout.parts_are k e l).waiting a (w.2 e)).0 in (
        low,
        λ d.
            let m = ((layout.parts_are k d l).waiting a (w.2 d)).1 in
            let own = own_part k d a l m in
            mark_as log image parts sent layout a d (layout.count a low) (subst (λ j. Marks log (get_or parts j d) a) (sym own) m),
      )

  module _ (roots : List ℕ) (state : IsState log image roots parts sent) where
    abbrev words : ℕ
    words = heap_words image

    abbrev reached : ℕ → Bool
    reached = is_listed (reachable image roots)

    part_at : (a : ℕ) → a < words → Part
    part_at a l = some_at parts (a / 2 ^ log) (layout.count a l)

    heap_closed : IsClosed image roots (λ b. ltb b words)
    heap_closed = record {
      from_roots = λ b l h. lt-ltb b words l;
      from_objects = λ a b h refers l. lt-ltb b words l;
    }

    -- no address past the heap is marked
    none_past : (a : ℕ) (d : Part) → words ≤ a → a / 2 ^ log < length parts → mark_of log parts a d ≡ false
    none_past a d high l = elim (cases_Bool (mark_of log parts a d)) [
      | inr un ↦ un
      | inl is ↦
          let low : a < words = ltb-true a words (state.marked (λ b. ltb b words) heap_closed (a / 2 ^ log) d a l (as_mark log image parts sent layout a d l is)) in
          let never : ⊥ = omega (arith, low, high) in
          absurd never
    ]

    -- the bits and the stacks of the parts are put together, and all that is on its way is visited
    pub marking_goes_on : IsClosed image roots reached → (bits new_bits stack new_stack : List ℕ) (well new_well : Bool)
        → length bits ≡ words / 64 + 1
        → ((a : ℕ) (d : Part) → a / 64 < words / 64 + 1 → a / 2 ^ log < length parts → has bits a ≡ mark_of log parts a d)
        → ((a : ℕ) → length parts ≤ a / 2 ^ log → has bits a ≡ false)
        → ((k : ℕ) (d : Part) (a : ℕ) → k < length parts → Contains (get_or parts k d).stack.items a → Contains stack a)
        → ((a : ℕ) → Contains stack a → WaitsIn parts a)
        → (well ≡ true → All (λ p. p.well_formed ≡ true) parts) → (new_well ≡ true → well ≡ true)
        → IsGrown words (arrives_anywhere sent) bits new_bits stack new_stack → IsMarking image roots new_bits new_stack new_well
    marking_goes_on closed bits new_bits stack new_stack well new_well room marks outside all from flags still grown =
        let same : (a : ℕ) (d : Part) → a < words → has bits a ≡ mark_of log parts a d = λ a d l. marks a d (omega (arith, l)) (layout.count a l) in
        let back : (a : ℕ) (l : a < words) → has bits a ≡ true → Marks log (get_or parts (a / 2 ^ log) (part_at a l)) a =
        λ a l h. as_mark log image parts sent layout a (part_at a l) (layout.count a l) (sym (same a (part_at a l) l) ∙ h) in
        let held : (b : ℕ) → b < words → IsHeld log image parts sent b → has new_bits b ≡ true = λ b l h. elim h [
          | inl marked ↦ grown.kept b l (same b (part_at b l) l ∙ mark_as log image parts sent layout b (part_at b l) (layout.count b l) (marked (part_at b l)))
          | inr came ↦ grown.all b l (anywhere_from_box sent (b / 2 ^ log) b came)
        ] in
        let past : (a : ℕ) → words ≤ a → has bits a ≡ false = λ a l. elim (cases_lt (a / 2 ^ log) (length parts)) [
          | inr beyond ↦ outside a (omega (arith, beyond))
          | inl within ↦ elim (cases_lt (a / 64) (words / 64 + 1)) [
            | inr high ↦ has_past bits a (omega (arith, high, room))
            | inl low ↦ let d : Part = some_at parts (a / 2 ^ log) within in marks a d low within ∙ none_past a d l within
          ]
        ] in
        let stacked : AreStacked words bits stack = λ k d l.
        let a : ℕ = get_or stack k d in
        let w = waits_marked a (from a (Contains-get_or stack k d l)) in
        (w.0, same a (part_at a w.0) w.0 ∙ w.1 (part_at a w.0)) in
        record {
          room = grown.room ∙ room;
          inside = grown.inside stacked;
          reached = λ a l h. elim (grown.none_else a l h) [
            | inl old ↦ state.marked reached closed (a / 2 ^ log) (part_at a l) a (layout.count a l) (back a l old)
            | inr target ↦ let some = box_from_anywhere sent a target in state.sent_are reached closed some.0 a l some.1
          ];
          outside = λ a l. grown.outside a l ∙ past a l;
          started = λ a l h. held a l (state.started a l h);
          followed = λ a l h. elim (grown.pending a l h) [
            | inr waits ↦ inl waits
            | inl old ↦ elim (state.followed (a / 2 ^ log) (part_at a l) a (layout.count a l) (back a l old)) [
              | inl waits ↦ inl (grown.stacked a (all (a / 2 ^ log) (part_at a l) a (layout.count a l) waits))
              | inr done ↦ inr (λ b m refers. held b m (done.held b m refers))
            ]
          ];
          formed = λ said a l h. elim (grown.pending a l h) [
            | inr waits ↦ inl waits
            | inl old ↦ elim (state.followed (a / 2 ^ log) (part_at a l) a (layout.count a l) (back a l old)) [
              | inl waits ↦ inl (grown.stacked a (all (a / 2 ^ log) (part_at a l) a (layout.count a l) waits))
              | inr done ↦ inr (done.formed (flags (still said) (a / 2 ^ log) (part_at a l) (layout.count a l)))
            ]
          ];
        }

-- ---- the stacks of the first parts

pub record AreStackedUp (parts : List Part) (i : ℕ) (stack : List ℕ) : Type 0 where
  pub all : (k : ℕ) (d : Part) (a : ℕ) → k < i → Contains (get_or parts k d).stack.items a → Contains stack a
  pub from : (a : ℕ) → Contains stack a → WaitsIn parts a

pub stacked_none : (parts : List Part) → AreStackedUp parts 0 []
stacked_none parts = record {
  all = λ k d a l c. let no : ⊥ = omega arith in absurd no;
  from = λ a c. let l = c.1 in let no : ⊥ = omega arith in absurd no;
}

pub stacked_more : (parts : List Part) (i : ℕ) (p : Part) (stack stack' : List ℕ) → i < length parts → p ≡ get_or parts i p → stack' ≡ stack ++ p.stack.items
    → AreStackedUp parts i stack → AreStackedUp parts (i + 1) stack'
stacked_more parts i p stack stack' low is e before = record {
  all = λ k d a l c. subst (λ xs. Contains xs a) (sym e) (elim (cases_lt k i) [
    | inl old ↦ Contains-append_left stack p.stack.items a (before.all k d a old c)
    | inr new ↦
        let here : k ≡ i = omega (arith, l, new) in
        let same : get_or parts k d ≡ p = ap (λ j. get_or parts j d) here ∙ default d ∙ sym is in
        Contains-append_right stack p.stack.items a (subst (λ q. Contains q.stack.items a) same c)
  ]);
  from = λ a c. elim (Contains-append_cases stack p.stack.items a (subst (λ xs. Contains xs a) e c)) [
    | inl old ↦ before.from a old
    | inr new ↦ (i, low, λ d. subst (λ q. Contains q.stack.items a) (is ∙ sym (default d)) new)
  ];
}
  where
    default : (d : Part) → get_or parts i d ≡ get_or parts i p
    default d = get_or_default parts i d p low
