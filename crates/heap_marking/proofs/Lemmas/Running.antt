-- The work of one part in a round, step by step.
use Rattle.std.proofs.Common.{◌≡◌, ◌⊎◌, ℕ, ◌+◌, ◌-◌, ◌/◌, ◌^◌, ◌<◌, inl, inr, Bool, true, false, not, ◌&&◌, ◌||◌, List, [], ◌∷◌, ◌++◌, length, get_or, leb, ltb, refl, sym, ◌∙◌, ap, subst, arith}
use Rattle.std.proofs.lemmas.Bool.{false≢true, true≢false, and_parts, and_from, ltb-true, leb-true, lt-ltb, le-leb, eqb-true}
use Rattle.std.proofs.lemmas.List.Elements.{Contains-push, Contains-append_left, Contains-append_right, Contains-append_cases, Contains-push_cases}
use Rattle.std.specs.Prelude.{Contains, IsTrue}
use Rattle.std.specs.List.{list_any, range_with_len}
use Rattle.object_heap.specs.HeapImage.{HeapImage, heap_words, leads_to, refers_to, is_unsound, references_at, reference_at}
use Rattle.object_heap.specs.Bits.{has}
use Rattle.heap_marking.specs.Boxes.{arrives, AreEmpty}
use Rattle.heap_marking.specs.Marking.{IsWellFormed}
use Rattle.heap_marking.specs.Spread.{IsIn, is_in, Marks, Sends, Holds, AreSent, IsSound, AreWaiting, AreWaitingIn, IsSpread, IsFollowed, IsRunning}
use Rattle.heap_marking.specs.declared.marking.part.Part.{Part}
use Rattle.heap_marking.proofs.Lemmas.Spreads.{spread_same}

-- ---- tests

pub and_over : (x y z : Bool) → ((x || y) && z) ≡ ((x && z) || (y && z))
and_over true y true = refl
and_over true true false = refl
and_over true false false = refl
and_over false y z = refl

module _ (log : ℕ) where
  pub in_tests : (p : Part) (b : ℕ) → IsIn log p b → is_in log p b ≡ true
  in_tests p b h = and_from (leb p.first b) (ltb b (p.first + 2 ^ log)) (le-leb p.first b h.0) (lt-ltb b (p.first + 2 ^ log) h.1)

  pub in_tested : (p : Part) (b : ℕ) → is_in log p b ≡ true → IsIn log p b
  in_tested p b h = let both = and_parts (leb p.first b) (ltb b (p.first + 2 ^ log)) h in (leb-true p.first b both.0, ltb-true b (p.first + 2 ^ log) both.1)

  pub in_same : (p p' : Part) (b : ℕ) → p'.first ≡ p.first → is_in log p' b ≡ is_in log p b
  in_same p p' b e = ap (λ f. leb f b && ltb b (f + 2 ^ log)) e

  -- a reference to an address of the part
  pub target_in : (w a : ℕ) (p : Part) → w ≡ a + 1 → IsIn log p a → (b : ℕ) → (leads_to w b && is_in log p b) ≡ leads_to w b
  target_in w a p e inside b = by (leads_to w b) (is_in log p b) (λ h. let same : a ≡ b = (let is = eqb-true w (b + 1) h in omega arith) in subst (λ c. is_in log p c ≡ true) same (in_tests p a inside))
    where
      by : (x y : Bool) → (x ≡ true → y ≡ true) → (x && y) ≡ x
      by true y h = h refl
      by false y h = refl

-- ---- marks

pub marks_as : (log : ℕ) (p p' : Part) → p'.first ≡ p.first → p'.bits ≡ p.bits → (a : ℕ) → Marks log p a → Marks log p' a
marks_as log p p' first bits a h = (
  (let at = h.0.0 in omega (arith, first, at), let at = h.0.1 in omega (arith, first, at)),
  (ap (λ f. has p'.bits (a - f)) first ∙ ap (λ xs. has xs (a - p.first)) bits ∙ h.1),
)

-- ---- a round

module _ (log : ℕ) (image : HeapImage) where
  abbrev words : ℕ
  words = heap_words image

  -- an unsound object refers to nothing
  pub spread_none : (a : ℕ) (p : Part) → is_unsound image a ≡ true → IsSpread log words (refers_to image a) p p
  spread_none a p bad = spread_same log words (refers_to image a) p (λ b l h. absurd (true≢false (sym h ∙ ap (λ t. not t && list_any (λ f. leads_to (reference_at image a f) b) (range_with_len 0 (references_at image a))) bad)))

  -- what is held goes on to be held
  held_on : (p p' : Part) (b : ℕ) → ((a : ℕ) → Marks log p a → Marks log p' a) → ((c : ℕ) → Sends log p.out c → Sends log p'.out c) → Holds log p b → Holds log p' b
  held_on p p' b kept sent h = elim h [
    | inl m ↦ inl (kept b m)
    | inr s ↦ inr (sent b s)
  ]

  followed_on : (p p' : Part) (a : ℕ) → ((b : ℕ) → Marks log p b → Marks log p' b) → ((c : ℕ) → Sends log p.out c → Sends log p'.out c) → (IsTrue p'.well_formed → IsTrue p.well_formed)
      → IsFollowed log image p a → IsFollowed log image p' a
  followed_on p p' a kept sent flag done = record {
    held = λ b l refers. held_on p p' b kept sent (done.held b l refers);
    formed = λ said. done.formed (flag said);
  }

  pub running_begins : (sent : List (List (List ℕ))) (p0 p1 p2 : Part) → p1.first ≡ p0.first → p1.bits ≡ p0.bits → p1.stack ≡ p0.stack → length p1.out ≡ length p0.out → AreEmpty p1.out → AreWaiting log words p0
      → IsSpread log words (λ b. arrives sent (p1.first / 2 ^ log) b && is_in log p1 b) p1 p2 → p2.out ≡ p1.out → p2.well_formed ≡ p0.well_formed → IsRunning log image sent p0 p2 p2.stack.items
  running_begins sent p0 p1 p2 first bits stack boxes empty waiting spread out flag =
      let there : (a : ℕ) → Marks log p0 a → Marks log p1 a = marks_as log p0 p1 first bits in
      let back : (a : ℕ) → Marks log p1 a → Marks log p0 a = marks_as log p1 p0 (sym first) (sym bits) in
      let none : (b : ℕ) → Sends log p2.out b → ⊥ = λ b h.
      let is_false : false ≡ true = sym (ap (λ xs. list_any (λ w. leads_to w b) xs) (ap (λ xs. get_or xs (b / 2 ^ log) []) out ∙ empty (b / 2 ^ log))) ∙ h in false≢true is_false in
      record {
        first = spread.first ∙ first;
        room = spread.room ∙ ap length bits;
        boxes = spread.boxes ∙ boxes;
        kept = λ a h. spread.kept a (there a h);
        taken = λ b l inside h.
            let here : IsIn log p1 b = (let low = inside.0 in omega (arith, first, low), let high = inside.1 in omega (arith, first, high)) in
            elim (spread.all b l (and_from (arrives sent (p1.first / 2 ^ log) b) (is_in log p1 b) (ap (λ f. arrives sent (f / 2 ^ log) b) first ∙ h) (in_tests log p1 b here))) [
              | inl marked ↦ marked
              | inr sends ↦ absurd (none b sends)
            ];
        followed = λ a h. elim (spread.pending a h) [
          | inl old ↦ inl (back a old)
          | inr waits ↦ inr (inl waits)
        ];
        stacked = λ a h. inl (spread.stacked a (subst (λ v. Contains v.items a) (sym stack) h));
        sound = λ q closed before came.
            let old : IsSound log words q p1 = (λ a h. before a (back a h), λ k b l h. absurd (false≢true (sym (ap (λ xs. list_any (λ w. leads_to w b) xs) (empty k)) ∙ h))) in
            spread.sound q (λ b l t. came (p1.first / 2 ^ log) b l (and_parts (arrives sent (p1.first / 2 ^ log) b) (is_in log p1 b) t).0) old;
        inside = spread.inside (λ a c. let was = waiting a (subst (λ v. Contains v.items a) stack c) in (was.0, there a was.1));
        well_formed = λ said. sym flag ∙ said;
      }

  -- once the last object of a batch is followed, of what waits
  pub waiting_next : (targets : ℕ → Bool) (a : ℕ) (p p' : Part) (batch rest : List ℕ) → batch ≡ rest ++ a ∷ []
      → IsSpread log words targets p p' → AreWaitingIn log words p (p.stack.items ++ batch) → AreWaitingIn log words p' (p'.stack.items ++ rest)
  waiting_next targets a p p' batch rest popped spread h b c = elim (Contains-append_cases p'.stack.items rest b c) [
    | inl new ↦ spread.inside (λ d m. h d (Contains-append_left p.stack.items batch d m)) b new
    | inr still ↦
        let old = h b (Contains-append_right p.stack.items batch b (subst (λ xs. Contains xs b) (sym popped) (Contains-append_left rest (a ∷ []) b still))) in
        (old.0, spread.kept b old.1)
  ]

  pub waiting_last : (a : ℕ) (p : Part) (batch rest : List ℕ) → batch ≡ rest ++ a ∷ [] → AreWaitingIn log words p (p.stack.items ++ batch) → (a < words) × Marks log p a
  waiting_last a p batch rest popped h = h a (Contains-append_right p.stack.items batch a (subst (λ xs. Contains xs a) (sym popped) (Contains-push rest a)))

  -- what is pending or followed goes on to be, once the last object of a batch is followed
  pending_next : (a b : ℕ) (p p' : Part) (batch rest : List ℕ) → batch ≡ rest ++ a ∷ [] → IsSpread log words (refers_to image a) p p'
      → (IsTrue p'.well_formed → IsTrue p.well_formed × IsWellFormed image a)
      → Contains (p.stack.items ++ batch) b ⊎ IsFollowed log image p b → Contains (p'.stack.items ++ rest) b ⊎ IsFollowed log image p' b
  pending_next a b p p' batch rest popped spread noted h = elim h [
    | inr done ↦ inr (followed_on p p' b spread.kept spread.sent (λ said. (noted said).0) done)
    | inl waits ↦ elim (Contains-append_cases p.stack.items batch b waits) [
      | inl below ↦ inl (Contains-append_left p'.stack.items rest b (spread.stacked b below))
      | inr later ↦ elim (Contains-push_cases rest a b (subst (λ xs. Contains xs b) popped later)) [
        | inl still ↦ inl (Contains-append_right p'.stack.items rest b still)
        | inr here ↦ inr (subst (IsFollowed log image p') here (record { held = λ d l refers. spread.all d l refers; formed = λ said. (noted said).1 }))
      ]
    ]
  ]

  -- once the last object of a batch is followed
  pub running_next : (sent : List (List (List ℕ))) (a : ℕ) (p0 p p' : Part) (batch rest : List ℕ) → batch ≡ rest ++ a ∷ []
      → IsSpread log words (refers_to image a) p p' → (IsTrue p'.well_formed → IsTrue p.well_formed × IsWellFormed image a)
      → IsRunning log image sent p0 p (p.stack.items ++ batch) → IsRunning log image sent p0 p' (p'.stack.items ++ rest)
  running_next sent a p0 p p' batch rest popped spread noted before =
      let marked : Marks log p a = (waiting_last a p batch rest popped before.inside).1 in
      record {
        first = spread.first ∙ before.first;
        room = spread.room ∙ before.room;
        boxes = spread.boxes ∙ before.boxes;
        kept = λ b h. spread.kept b (before.kept b h);
        taken = λ b l inside h. spread.kept b (before.taken b l inside h);
        followed = λ b h. elim (spread.pending b h) [
          | inr waits ↦ inr (inl (Contains-append_left p'.stack.items rest b waits))
          | inl old ↦ elim (before.followed b old) [
            | inl older ↦ inl older
            | inr since ↦ inr (pending_next a b p p' batch rest popped spread noted since)
          ]
        ];
        stacked = λ b h. pending_next a b p p' batch rest popped spread noted (before.stacked b h);
        sound = λ q closed before_q came.
            let was = before.sound q closed before_q came in
            spread.sound q (λ b l refers. closed a b (was.0 a marked) refers l) was;
        inside = waiting_next (refers_to image a) a p p' batch rest popped spread before.inside;
        well_formed = λ said. before.well_formed (noted said).0;
      }

  -- the stack, cut in two
  pub running_cut : (sent : List (List (List ℕ))) (p0 p p' : Part) (pending pending' : List ℕ) → p'.first ≡ p.first → p'.bits ≡ p.bits → p'.out ≡ p.out → p'.well_formed ≡ p.well_formed → pending ≡ pending'
      → IsRunning log image sent p0 p pending → IsRunning log image sent p0 p' pending'
  running_cut sent p0 p p' pending pending' first bits out flag cut before =
      let there = marks_as log p p' first bits in
      let back = marks_as log p' p (sym first) (sym bits) in
      let since : (a : ℕ) → Contains pending a ⊎ IsFollowed log image p a → Contains pending' a ⊎ IsFollowed log image p' a = λ a h. elim h [
        | inl waits ↦ inl (subst (λ xs. Contains xs a) cut waits)
        | inr done ↦ inr (followed_on p p' a there (λ c s. subst (λ xs. Sends log xs c) (sym out) s) (λ said. sym flag ∙ said) done)
      ] in
      record {
        first = first ∙ before.first;
        room = ap length bits ∙ before.room;
        boxes = ap length out ∙ before.boxes;
        kept = λ a h. there a (before.kept a h);
        taken = λ b l inside h. there b (before.taken b l inside h);
        followed = λ a h. elim (before.followed a (back a h)) [
          | inl old ↦ inl old
          | inr later ↦ inr (since a later)
        ];
        stacked = λ a h. since a (before.stacked a h);
        sound = λ q closed marked came. let was = before.sound q closed marked came in (λ a h. was.0 a (back a h), subst (AreSent log words q) (sym out) was.1);
        inside = λ a c. let was = before.inside a (subst (λ xs. Contains xs a) (sym cut) c) in (was.0, there a was.1);
        well_formed = λ said. before.well_formed (sym flag ∙ said);
      }

  pub waiting_cut : (p p' : Part) (pending batch : List ℕ) → p'.first ≡ p.first → p'.bits ≡ p.bits → pending ≡ p'.stack.items ++ batch
      → AreWaitingIn log words p pending → AreWaitingIn log words p' (p'.stack.items ++ batch)
  waiting_cut p p' pending batch first bits cut h a c = let was = h a (subst (λ xs. Contains xs a) (sym cut) c) in (was.0, marks_as log p p' first bits a was.1)

-- the part with another measure of its work
abbrev pub worked : Part → ℕ → Part
worked p w = record { first = p.first; bits = p.bits; stack = p.stack; out = p.out; well_formed = p.well_formed; work = w; failed = p.failed }

pub running_worked : (log : ℕ) (image : HeapImage) (sent : List (List (List ℕ))) (p0 p : Part) (pending : List ℕ) (w : ℕ) → IsRunning log image sent p0 p pending → IsRunning log image sent p0 (worked p w) pending
running_worked log image sent p0 p pending w before =
    let done : (a : ℕ) → IsFollowed log image p a → IsFollowed log image (worked p w) a = λ a h. record { held = h.held; formed = h.formed } in
    let since : (a : ℕ) → Contains pending a ⊎ IsFollowed log image p a → Contains pending a ⊎ IsFollowed log image (worked p w) a = λ a h. elim h [
      | inl waits ↦ inl waits
      | inr was ↦ inr (done a was)
    ] in
    record {
      first = before.first;
      room = before.room;
      boxes = before.boxes;
      kept = before.kept;
      taken = before.taken;
      followed = λ a h. elim (before.followed a h) [
        | inl old ↦ inl old
        | inr later ↦ inr (since a later)
      ];
      stacked = λ a h. since a (before.stacked a h);
      sound = before.sound;
      inside = before.inside;
      well_formed = before.well_formed;
    }
