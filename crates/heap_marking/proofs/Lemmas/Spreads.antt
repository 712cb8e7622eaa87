-- What a part has marked and sent, as it grows.
use Rattle.std.proofs.Common.{◌≡◌, ◌⊎◌, ℕ, ◌+◌, ◌-◌, ◌/◌, ◌^◌, ◌≤◌, ◌<◌, inl, inr, Bool, true, false, ◌||◌, [], ◌∷◌, ◌++◌, length, refl, sym, ◌∙◌, ap, subst, arith, eqb}
use Rattle.std.proofs.lemmas.Bool.{cases_eq, eq-eqb, eqb-true, or_left, or_right, or_cases}
use Rattle.std.proofs.lemmas.List.{length_push}
use Rattle.std.proofs.lemmas.List.Elements.{Contains-push, Contains-append_left, Contains-push_cases}
use Rattle.std.specs.Prelude.{Contains}
use Rattle.object_heap.specs.HeapImage.{leads_to}
use Rattle.object_heap.specs.Bits.{has}
use Rattle.heap_marking.specs.Marking.{unmarked}
use Rattle.heap_marking.proofs.Lemmas.Growth.{unmarked_less}
use Rattle.heap_marking.specs.Boxes.{leads, HasMore}
use Rattle.heap_marking.specs.Spread.{IsIn, Marks, Sends, Holds, open_in, AreSent, IsSpread, IsPart}
use Rattle.heap_marking.specs.declared.marking.part.Part.{Part}

module _ (log words : ℕ) where
  -- all targets are held already
  pub spread_same : (targets : ℕ → Bool) (p : Part) → ((b : ℕ) → b < words → targets b ≡ true → Holds log p b) → IsSpread log words targets p p
  spread_same targets p all = record {
    first = refl;
    room = refl;
    boxes = refl;
    kept = λ a h. h;
    sent = λ b h. h;
    all = all;
    pending = λ a h. inl h;
    stacked = λ a h. h;
    sound = λ q passes h. h;
    inside = λ h. h;
    total = refl;
  }

  -- one growth after another
  pub spread_more : (first second both : ℕ → Bool) (p0 p1 p2 : Part) → ((b : ℕ) → both b ≡ (first b || second b))
      → IsSpread log words first p0 p1 → IsSpread log words second p1 p2 → IsSpread log words both p0 p2
  spread_more first second both p0 p1 p2 e one two = record {
    first = two.first ∙ one.first;
    room = two.room ∙ one.room;
    boxes = two.boxes ∙ one.boxes;
    kept = λ a h. two.kept a (one.kept a h);
    sent = λ b h. two.sent b (one.sent b h);
    all = λ b l h. elim (or_cases (first b) (second b) (sym (e b) ∙ h)) [
      | inl f ↦ elim (one.all b l f) [
        | inl marked ↦ inl (two.kept b marked)
        | inr sent ↦ inr (two.sent b sent)
      ]
      | inr s ↦ two.all b l s
    ];
    pending = λ a h. elim (two.pending a h) [
      | inr waits ↦ inr waits
      | inl old ↦ elim (one.pending a old) [
        | inl older ↦ inl older
        | inr waits ↦ inr (two.stacked a waits)
      ]
    ];
    stacked = λ a h. two.stacked a (one.stacked a h);
    sound = λ q passes h. two.sound q (λ b l s. passes b l (e b ∙ or_right (first b) (second b) s)) (one.sound q (λ b l f. passes b l (e b ∙ or_left (first b) (second b) f)) h);
    inside = λ h. two.inside (one.inside h);
    total = two.total ∙ one.total;
  }

  -- the same growth under a test that agrees
  pub spread_as : (first second : ℕ → Bool) (p p' : Part) → ((b : ℕ) → second b ≡ first b) → IsSpread log words first p p' → IsSpread log words second p p'
  spread_as first second p p' e one = record {
    first = one.first;
    room = one.room;
    boxes = one.boxes;
    kept = one.kept;
    sent = one.sent;
    all = λ b l h. one.all b l (sym (e b) ∙ h);
    pending = one.pending;
    stacked = one.stacked;
    sound = λ q passes h. one.sound q (λ b l f. passes b l (e b ∙ f)) h;
    inside = one.inside;
    total = one.total;
  }

  -- the flag of the part changes
  pub spread_flag : (targets : ℕ → Bool) (p p' : Part) (flag : Bool) → IsSpread log words targets p p'
      → IsSpread log words targets p (record { first = p'.first; bits = p'.bits; stack = p'.stack; out = p'.out; well_formed = flag; work = p'.work; failed = p'.failed })
  spread_flag targets p p' flag one = record {
    first = one.first;
    room = one.room;
    boxes = one.boxes;
    kept = one.kept;
    sent = one.sent;
    all = one.all;
    pending = one.pending;
    stacked = one.stacked;
    sound = one.sound;
    inside = one.inside;
    total = one.total;
  }

  -- the one target is marked and waits
  pub spread_mark : (w a : ℕ) (p p' : Part) → w ≡ a + 1 → a < words → IsIn log p a → has p.bits (a - p.first) ≡ false
      → p'.first ≡ p.first → p'.out ≡ p.out → length p'.bits ≡ length p.bits
      → ((k : ℕ) → has p'.bits k ≡ (has p.bits k || eqb (a - p.first) k)) → p'.stack.items ≡ p.stack.items ++ a ∷ [] → IsSpread log words (leads_to w) p p'
  spread_mark w a p p' e l inside clear first out room set pushed =
      let low : p.first ≤ a = inside.0 in
      let high : a < p.first + 2 ^ log = inside.1 in
      let here : Marks log p' a = ((omega (arith, first, low), omega (arith, first, high)), (ap (λ f. has p'.bits (a - f)) first ∙ set (a - p.first) ∙ or_right (has p.bits (a - p.first)) (eqb (a - p.first) (a - p.first)) (eq-eqb (a - p.first) (a - p.first) refl))) in
      let kept : (b : ℕ) → Marks log p b → Marks log p' b = λ b h. (
        (let at = h.0.0 in omega (arith, first, at), let at = h.0.1 in omega (arith, first, at)),
        (ap (λ f. has p'.bits (b - f)) first ∙ set (b - p.first) ∙ or_left (has p.bits (b - p.first)) (eqb (a - p.first) (b - p.first)) h.1),
      ) in
      let new : (b : ℕ) → Marks log p' b → Marks log p b ⊎ (a ≡ b) = λ b h.
      let b_low : p.first ≤ b = (let at = h.0.0 in omega (arith, first, at)) in
      let b_high : b < p.first + 2 ^ log = (let at = h.0.1 in omega (arith, first, at)) in
      elim (or_cases (has p.bits (b - p.first)) (eqb (a - p.first) (b - p.first)) (sym (set (b - p.first)) ∙ ap (λ f. has p'.bits (b - f)) (sym first) ∙ h.1)) [
        | inl old ↦ inl ((b_low, b_high), old)
        | inr same ↦ inr (let is = eqb-true (a - p.first) (b - p.first) same in omega (arith, is, low, b_low))
      ] in
      record {
        first = first;
        room = room;
        boxes = ap length out;
        kept = kept;
        sent = λ b h. subst (λ xs. Sends log xs b) (sym out) h;
        all = λ b m h. let same : a ≡ b = (let is = eqb-true w (b + 1) h in omega arith) in inl (subst (Marks log p') same here);
        pending = λ b h. elim (new b h) [
          | inl old ↦ inl old
          | inr same ↦ inr (subst (λ xs. Contains xs b) (sym pushed) (subst (λ c. Contains (p.stack.items ++ a ∷ []) c) same (Contains-push p.stack.items a)))
        ];
        stacked = λ b h. subst (λ xs. Contains xs b) (sym pushed) (Contains-append_left p.stack.items (a ∷ []) b h);
        sound = λ q passes h. (
          λ b m. elim (new b m) [
            | inl old ↦ h.0 b old
            | inr same ↦ subst (λ c. q c ≡ true) same (passes a l (eq-eqb w (a + 1) e))
          ],
          subst (AreSent log words q) (sym out) h.1,
        );
        inside = λ h b c. elim (Contains-push_cases p.stack.items a b (subst (λ xs. Contains xs b) pushed c)) [
          | inl still ↦ let old = h b still in (old.0, kept b old.1)
          | inr same ↦ (subst (λ c. c < words) same l, subst (Marks log p') same here)
        ];
        total =
            let less : open_in log p' + 1 ≡ open_in log p = unmarked_less (2 ^ log) (a - p.first) p.bits p'.bits (omega (arith, low, high)) clear set in
            let more : length p'.stack.items ≡ length p.stack.items + 1 = ap length pushed ∙ length_push p.stack.items a in
            omega (arith, less, more);
      }

  -- the one target is sent
  pub spread_send : (w a : ℕ) (p p' : Part) → w ≡ a + 1 → a < words → p'.first ≡ p.first → p'.bits ≡ p.bits → p'.stack.items ≡ p.stack.items
      → length p'.out ≡ length p.out → HasMore (a / 2 ^ log) w p.out p'.out → IsSpread log words (leads_to w) p p'
  spread_send w a p p' e l first bits stack boxes more =
      let same_marks : (b : ℕ) → Marks log p b → Marks log p' b = λ b h. (
        (let at = h.0.0 in omega (arith, first, at), let at = h.0.1 in omega (arith, first, at)),
        (ap (λ f. has p'.bits (b - f)) first ∙ ap (λ xs. has xs (b - p.first)) bits ∙ h.1),
      ) in
      let back : (b : ℕ) → Marks log p' b → Marks log p b = λ b h. (
        (let at = h.0.0 in omega (arith, first, at), let at = h.0.1 in omega (arith, first, at)),
        (ap (λ xs. has xs (b - p.first)) (sym bits) ∙ ap (λ f. has p'.bits (b - f)) (sym first) ∙ h.1),
      ) in
      let k : ℕ = a / 2 ^ log in
      let here : leads p'.out k a ≡ true = more.here a ∙ or_right (leads p.out k a) (leads_to w a) (eq-eqb w (a + 1) e) in
      record {
        first = first;
        room = ap length bits;
        boxes = boxes;
        kept = same_marks;
        sent = λ b h. elim (cases_eq (b / 2 ^ log) k) [
          | inl same ↦
              let old : leads p.out k b ≡ true = subst (λ j. leads p.out j b ≡ true) same h in
              subst (λ j. leads p'.out j b ≡ true) (sym same) (more.here b ∙ or_left (leads p.out k b) (leads_to w b) old)
          | inr other ↦ more.there (b / 2 ^ log) b other ∙ h
        ];
        all = λ b m h. let same : a ≡ b = (let is = eqb-true w (b + 1) h in omega arith) in inr (subst (λ c. leads p'.out (c / 2 ^ log) c ≡ true) same here);
        pending = λ b h. inl (back b h);
        stacked = λ b h. subst (λ xs. Contains xs b) (sym stack) h;
        sound = λ q passes h. (
          λ b m. h.0 b (back b m),
          λ j b m s. elim (cases_eq j k) [
            | inl same ↦ elim (or_cases (leads p.out k b) (leads_to w b) (sym (more.here b) ∙ subst (λ i. leads p'.out i b ≡ true) same s)) [
              | inl old ↦ h.1 k b m old
              | inr target ↦ passes b m target
            ]
            | inr other ↦ h.1 j b m (sym (more.there j b other) ∙ s)
          ],
        );
        inside = λ h b c. let old = h b (subst (λ xs. Contains xs b) stack c) in (old.0, same_marks b old.1);
        total = ap (λ xs. length xs + open_in log p') stack ∙ ap (λ xs. length p.stack.items + unmarked (2 ^ log) xs) bits;
      }

  -- the part has the same room as before
  pub part_kept : (targets : ℕ → Bool) (p p' : Part) → IsSpread log words targets p p' → IsPart log words p → IsPart log words p'
  part_kept targets p p' spread part = record {
    small = part.small;
    inside = let same = spread.first in let inside = part.inside in omega (arith, same, inside);
    bits = let room = spread.room in let bits = part.bits in omega (arith, room, bits);
    boxes = λ b l. let same = spread.boxes in let boxes = part.boxes b l in omega (arith, same, boxes);
  }
