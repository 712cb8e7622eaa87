use Rattle.std.proofs.Common.{rules, ◌≡◌, ◌<◌, ◌≤◌, ◌+◌, ◌*◌, ◌/◌, ◌^◌, true, false, List, ℕ, length, get_or, sym, ◌∙◌, ap, subst}
use Rattle.std.specs.Prelude.{All, Contains}
use Rattle.object_heap.specs.HeapImage.{HeapImage, heap_words}
use Rattle.object_heap.specs.Bits.{has}
use Rattle.heap_marking.specs.Boxes.{arrives_anywhere}
use Rattle.heap_marking.specs.Marking.{IsGrown}
use Rattle.heap_marking.specs.Rounds.{WaitsIn, mark_of}
use Rattle.heap_marking.specs.declared.marking.part.Part.{Part}
use Rattle.heap_marking.proofs.Lemmas.Finish.{layout_covers, marking_goes_on}
use Rattle.heap_marking.proofs.marking.rounds.Rounds.marking.Goals as goal

pub join_bits-requires : goal.join_bits-requires
join_bits-requires c = record {
  low = c.requires.low;
  high = c.requires.layout.small;
  few = search rules;
  covers = subst (λ (xs : List Part). c.len-words.result ≤ length xs * 2 ^ c.args.self.now.log) (sym c.as_slice-parts.ensures.value)
      (layout_covers c.args.self.now.log c.args.heap.now c.args.self.now.parts.items c.args.self.now.sent.items c.len-words.result c.len-words.ensures.value c.requires.layout);
  bits = subst (All (λ (p : Part). 2 ^ c.args.self.now.log < 64 * length p.bits)) (sym c.as_slice-parts.ensures.value) (λ k d l. (c.requires.layout.parts_are k d l).part.bits);
}

pub returns : goal.returns
returns c =
    let log = c.args.self.now.log in
    let image : HeapImage = c.args.heap.now in
    let parts : List Part = c.args.self.now.parts.items in
    let sent : List (List (List ℕ)) = c.args.self.now.sent.items in
    let words = c.len-words.ensures.value in
    let value = c.as_slice-parts.ensures.value in
    let bits : List ℕ = c.in_ok-join_bits.field-0 in
    let stack : List ℕ = c.in_ok-join_stacks.field-0.items in
    let new = c.visit_rows.new.self in
    let joined = c.in_ok-join_bits.ensures in
    let stacked = c.in_ok-join_stacks.ensures in
    let visited = c.in_ok-visit_rows.ensures in
    let grown : IsGrown (heap_words image) (arrives_anywhere sent) bits new.bits stack new.stack.items =
    subst (λ n. IsGrown n (arrives_anywhere sent) bits new.bits stack new.stack.items) words
    (subst (λ rows. IsGrown c.len-words.result (arrives_anywhere rows) bits new.bits stack new.stack.items) c.as_slice.ensures.value visited.growth.grown) in
    let room : length bits ≡ heap_words image / 64 + 1 = joined.room ∙ ap (λ n. n / 64 + 1) words in
    let marks : (a : ℕ) (d : Part) → a / 64 < heap_words image / 64 + 1 → a / 2 ^ log < length parts → has bits a ≡ mark_of log parts a d =
    subst (λ n. (a : ℕ) (d : Part) → a / 64 < n / 64 + 1 → a / 2 ^ log < length parts → has bits a ≡ mark_of log parts a d) words
    (subst (λ (xs : List Part). (a : ℕ) (d : Part) → a / 64 < c.len-words.result / 64 + 1 → a / 2 ^ log < length xs → has bits a ≡ mark_of log xs a d) value joined.marks) in
    let outside : (a : ℕ) → length parts ≤ a / 2 ^ log → has bits a ≡ false =
    subst (λ (xs : List Part). (a : ℕ) → length xs ≤ a / 2 ^ log → has bits a ≡ false) value joined.outside in
    let all : (k : ℕ) (d : Part) (a : ℕ) → k < length parts → Contains (get_or parts k d).stack.items a → Contains stack a =
    subst (λ (xs : List Part). (k : ℕ) (d : Part) (a : ℕ) → k < length xs → Contains (get_or xs k d).stack.items a → Contains stack a) value stacked.all in
    let from : (a : ℕ) → Contains stack a → WaitsIn parts a =
    subst (λ (xs : List Part). (a : ℕ) → Contains stack a → WaitsIn xs a) value stacked.from in
    let flags : c.are_well_formed.result ≡ true → All (λ p. p.well_formed ≡ true) parts = λ said. subst (All (λ p. p.well_formed ≡ true)) value (c.are_well_formed.ensures said) in
    record {
      words = search rules;
      marking = λ roots state. marking_goes_on log image parts sent c.requires.layout roots state (c.reachable_is_the_least_closed.ensures.closed image roots) bits new.bits stack new.stack.items c.are_well_formed.result new.well_formed
          room marks outside all from flags visited.well_formed grown;
    }
