use Rattle.std.proofs.Common.{rules, ◌≡◌, ◌++◌, ◌<◌, ℕ, [], ◌∷◌, length, get_or, true, refl, sym, ◌∙◌, ap, subst, arith}
use Rattle.std.proofs.lemmas.List.{length_push, append-nil}
use Rattle.std.proofs.lemmas.List.Elements.{All-push}
use Rattle.object_heap.specs.HeapImage.{HeapImage}
use Rattle.object_heap.specs.Bits.{has}
use Rattle.heap_marking.specs.Marking.{IsMarking, AreStacked, waiting_addresses}
use Rattle.heap_marking.specs.declared.marking.Waiting.{Waiting}
use Rattle.heap_marking.proofs.Lemmas.Growth.{all_left}
use Rattle.heap_marking.proofs.Lemmas.MarkingSteps.{batch_taken, addresses_push, stacked_last}
use Rattle.heap_marking.proofs.marking.Marking.take_batch.Goals as goal

pub loop-self-init : goal.loop-self-init
loop-self-init c =
    let image : HeapImage = c.args.heap.now in
    let stack = c.args.self.now.stack.items in
    let none : stack ≡ stack ++ waiting_addresses c.args.batch.now.items = sym (ap (λ xs. stack ++ waiting_addresses xs) c.requires.batch.empty ∙ append-nil stack) in
    record {
      marking = λ roots m. subst (λ xs. IsMarking image roots c.args.self.now.bits xs c.args.self.now.well_formed) none m;
      fetched = subst (λ xs. (k : ℕ) → (d : Waiting) → k < length xs → (get_or xs k d).header ≡ get_or c.args.heap.now.words (get_or xs k d).address 0) (sym c.requires.batch.empty) (λ k d l. let no : ⊥ = omega arith in absurd no);
      inside = c.requires.inside;
      total = let empty = ap length c.requires.batch.empty in omega arith;
      bits = refl;
      words = refl;
      batch_capacity = refl;
    }

pub returns-in_default : goal.returns-in_default
returns-in_default c =
    let image : HeapImage = c.args.heap.now in
    let same : c.loop-self.self.stack.items ≡ c.pop.new.self.items = c.in_default.ensures.items ∙ append-nil c.pop.new.self.items in
    let held = c.loop-self.invariant in
    record {
      marking = λ roots m. subst (λ xs. IsMarking image roots c.loop-self.self.bits (xs ++ waiting_addresses c.loop-self.batch.items) c.loop-self.self.well_formed) same (held.marking roots m);
      fetched = held.fetched;
      total = search rules;
      some = search rules;
      bits = held.bits;
      words = held.words;
      batch_capacity = held.batch_capacity;
    }

pub word-header-requires : goal.word-header-requires
word-header-requires c =
    let low = stacked_last c.loop-self.self.words c.loop-self.self.bits c.loop-self.self.stack.items c.pop.new.self.items c.in-Some.address c.in-Some.ensures.items c.loop-self.invariant.inside in
    let words = c.loop-self.invariant.words ∙ c.requires.words in
    omega arith

pub loop-self-preserved : goal.loop-self-preserved
loop-self-preserved c =
    let image : HeapImage = c.args.heap.now in
    let a = c.in-Some.address in
    let bits = c.loop-self.self.bits in
    let words = c.loop-self.self.words in
    let stack = c.loop-self.self.stack.items in
    let rest = c.pop.new.self.items in
    let batch = c.loop-self.batch.items in
    let more = c.push_reserved.new.self.items in
    let object : Waiting = record { address = a; header = c.word-header.result } in
    let popped = c.in-Some.ensures.items in
    let pushed = c.push_reserved.ensures.items in
    let before = c.loop-self.invariant in
    record {
      marking = λ roots m. batch_taken image roots a bits stack rest (waiting_addresses batch) (waiting_addresses more) c.loop-self.self.well_formed popped (addresses_push more batch object pushed) (before.marking roots m);
      fetched = subst (λ xs. (k : ℕ) → (d : Waiting) → k < length xs → (get_or xs k d).header ≡ get_or c.args.heap.now.words (get_or xs k d).address 0) (sym pushed)
          (All-push (λ (w : Waiting). w.header ≡ get_or c.args.heap.now.words w.address 0) batch object before.fetched c.word-header.ensures);
      inside = all_left (λ b. (b < words) × (has bits b ≡ true)) rest (a ∷ []) (subst (AreStacked words bits) popped before.inside);
      total =
          let one = ap length popped ∙ length_push rest a in
          let two = ap length pushed ∙ length_push batch object in
          let sum = before.total in
          omega arith;
      bits = before.bits;
      words = before.words;
      batch_capacity = c.push_reserved.ensures.capacity ∙ before.batch_capacity;
    }
