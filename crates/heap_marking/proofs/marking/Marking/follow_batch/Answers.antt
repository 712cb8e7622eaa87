use Rattle.std.proofs.Common.{rules, ◌≡◌, ◌+◌, ◌++◌, ◌<◌, ℕ, List, [], ◌∷◌, length, get_or, refl, sym, ◌∙◌, ap, subst, arith}
use Rattle.std.proofs.lemmas.List.{length_push, append-nil, get_or_append_left}
use Rattle.std.proofs.lemmas.List.Elements.{Contains-push}
use Rattle.std.specs.Prelude.{All}
use Rattle.object_heap.specs.HeapImage.{HeapImage}
use Rattle.heap_marking.specs.Marking.{IsMarking, unmarked, waiting_addresses}
use Rattle.heap_marking.specs.declared.marking.Waiting.{Waiting}
use Rattle.heap_marking.proofs.Lemmas.Growth.{all_left}
use Rattle.heap_marking.proofs.Lemmas.MarkingSteps.{batch_followed, addresses_push, none_left}
use Rattle.heap_marking.proofs.marking.Marking.follow_batch.Goals as goal

pub loop-object-init : goal.loop-object-init
loop-object-init c = record {
  marking = λ roots m. m;
  inside = c.requires.inside;
  fetched = c.requires.fetched;
  room = refl;
  total = refl;
  words = refl;
  batch_capacity = refl;
}

-- of a batch without its last object
last_inside : (words : ℕ) (batch rest : List Waiting) (w : Waiting) → batch ≡ rest ++ w ∷ [] → All (λ a. a < words) (waiting_addresses batch) → (w.address < words) × All (λ a. a < words) (waiting_addresses rest)
last_inside words batch rest w e h =
    let all : All (λ a. a < words) (waiting_addresses rest ++ w.address ∷ []) = subst (All (λ a. a < words)) (addresses_push batch rest w e) h in
    let last = Contains-push (waiting_addresses rest) w.address in
    (subst (λ a. a < words) last.2 (all last.0 w.address last.1), all_left (λ a. a < words) (waiting_addresses rest) (w.address ∷ []) all)

last_fetched : (heap : List ℕ) (batch rest : List Waiting) (w : Waiting) → batch ≡ rest ++ w ∷ [] → All (λ w. w.header ≡ get_or heap w.address 0) batch → (w.header ≡ get_or heap w.address 0) × All (λ w. w.header ≡ get_or heap w.address 0) rest
last_fetched heap batch rest w e h =
    let all : All (λ w. w.header ≡ get_or heap w.address 0) (rest ++ w ∷ []) = subst (All (λ w. w.header ≡ get_or heap w.address 0)) e h in
    let last = Contains-push rest w in
    let long = length_push rest w in (
      subst (λ x. x.header ≡ get_or heap x.address 0) last.2 (all last.0 w last.1),
      λ k d l. subst (λ x. x.header ≡ get_or heap x.address 0) (get_or_append_left rest (w ∷ []) d k l) (all k d (omega arith)),
    )

pub follow-requires-clause-inside : goal.follow-requires-clause-inside
follow-requires-clause-inside c = (last_inside c.loop-object.self.words c.loop-object.batch.items c.pop.new.self.items c.in-Some.object c.in-Some.ensures.items c.loop-object.invariant.inside).0

pub follow-requires-clause-header : goal.follow-requires-clause-header
follow-requires-clause-header c = (last_fetched c.args.heap.now.words c.loop-object.batch.items c.pop.new.self.items c.in-Some.object c.in-Some.ensures.items c.loop-object.invariant.fetched).0

pub loop-object-preserved : goal.loop-object-preserved
loop-object-preserved c =
    let image : HeapImage = c.args.heap.now in
    let before = c.loop-object.invariant in
    let words = before.words ∙ c.requires.words in
    let batch = c.loop-object.batch.items in
    let rest = c.pop.new.self.items in
    let w = c.in-Some.object in
    let popped = c.in-Some.ensures.items in
    let grown = c.in_ok-follow.ensures.growth.grown in
    let after = c.follow.new.self in
    record {
      marking = λ roots m. batch_followed image roots (c.reachable_is_the_least_closed.ensures.closed image roots) c.loop-object.self.words w.address c.loop-object.self.bits after.bits c.loop-object.self.stack.items after.stack.items (waiting_addresses batch) (waiting_addresses rest) c.loop-object.self.well_formed after.well_formed words (addresses_push batch rest w popped) (before.marking roots m) grown c.in_ok-follow.ensures.well_formed;
      inside = subst (λ n. All (λ a. a < n) (waiting_addresses rest)) (sym c.in_ok-follow.ensures.growth.words) (last_inside c.loop-object.self.words batch rest w popped before.inside).1;
      fetched = (last_fetched c.args.heap.now.words batch rest w popped before.fetched).1;
      room = grown.room ∙ before.room;
      total = ap (λ n. length after.stack.items + unmarked n after.bits) c.in_ok-follow.ensures.growth.words ∙ grown.total ∙ before.total;
      words = c.in_ok-follow.ensures.growth.words ∙ before.words;
      batch_capacity = c.in-Some.ensures.capacity ∙ before.batch_capacity;
    }

pub returns : goal.returns
returns c =
    let image : HeapImage = c.args.heap.now in
    let stack = c.loop-object.self.stack.items in
    let empty : c.loop-object.batch.items ≡ [] = none_left c.loop-object.batch.items (omega (arith, c.in_default.ensures.cases, c.loop-object.batch.ok.0)) in
    let held = c.loop-object.invariant in
    record {
      marking = λ roots m. subst (λ xs. IsMarking image roots c.loop-object.self.bits xs c.loop-object.self.well_formed) (ap (λ xs. stack ++ waiting_addresses xs) empty ∙ append-nil stack) (held.marking roots m);
      total = held.total;
      empty = search rules;
      words = held.words;
      batch_capacity = search rules;
    }
