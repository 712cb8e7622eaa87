use Rattle.std.proofs.Common.{rules, ◌≡◌, ◌++◌, ℕ, List, [], ◌∷◌, get_or, ◌∙◌, ap, subst, arith}
use Rattle.std.proofs.lemmas.List.{length_push, append-nil, get_or_append_left, map-append}
use Rattle.std.proofs.lemmas.List.Elements.{Contains-push}
use Rattle.std.specs.Prelude.{All}
use Rattle.object_heap.specs.HeapImage.{HeapImage, heap_words, refers_to}
use Rattle.heap_marking.proofs.Lemmas.MarkingSteps.{none_left}
use Rattle.heap_marking.specs.Marking.{waiting_addresses}
use Rattle.heap_marking.specs.Spread.{AreWaitingIn, IsRunning}
use Rattle.heap_marking.specs.declared.marking.part.Part.{Part}
use Rattle.heap_marking.specs.declared.marking.Waiting.{Waiting}
use Rattle.heap_marking.proofs.Lemmas.Spreads.{part_kept}
use Rattle.heap_marking.proofs.Lemmas.Running.{running_next, waiting_last, waiting_next}
use Rattle.heap_marking.proofs.marking.part.Part.follow_batch.Goals as goal

last_fetched : (heap : List ℕ) (batch rest : List Waiting) (w : Waiting) → batch ≡ rest ++ w ∷ [] → All (λ w. w.header ≡ get_or heap w.address 0) batch → (w.header ≡ get_or heap w.address 0) × All (λ w. w.header ≡ get_or heap w.address 0) rest
last_fetched heap batch rest w e h =
    let all : All (λ w. w.header ≡ get_or heap w.address 0) (rest ++ w ∷ []) = subst (All (λ w. w.header ≡ get_or heap w.address 0)) e h in
    let last = Contains-push rest w in
    let long = length_push rest w in (
      subst (λ x. x.header ≡ get_or heap x.address 0) last.2 (all last.0 w last.1),
      λ k d l. subst (λ x. x.header ≡ get_or heap x.address 0) (get_or_append_left rest (w ∷ []) d k l) (all k d (omega arith)),
    )

addresses_push : (batch rest : List Waiting) (w : Waiting) → batch ≡ rest ++ w ∷ [] → waiting_addresses batch ≡ waiting_addresses rest ++ w.address ∷ []
addresses_push batch rest w e = ap waiting_addresses e ∙ map-append (λ (x : Waiting). x.address) rest (w ∷ [])

pub follow-requires-clause-inside : goal.follow-requires-clause-inside
follow-requires-clause-inside c =
    let w : Waiting = c.in-Some.object in
    (waiting_last c.args.log c.args.heap.now w.address c.loop-object.self (waiting_addresses c.loop-object.batch.items) (waiting_addresses c.pop.new.self.items) (addresses_push c.loop-object.batch.items c.pop.new.self.items w c.in-Some.ensures.items) c.loop-object.invariant.inside).0

pub follow-requires-clause-header : goal.follow-requires-clause-header
follow-requires-clause-header c = (last_fetched c.args.heap.now.words c.loop-object.batch.items c.pop.new.self.items c.in-Some.object c.in-Some.ensures.items c.loop-object.invariant.fetched).0

pub loop-object-preserved : goal.loop-object-preserved
loop-object-preserved c =
    let log = c.args.log in
    let image : HeapImage = c.args.heap.now in
    let before = c.loop-object.invariant in
    let batch = c.loop-object.batch.items in
    let rest = c.pop.new.self.items in
    let w : Waiting = c.in-Some.object in
    let p : Part = c.loop-object.self in
    let p' : Part = c.follow.new.self in
    let popped = addresses_push batch rest w c.in-Some.ensures.items in
    let spread = c.in_ok-follow.ensures.spread in
    record {
      running = λ sent p0 h. running_next log image sent w.address p0 p p' (waiting_addresses batch) (waiting_addresses rest) popped spread c.in_ok-follow.ensures.well_formed (before.running sent p0 h);
      part = part_kept log (heap_words image) (refers_to image w.address) p p' spread before.part;
      inside = waiting_next log image (refers_to image w.address) w.address p p' (waiting_addresses batch) (waiting_addresses rest) popped spread before.inside;
      fetched = (last_fetched c.args.heap.now.words batch rest w c.in-Some.ensures.items before.fetched).1;
      total = spread.total ∙ before.total;
      batch_capacity = c.in-Some.ensures.capacity ∙ before.batch_capacity;
    }

pub returns : goal.returns
returns c =
    let p : Part = c.loop-object.self in
    let empty : c.loop-object.batch.items ≡ [] = none_left c.loop-object.batch.items (omega (arith, c.in_default.ensures.cases, c.loop-object.batch.ok.0)) in
    let left : p.stack.items ++ waiting_addresses c.loop-object.batch.items ≡ p.stack.items = ap (λ xs. p.stack.items ++ waiting_addresses xs) empty ∙ append-nil p.stack.items in
    record {
      running = λ sent p0 h. subst (λ xs. IsRunning c.args.log c.args.heap.now sent p0 p xs) left (c.loop-object.invariant.running sent p0 h);
      part = c.loop-object.invariant.part;
      inside = subst (λ xs. AreWaitingIn c.args.log (heap_words c.args.heap.now) p xs) left c.loop-object.invariant.inside;
      total = c.loop-object.invariant.total;
      empty = search rules;
      batch_capacity = search rules;
    }
