use Rattle.std.proofs.Common.{rules, ◌≡◌, ◌<◌, ◌⊎◌, Some, refl, sym, ap, ◌∙◌, subst}
use Rattle.std.specs.Prelude.{All}
use Rattle.std.proofs.lemmas.Result.{err_from_is_err_and}
use Rattle.image_streams.specs.declared.fault.Fault.TheVariants.{Memory}
use Rattle.object_heap.specs.HeapImage.{heap_words, with_live, reachable}
use Rattle.heap_image.specs.ImageText.{first_some, live_list_faults, from_tail}
use Rattle.object_heap.specs.ObjectFaults.{misplaced_root}
use Rattle.object_heap.specs.declared.version.Version.TheVariants.{Two}
use Rattle.heap_image.proofs.Lemmas.FromTail.{rooted_faults, rooted_live}
use Rattle.object_heap.specs.Bits.{MarkBegins}
use Rattle.heap_image.proofs.Lemmas.References.{begins_of}
use Rattle.heap_image.proofs.Lemmas.LiveOrder.{all_below}
use Rattle.heap_image.proofs.Lemmas.Marked.{only_objects}
use Rattle.heap_image.proofs.check.unchecked.find_live_objects.Goals as goal

pub returns-then-has_roots-clause-found : goal.returns-then-has_roots-clause-found
returns-then-has_roots-clause-found g c =
    let heap = c.args.heap.now in
    let tail = c.args.tail.items in
    let found = c.in_ok-live.field-0.live.items in
    let rooted = sym c.has_roots.ensures ∙ c.if-has_roots.true in
    let is = c.in_ok-live.ensures.live ∙ ap (reachable heap) c.as_slice.ensures.value in
    let none = ap (λ xs. misplaced_root (from_tail Two (with_live heap xs))) (sym c.as_slice.ensures.value) ∙ c.in_ok-live.ensures.roots in
    record {
      live = rooted_live c.args.version heap tail found rooted is;
      roots = search rules;
      seen = c.in_ok-live.ensures.seen;
      ordered = ap first_some (sym (rooted_faults c.args.version (with_live heap tail) rooted)) ∙ only_objects heap tail found (heap_words heap) refl none is;
    }

pub returns-in_err-live-clause-fault : goal.returns-in_err-live-clause-fault
returns-in_err-live-clause-fault g c =
    let p = err_from_is_err_and c.from_residual.result c.from_residual.ensures.1 in
    let heap = c.args.heap.now in
    let tail = c.args.tail.items in
    let fault = c.in_err-live.field-0.0 in
    let same : live_list_faults (from_tail Two (with_live heap c.as_slice.result.now)) ≡ live_list_faults (from_tail c.args.version (with_live heap tail)) =
    ap (λ xs. live_list_faults (from_tail Two (with_live heap xs))) c.as_slice.ensures.value ∙ rooted_faults c.args.version (with_live heap tail) (sym c.has_roots.ensures ∙ c.if-has_roots.true) in
    rw (p.1, p.2) (subst (λ faults. (fault ≡ Memory) ⊎ (first_some faults ≡ Some fault)) same c.in_err-live.ensures.fault)

pub of-requires : goal.of-requires
of-requires g c =
    subst (All (λ a. a < c.len-words.result)) (c.as_slice-2.ensures.value ∙ sym c.as_slice-3.ensures.value) (all_below c.len-words.result c.as_slice-2.result.now (sym c.misplaced_index.ensures ∙ c.in_default.is))

pub returns-clause-found : goal.returns-clause-found
returns-clause-found g c =
    let heap = c.args.heap.now in
    let tail = c.args.tail.items in
    let words = c.len-words.result in
    let begins = c.in_ok-begins.begins in
    let inside = subst (λ n. All (λ a. a < n) tail) c.len-words.ensures.value
    (subst (All (λ a. a < words)) c.as_slice-2.ensures.value (all_below words c.as_slice-2.result.now (sym c.misplaced_index.ensures ∙ c.in_default.is))) in
    let marked = subst (λ n. MarkBegins tail n begins) c.len-words.ensures.value
    (subst (λ xs. MarkBegins xs words begins) c.as_slice-3.ensures.value (begins_of words c.as_slice-3.result.now begins c.in_ok-begins.ensures.room c.in_ok-begins.ensures.bits)) in
    record {
      live = search rules;
      roots = search rules;
      seen = record { inside = inside; begins = marked; well_formed = search rules };
      ordered = search rules;
    }
