use Rattle.std.proofs.Common.{◌<◌, List, get_or, take, false, sym, subst, arith, All}
use Rattle.std.proofs.lemmas.List.{take_all, take_more}
use Rattle.std.proofs.lemmas.List.Elements.{All-push}
use Rattle.heap_dump.specs.declared.listing.ListedObject.{ListedObject}
use Rattle.heap_dump.proofs.totals.class_count.Goals as goal

pub loop-object-preserved : goal.loop-object-preserved
loop-object-preserved c =
    let objects = c.args.objects.now in
    let i = c.loop-object.object-index in
    let none : ListedObject = record { address = 0; id = 0; words = 0; machine_words = 0; class = 0; is_live = false } in
    let so_far = c.loop-object.invariant in
    let count = c.larger-count.result in
    record {
      below = subst (λ (xs : List ListedObject). All (λ o. o.class < count) xs) (sym (take_more objects i none c.loop-object-test.true))
          (All-push (λ o. o.class < count) (take i objects) (get_or objects i none) (λ k d l. omega (arith, so_far.below k d l, c.larger-count.ensures)) (omega (arith, c.larger-count.ensures)));
      few = omega (arith, c.larger-count.ensures);
    }

pub returns-clause-below : goal.returns-clause-below
returns-clause-below c =
    let objects = c.args.objects.now in
    let i = c.loop-object.object-index in
    subst (λ (xs : List ListedObject). All (λ o. o.class < c.loop-object.count) xs) (take_all i objects c.loop-object-test.false) c.loop-object.invariant.below
