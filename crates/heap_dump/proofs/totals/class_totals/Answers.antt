use Rattle.std.proofs.Common.{◌≡◌, ◌<◌, get_or, length, take, false, sym, ◌∙◌, ap, subst, length-set}
use Rattle.std.proofs.lemmas.List.{get_or_default}
use Rattle.heap_dump.specs.Totals.{objects_in, sums_in}
use Rattle.heap_dump.specs.declared.listing.ListedObject.{ListedObject}
use Rattle.heap_dump.specs.declared.totals.ClassTotals.{ClassTotals}
use Rattle.heap_dump.proofs.Lemmas.Sums.{each_more}
use Rattle.heap_dump.proofs.totals.class_totals.Goals as goal

pub loop-object-preserved : goal.loop-object-preserved
loop-object-preserved c =
    let objects = c.args.objects.now in
    let i = c.loop-object.object-index in
    let none : ListedObject = record { address = 0; id = 0; words = 0; machine_words = 0; class = 0; is_live = false } in
    let object = get_or objects i none in
    let below = c.loop-object-test.true in
    let is : object ≡ get_or objects i object = get_or_default objects i none object below in
    let so_far = c.loop-object.invariant in
    let totals = c.loop-object.totals.items in
    let room : object.class < length totals = so_far.all i none below in
    let at : c.index.result.now ≡ sums_in object.class (take i objects) = c.index.ensures ∙ so_far.each object.class c.index.result.now room in
    record {
      all = λ k d l. subst (λ n. (get_or objects k d).class < n) (sym (length-set totals object.class c.with.result)) (so_far.all k d l);
      each = each_more objects i object below is totals c.with.result room so_far.each (c.with.ensures.class ∙ ap (λ (t : ClassTotals). t.class) at) (c.with.ensures.totals (objects_in object.class (take i objects)) (ap (λ (t : ClassTotals). t.totals) at));
    }
