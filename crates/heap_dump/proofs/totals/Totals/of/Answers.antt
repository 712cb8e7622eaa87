use Rattle.std.proofs.Common.{get_or, take, false, ◌∙◌}
use Rattle.std.proofs.lemmas.List.{get_or_default}
use Rattle.heap_dump.specs.declared.listing.ListedObject.{ListedObject}
use Rattle.heap_dump.proofs.Lemmas.Sums.{sums_more}
use Rattle.heap_dump.proofs.totals.Totals.of.Goals as goal

pub loop-object-preserved : goal.loop-object-preserved
loop-object-preserved c =
    let objects = c.args.objects.now in
    let i = c.loop-object.object-index in
    let none : ListedObject = record { address = 0; id = 0; words = 0; machine_words = 0; class = 0; is_live = false } in
    let object = get_or objects i none in
    c.with-totals.ensures (take i objects) c.loop-object.invariant
    ∙ sums_more objects i object c.loop-object-test.true (get_or_default objects i none object c.loop-object-test.true)
