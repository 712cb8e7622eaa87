use Rattle.std.proofs.Common.{◌+◌, refl, sym, subst}
use Rattle.heap_dump.specs.declared.listing.ListedObject.{ListedObject}
use Rattle.heap_dump.specs.Listing.{AreLabelled, AreObjectsBefore}
use Rattle.heap_dump.proofs.Lemmas.Labels.{labelled_more}
use Rattle.heap_dump.proofs.Lemmas.Listings.{before_more, dead_more, live_more}
use Rattle.heap_dump.proofs.listing.ObjectList.push.Goals as goal

pub returns-then-is_live-clause-objects : goal.returns-then-is_live-clause-objects
returns-then-is_live-clause-objects c =
    let image = c.args.image.now in
    let list = c.args.self.now in
    let object : ListedObject = record { address = c.args.address; id = c.in-Some.label.id; words = c.args.words; machine_words = c.in-Some.label.machine_words; class = c.in-Some.label.class; is_live = c.is_next_live-is_live.result } in
    let more = before_more image list.live (list.live + 1) list.objects.items object c.requires.before c.requires.object (live_more image list.live object c.if-is_live.true (c.if-is_live.ensures.next refl)) in
    subst (λ xs. AreObjectsBefore image (list.live + 1) (c.args.address + c.args.words) xs) (sym c.in_ok-push.ensures.items) more

pub returns-else-is_live-clause-objects : goal.returns-else-is_live-clause-objects
returns-else-is_live-clause-objects c =
    let image = c.args.image.now in
    let list = c.args.self.now in
    let object : ListedObject = record { address = c.args.address; id = c.in-Some.label.id; words = c.args.words; machine_words = c.in-Some.label.machine_words; class = c.in-Some.label.class; is_live = c.is_next_live-is_live.result } in
    let more = before_more image list.live list.live list.objects.items object c.requires.before c.requires.object (dead_more image list.live object c.if-is_live.false) in
    subst (λ xs. AreObjectsBefore image list.live (c.args.address + c.args.words) xs) (sym c.in_ok-push.ensures.items) more

pub returns-then-is_live-clause-labelled : goal.returns-then-is_live-clause-labelled
returns-then-is_live-clause-labelled c =
    let list = c.args.self.now in
    let object : ListedObject = record { address = c.args.address; id = c.in-Some.label.id; words = c.args.words; machine_words = c.in-Some.label.machine_words; class = c.in-Some.label.class; is_live = c.is_next_live-is_live.result } in
    let more = labelled_more c.args.labels.now list.last_id list.objects.items object c.requires.labelled c.in-Some.ensures.next c.in-Some.ensures.above in
    subst (λ xs. AreLabelled c.args.labels.now object.id xs) (sym c.in_ok-push.ensures.items) more

pub returns-else-is_live-clause-labelled : goal.returns-else-is_live-clause-labelled
returns-else-is_live-clause-labelled c =
    let list = c.args.self.now in
    let object : ListedObject = record { address = c.args.address; id = c.in-Some.label.id; words = c.args.words; machine_words = c.in-Some.label.machine_words; class = c.in-Some.label.class; is_live = c.is_next_live-is_live.result } in
    let more = labelled_more c.args.labels.now list.last_id list.objects.items object c.requires.labelled c.in-Some.ensures.next c.in-Some.ensures.above in
    subst (λ xs. AreLabelled c.args.labels.now object.id xs) (sym c.in_ok-push.ensures.items) more
