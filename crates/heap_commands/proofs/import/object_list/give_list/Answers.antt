use Rattle.std.proofs.Common.{◌≡◌, ◌∙◌, ◌<◌, ◌≤◌, [], ◌++◌, ℕ, List, ap, get_or, length, false, subst}
use Rattle.std.specs.Prelude.{string_bytes}
use Rattle.std.specs.Io.KnownBytes.{Appends}
use Rattle.std.proofs.lemmas.List.{get_or_default}
use Rattle.heap_commands.proofs.Lemmas.Given.{appends_more, appends_none}
use Rattle.heap_dump.specs.declared.listing.ListedObject.{ListedObject}
use Rattle.heap_commands.proofs.Lemmas.Texts.{listed_all, listed_more}
use Rattle.heap_commands.proofs.Lemmas.Rows.{no_rows, object_all, object_more}
use Rattle.heap_commands.proofs.import.object_list.give_list.Goals as goal

pub loop-object-init : goal.loop-object-init
loop-object-init g c = ([], appends_none (g.O.Outlet.took c.args.output.now), c.clear.ensures.bytes, no_rows)

pub loop-object-preserved : goal.loop-object-preserved
loop-object-preserved g c =
    let names = c.args.import.now.names in
    let objects = c.args.import.now.objects.items in
    let i = c.loop-object.object-index in
    let none : ListedObject = record { address = 0; id = 0; words = 0; machine_words = 0; class = 0; is_live = false } in
    let items = c.as_slice-object-items.result.now in
    let same : items ≡ objects = c.as_slice-object-items.ensures.value in
    let object = get_or items i none in
    let below : i < length objects = subst (λ (xs : List ListedObject). i < length xs) same c.loop-object-test.true in
    let is : object ≡ get_or objects i object = get_or_default items i none object c.loop-object-test.true ∙ ap (λ (xs : List ListedObject). get_or xs i object) same in
    let so_far = c.loop-object.invariant in
    let next = c.in_ok-give_piece.ensures in (
      so_far.0 ++ next.0,
      appends_more (g.O.Outlet.took c.args.output.now) (g.O.Outlet.took c.loop-object.output) (g.O.Outlet.took c.give_piece.new.output) so_far.0 next.0 so_far.1 next.1,
      listed_more names objects i object so_far.0 next.0 (string_bytes c.loop-object.lines) (string_bytes c.push_object.new.lines) (string_bytes c.give_piece.new.lines)
          below is so_far.2 c.in_ok-push_object.ensures.line next.2,
      object_more names objects i object below is so_far.3 c.in_ok-push_object.ensures.row,
    )

pub returns-clause-list : goal.returns-clause-list
returns-clause-list g c =
    let names = c.args.import.now.names in
    let objects = c.args.import.now.objects.items in
    let past : length objects ≤ c.loop-object.object-index = subst (λ (xs : List ListedObject). length xs ≤ c.loop-object.object-index) c.as_slice-object-items.ensures.value c.loop-object-test.false in
    let so_far = c.loop-object.invariant in
    let lines : List ℕ = string_bytes c.loop-object.lines in
    let start = g.O.Outlet.took c.args.output.now in
    let now = g.O.Outlet.took c.loop-object.output in
    let end = g.O.Outlet.took c.give_all.new.writer in
    let last : Appends now end lines = subst (λ (t : List ℕ). Appends now end t) c.as_bytes.ensures.value c.in_ok-give_all.ensures.bytes in
    subst (λ (t : List ℕ). Appends start end t) (listed_all names objects c.loop-object.object-index so_far.0 lines past so_far.2)
    (appends_more start now end so_far.0 lines so_far.1 last)

pub returns-clause-rows : goal.returns-clause-rows
returns-clause-rows g c =
    let objects = c.args.import.now.objects.items in
    let past : length objects ≤ c.loop-object.object-index = subst (λ (xs : List ListedObject). length xs ≤ c.loop-object.object-index) c.as_slice-object-items.ensures.value c.loop-object-test.false in
    object_all c.args.import.now.names objects c.loop-object.object-index past c.loop-object.invariant.3
