use Rattle.std.proofs.Common.{◌≡◌, ◌∙◌, ◌++◌, List, ℕ, ap, refl, subst, take}
use Rattle.std.specs.Prelude.{string_bytes}
use Rattle.heap_dump.specs.Totals.{AreDeadWords, sums_of}
use Rattle.heap_dump.specs.declared.totals.ClassTotals.{ClassTotals}
use Rattle.heap_dump.specs.declared.totals.Totals.{Totals}
use Rattle.heap_commands.specs.Histogram.{classes_text, sums_text}
use Rattle.heap_commands.proofs.Lemmas.Texts.{join2}
use Rattle.heap_commands.proofs.import.histogram.push_histogram.Goals as goal

pub returns : goal.returns
returns c =
    let import = c.args.import.now in
    let ranked = c.in_ok-classes.classes.items in
    let dead = c.dead_words-dead.result in
    let figures = import.imported.figures in
    let start : List ℕ = string_bytes c.args.text.now in
    let middle : List ℕ = string_bytes c.push_classes.new.text in
    let end : List ℕ = string_bytes c.push_sums.new.text in
    let classes : c.as_slice.result.now ≡ take c.args.most ranked = c.as_slice.ensures.value ∙ c.truncate.ensures.items in
    let rows : middle ≡ start ++ classes_text import.names (take c.args.most ranked) =
    c.in_ok-push_classes.ensures ∙ ap (λ (cs : List ClassTotals). start ++ classes_text import.names cs) classes in
    let sums : end ≡ middle ++ sums_text (sums_of import.objects.items) dead figures =
    c.in_ok-push_sums.ensures ∙ ap (λ (t : Totals). middle ++ sums_text t dead figures) c.totals-totals.ensures in (
      classes_text import.names (take c.args.most ranked) ++ sums_text (sums_of import.objects.items) dead figures,
      record {
        objects = import.objects.items;
        listed = c.requires.objects;
        names = import.names;
        ranked = ranked;
        ranking = c.in_ok-classes.ensures;
        dead = dead;
        unused = subst (λ words. AreDeadWords import.names import.objects.items words dead) c.requires.figures.words c.dead_words-dead.ensures;
        printed = refl;
      },
      join2 start (classes_text import.names (take c.args.most ranked)) (sums_text (sums_of import.objects.items) dead figures) middle end rows sums,
    )
