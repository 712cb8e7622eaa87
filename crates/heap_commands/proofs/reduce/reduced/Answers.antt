use Rattle.std.proofs.Common.{◌≡◌, ◌∙◌, ◌++◌, ap, inl, inr, refl, sym}
use Rattle.std.specs.Prelude.{codes, decimal}
use Rattle.heap_maker.specs.HeapSize.{size_text}
use Rattle.heap_maker.specs.declared.heap_size.HeapSize.{HeapSize}
use Rattle.heap_commands.proofs.reduce.reduced.Goals as goal

pub returns-in_ok-line-in-Some-clause-reduced : goal.returns-in_ok-line-in-Some-clause-reduced
returns-in_ok-line-in-Some-clause-reduced c =
    let made = c.in-Some.made in
    let is = rw c.in-Some.is at c.in_ok-made.ensures in
    let said = λ (size : HeapSize). codes "step " ++ (decimal made.step ++ (codes " " ++ (size_text size ++ codes "\n"))) in
    inl (is.smaller, (made.step, is.step, c.in_ok-line-in-Some.ensures ∙ ap said is.size))

pub returns-in_ok-line-in-None-clause-reduced : goal.returns-in_ok-line-in-None-clause-reduced
returns-in_ok-line-in-None-clause-reduced c =
    let said = λ (size : HeapSize). codes "least " ++ (size_text size ++ codes "\n") in
    inr (refl, c.in_ok-line-in-None.ensures ∙ ap said c.of.ensures)
