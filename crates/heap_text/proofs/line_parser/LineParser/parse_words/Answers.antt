use Rattle.std.proofs.Common.{◌≡◌, ℕ, sym, ◌∙◌, subst, length, arith}
use Rattle.object_heap.specs.HeapImage.{IsWithinLimits, heap_words}
use Rattle.object_heap.specs.Version.{Allows}
use Rattle.heap_text.proofs.Lemmas.PartSteps.{none_some, some_same, true_not_false}
use Rattle.heap_text.proofs.Lemmas.ParseSteps.{words_line}
use Rattle.heap_text.proofs.line_parser.LineParser.parse_words.Goals as goal

pub returns-in_default : goal.returns-in_default
returns-in_default c image rest valid p one =
    let line = words_line image c.args.line.now rest valid one p.rest in
    absurd (none_some (heap_words image) (sym c.in_default.is ∙ c.parse_labelled.ensures (heap_words image) (omega (arith, valid.limits.few_words)) (line.0 ∙ cc)))

pub returns : goal.returns
returns c image rest valid p one =
    let line = words_line image c.args.line.now rest valid one p.rest in
    record {
      empty = p.empty;
      version = p.version;
      region_log = p.region_log;
      len = some_same c.in-Some.len (heap_words image) (c.in-Some.ensures (heap_words image) (omega (arith, valid.limits.few_words)) (line.0 ∙ cc));
      rest = line.1;
    }

pub returns-then-not-is_heap_size : goal.returns-then-not-is_heap_size
returns-then-not-is_heap_size c image rest valid p one =
    let line = words_line image c.args.line.now rest valid one p.rest in
    let len : c.in-Some.len ≡ heap_words image = some_same c.in-Some.len (heap_words image) (c.in-Some.ensures (heap_words image) (omega (arith, valid.limits.few_words)) (line.0 ∙ cc)) in
    let limits : IsWithinLimits c.args.self.now.heap.region_log c.in-Some.len (length image.live) =
    subst (λ (l : ℕ). IsWithinLimits l c.in-Some.len (length image.live)) (sym p.region_log)
    (subst (λ (n : ℕ). IsWithinLimits image.region_log n (length image.live)) (sym len) valid.limits) in
    let allowed : Allows c.args.self.now.heap.version c.args.self.now.heap.region_log c.in-Some.len =
    subst (λ v. Allows v c.args.self.now.heap.region_log c.in-Some.len) (sym p.version)
    (subst (λ (l : ℕ). Allows image.version l c.in-Some.len) (sym p.region_log)
    (subst (λ (n : ℕ). Allows image.version image.region_log n) (sym len) valid.allowed)) in
    true_not_false (sym (c.is_heap_size.ensures.all (length image.live) limits allowed) ∙ c.if-not-is_heap_size.true)
