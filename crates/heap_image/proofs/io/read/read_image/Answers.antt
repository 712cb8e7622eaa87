use Rattle.std.proofs.Common.{rules, ◌≡◌, ◌++◌, [], take, refl, ap, sym, subst, ◌∙◌, arith}
use Rattle.std.proofs.lemmas.List.{append-nil}
use Rattle.std.proofs.lemmas.Result.{err_from_is_err_and}
use Rattle.std.specs.Io.KnownBytes.{Consumes}
use Rattle.object_heap.specs.HeapImage.{HeapImage}
use Rattle.heap_image.specs.ImageText.{text, listed_text, from_tail}
use Rattle.heap_image.specs.Unchecked.{numbers_in}
use Rattle.heap_image.proofs.Lemmas.FromTail.{text-from_tail}
use Rattle.heap_image.proofs.Lemmas.Refusing.{check_reason, check_leaves, search_kind, more_than_front, trailing_reason, trailing_leaves, some_rest, one_taken}
use Rattle.heap_image.proofs.Lemmas.Known.{consumes_more}
use Rattle.heap_image.proofs.io.read.read_image.Goals as goal

pub returns-in-Err-clause-refused : goal.returns-in-Err-clause-refused
returns-in-Err-clause-refused g c =
    let version = c.in_ok-parts.parts.version in
    let image = numbers_in c.in_ok-parts.parts in
    let before = g.R.Intake.left c.args.reader.now in
    let after = g.R.Intake.left c.read_parts.new.reader in
    let fits = c.in_ok-parts.ensures.fits in
    let read = c.in_ok-parts.ensures.text in
    let fault = c.in-Err.refused.fault in
    let why = c.in-Err.ensures.fault in
    record {
      kind = (search_kind (from_tail version image) fault why).0;
      reason = check_reason version image fits before after read fault why;
      left = check_leaves version image fits before after read fault why;
      memory = λ _. more_than_front version image fits before after read;
    }

pub returns-in-Err-clause-io : goal.returns-in-Err-clause-io
returns-in-Err-clause-io g c =
    c.in_ok-parts.ensures.io ∙ sym ((search_kind (from_tail c.in_ok-parts.parts.version (numbers_in c.in_ok-parts.parts)) c.in-Err.refused.fault c.in-Err.ensures.fault).1 HeapImage)

pub returns-in_err-fill-clause-refused : goal.returns-in_err-fill-clause-refused
returns-in_err-fill-clause-refused g c =
    let p = err_from_is_err_and c.from_residual-in_err-fill.result c.from_residual-in_err-fill.ensures.1 in
    let version = c.in_ok-parts.parts.version in
    let image = numbers_in c.in_ok-parts.parts in
    let before = g.R.Intake.left c.args.reader.now in
    let after = g.R.Intake.left c.read_parts.new.reader in
    let end = g.R.Intake.left c.fill.new.reader in
    let came = c.fill.ensures.lost in
    rw (p.1, p.2) (record {
      kind = search rules;
      reason = search rules;
      left = some_rest before end (listed_text version image ++ came.0) (consumes_more before after end (listed_text version image) came.0 c.in_ok-parts.ensures.text came.1);
      memory = search rules;
    })

pub returns-then-branch-gt0-clause-refused : goal.returns-then-branch-gt0-clause-refused
returns-then-branch-gt0-clause-refused g c =
    let version = c.in_ok-parts.parts.version in
    let image = numbers_in c.in_ok-parts.parts in
    let before = g.R.Intake.left c.args.reader.now in
    let after = g.R.Intake.left c.read_parts.new.reader in
    let end = g.R.Intake.left c.fill.new.reader in
    let fits = c.in_ok-parts.ensures.fits in
    let read = c.in_ok-parts.ensures.text in
    let sound = c.in-Ok.ensures.sound in
    let more = take c.in_ok-fill.field-0 c.fill.new.buffer in
    let one = one_taken c.fill.new.buffer c.in_ok-fill.field-0 c.fill.auto.buffer c.in_ok-fill.ensures.within c.if-branch-gt0.true in
    record {
      kind = tt;
      reason = trailing_reason version image fits before after read sound more end c.in_ok-fill.ensures.bytes one;
      left = trailing_leaves version image fits before after read sound more end c.in_ok-fill.ensures.bytes one;
      memory = search rules;
    }

pub returns-clause-read : goal.returns-clause-read
returns-clause-read g c =
    let version = c.in_ok-parts.parts.version in
    let image = numbers_in c.in_ok-parts.parts in
    let before = g.R.Intake.left c.args.reader.now in
    let after = g.R.Intake.left c.read_parts.new.reader in
    let end = g.R.Intake.left c.fill.new.reader in
    let n = c.in_ok-fill.field-0 in
    let few = c.if-branch-gt0.false in
    let zero_taken : n ≡ 0 = omega arith in
    let none : take n c.fill.new.buffer ≡ [] = ap (λ k. take k c.fill.new.buffer) zero_taken in
    let whole : listed_text version image ++ take n c.fill.new.buffer ≡ text c.in-Ok.image =
    ap (λ xs. listed_text version image ++ xs) none ∙ append-nil (listed_text version image) ∙ sym (text-from_tail version image refl refl) ∙ ap text (sym c.in-Ok.ensures.image) in
    record {
      valid = search rules;
      text = subst (λ bytes. Consumes before end bytes) whole (consumes_more before after end (listed_text version image) (take n c.fill.new.buffer) c.in_ok-parts.ensures.text c.in_ok-fill.ensures.bytes);
      end = search rules;
    }
