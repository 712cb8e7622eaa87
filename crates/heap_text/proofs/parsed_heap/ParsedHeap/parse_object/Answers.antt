use Rattle.std.proofs.Common.{◌≡◌, ◌+◌, ◌++◌, ◌∷◌, [], ℕ, refl, length, length-append, arith}
use Rattle.object_heap.specs.Header.{object_header}
use Rattle.heap_text.specs.Words.{HasPushed, references_part, data_part}
use Rattle.heap_text.proofs.Lemmas.PartSteps.{fields_after, pushed_more, pushed_word, some_same}
use Rattle.heap_text.proofs.parsed_heap.ParsedHeap.parse_object.Goals as goal

pub returns-then-len-place : goal.returns-then-len-place
returns-then-len-place c = record {
  accepts = λ refs others fits fits' is room size_fits references_fit.
      let n : ℕ = 1 + (length refs + length others) in
      let both = c.in-Some.ensures.accepts n (references_part refs ++ data_part others) (omega arith) (omega (arith, room, size_fits, c.len-place.ensures, c.min-most.ensures))
      (omega (arith, room, c.requires.few)) (fields_after refs others) is in
      let size : c.in-Some.size ≡ n = some_same c.in-Some.size n both.0 in
      let pushed : HasPushed c.push-2.new.self c.parse_fields.new.self (refs ++ others) = c.in_ok-parse_fields.ensures.accepts refs others fits fits' both.1
      (omega (arith, room, c.in_ok-push-2.ensures.len)) in
      absurd (c.if-len-place.true (omega (arith, c.len.ensures, c.len-place.ensures, pushed.len, c.in_ok-push-2.ensures.len, size, length-append refs others)));
}

pub returns : goal.returns
returns c = record {
  accepts = λ refs others fits fits' is room size_fits references_fit.
      let n : ℕ = 1 + (length refs + length others) in
      let both = c.in-Some.ensures.accepts n (references_part refs ++ data_part others) (omega arith) (omega (arith, room, size_fits, c.len-place.ensures, c.min-most.ensures))
      (omega (arith, room, c.requires.few)) (fields_after refs others) is in
      let size : c.in-Some.size ≡ n = some_same c.in-Some.size n both.0 in
      let counted : c.count_references.result ≡ length refs = c.count_references.ensures c.args.len refs others c.requires.few fits both.1 in
      let pushed : HasPushed c.push-2.new.self c.parse_fields.new.self (refs ++ others) = c.in_ok-parse_fields.ensures.accepts refs others fits fits' both.1
      (omega (arith, room, c.in_ok-push-2.ensures.len)) in
      record {
        words = pushed_more c.args.self.now.words c.push-2.new.self c.parse_fields.new.self (object_header n (length refs) ∷ []) (refs ++ others)
            (pushed_word c.args.self.now.words c.push-2.new.self _ (object_header n (length refs)) c.in_ok-push-2.ensures.words c.in_ok-push-2.ensures.len
            (omega (arith, size, counted, c.min-references.ensures))) pushed;
        live = rw c.len-place.ensures at c.in_ok-push.ensures.items;
        head = record { version = refl; region_log = refl; allowance = refl; roots = refl };
      };
}

pub returns-then-references-gt-MAX_REFERENCES : goal.returns-then-references-gt-MAX_REFERENCES
returns-then-references-gt-MAX_REFERENCES c = record {
  accepts = λ refs others fits fits' is room size_fits references_fit.
      let n : ℕ = 1 + (length refs + length others) in
      let both = c.in-Some.ensures.accepts n (references_part refs ++ data_part others) (omega arith) (omega (arith, room, size_fits, c.len-place.ensures, c.min-most.ensures))
      (omega (arith, room, c.requires.few)) (fields_after refs others) is in
      let counted : c.count_references.result ≡ length refs = c.count_references.ensures c.args.len refs others c.requires.few fits both.1 in
      absurd (let over = c.if-references-gt-MAX_REFERENCES.true in let no : ⊥ = omega (arith, over, counted, c.min-references.ensures, references_fit) in no);
}
