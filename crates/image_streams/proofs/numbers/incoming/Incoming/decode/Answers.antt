use Rattle.std.proofs.Common.{rules, ◌≡◌, ◌*◌, ◌+◌, ◌++◌, take, drop, length, arith, ap, sym, ◌∙◌, length-take}
use Rattle.image_streams.specs.Numbers.{numbers}
use Rattle.std.specs.Prelude.{slice_range}
use Rattle.image_streams.proofs.Lemmas.Reading.{slice_split}
use Rattle.std.proofs.lemmas.List.{take_at}
use Rattle.image_streams.proofs.numbers.incoming.Incoming.decode.Goals as goal

pub returns : goal.returns
returns c =
    let n = c.min-n.result in
    let start = c.args.self.now.start in
    let end = c.args.self.now.end in
    let bytes = c.args.self.now.bytes.now in
    let least = c.min-n.ensures in
    let range = c.requires in
    let some = length-take n c.args.words.now in
    let long : length c.peek.new.words ≡ n = c.peek.auto.words ∙ omega arith in
    let count : start + n ≡ start + length (take n c.args.words.now) = omega arith in
    record {
      in_range = search rules;
      within = search rules;
      some = search rules;
      bytes = slice_split bytes (8 * start) (8 * (start + n)) (8 * end) (omega arith) (omega arith)
          ∙ ap (λ p. p ++ slice_range bytes (8 * (start + n)) (8 * end)) (ap (λ k. slice_range bytes (8 * start) (8 * k)) count ∙ sym c.peek.ensures ∙ ap numbers (sym (take_at c.peek.new.words (drop n c.args.words.now) n long)));
      fewer = search rules;
    }
