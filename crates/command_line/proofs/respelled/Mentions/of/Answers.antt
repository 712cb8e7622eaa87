use Rattle.std.proofs.Common.{◌≡◌, ◌∙◌, ap, ◌||◌, sym, rules, bytes_eq}
use Rattle.std.proofs.lemmas.Bool.{or_left}
use Rattle.std.specs.Prelude.{string_bytes}
use Rattle.command_line.proofs.Lemmas.Plain.{is_on_at_dashes, is_on_at_end, is_on_at_word}
use Rattle.command_line.proofs.respelled.Mentions.of.Goals as goal
use Rattle.command_line.proofs.respelled.Mentions.of.Goals.{then-is_plain, else-is_plain, else-loop-word-test, then-loop-word-test+then-eq}

pub loop-word-preserved : goal.loop-word-preserved
loop-word-preserved c =
    let words = c.args.words.now in
    let option = c.args.option.now in
    let word = c.word-item.result in
    let becomes : c.if-is_plain.is_plain ≡ (c.loop-word.is_plain || bytes_eq (string_bytes word) option) = elim c.if-is_plain.branch [
      | then-is_plain w ↦ w.is_plain-is ∙ w.if-is_plain.true ∙ sym (or_left c.loop-word.is_plain _ w.if-is_plain.true)
      | else-is_plain w ↦ w.is_plain-is ∙ w.eq-is_plain.ensures ∙ ap (λ bytes. bytes_eq bytes option) c.as_str-word.ensures.value ∙ ap (λ b. b || bytes_eq (string_bytes word) option) (sym w.if-is_plain.false)
    ] in
    is_on_at_word string_bytes option words c.loop-word.word-index word c.loop-word-test.true (sym c.word-item.is)
    c.loop-word.is_plain c.if-is_plain.is_plain _ (search rules) becomes c.loop-word.invariant

pub returns-clause-plain : goal.returns-clause-plain
returns-clause-plain c =
    let words = c.args.words.now in
    let option = c.args.option.now in
    let i = c.loop-word.word-index in
    elim c.loop-word-test.branch [
      | else-loop-word-test w ↦ is_on_at_end string_bytes option words i c.loop-word.is_plain _ (search rules) c.loop-word.invariant
      | then-loop-word-test+then-eq w ↦
          is_on_at_dashes string_bytes option words i w.word-item.result w.loop-word-test.true (sym w.word-item.is)
          c.loop-word.is_plain _ (search rules) c.loop-word.invariant
    ]
