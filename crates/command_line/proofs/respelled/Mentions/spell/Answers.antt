use Rattle.std.proofs.Common.{◌≡◌, ◌+◌, ◌∷◌, map, drop, true, false, ◌&&◌, not, IsTrue, sym, ap, ◌∙◌, rules, codes, bytes_eq}
use Rattle.std.proofs.lemmas.Bool.{false≢true, or_right}
use Rattle.std.specs.Prelude.{string_bytes}
use Rattle.command_line.specs.Respelling.{has_value, mentions, plain_words}
use Rattle.command_line.proofs.Lemmas.Plain.{first_value, further_value, grown, other_word, passed_over, rest_of}
use Rattle.command_line.proofs.Lemmas.Spelled.{mentions_itself, kept, passed, replaced}
use Rattle.command_line.proofs.respelled.Mentions.spell.Goals as goal
use Rattle.command_line.proofs.respelled.Mentions.spell.Goals.{in-Some+then-not-is_there+in_ok-from_str-in-Some+in_ok-push-in-Some, in-Some+else-not-is_there, in_default+in_ok-from_str-in_default+in_ok-push-in_default, in_default-via-in-Some+else-are_options-2, in_default-via-in_default, then-are_options, else-are_options}

pub loop-word-preserved : goal.loop-word-preserved
loop-word-preserved c =
    let words = c.args.words.now in
    let option = c.args.self.option.now in
    let made = c.loop-word.spelled.items in
    let i = c.loop-word.word-index in
    let word = c.word-item.result in
    let at = sym c.word-item.is in
    let value = c.as_str-word.ensures.value in
    let below = c.loop-word-test.true in
    let are = c.loop-word.are_options in
    let now = c.if-are_options.are_options in
    let was_there = c.loop-word.is_there in
    let there = c.match-of_word.is_there in
    let all = plain_words option c.args.self.is_plain (map string_bytes words) in
    let becomes : now ≡ (are && not (bytes_eq (string_bytes word) (codes "--"))) = elim c.if-are_options.branch [
      | then-are_options w ↦ w.are_options-is ∙ w.ne-are_options.ensures ∙ ap (λ bytes. not (bytes_eq bytes (codes "--"))) value
          ∙ ap (λ a. a && not (bytes_eq (string_bytes word) (codes "--"))) (sym w.if-are_options.true)
      | else-are_options w ↦ w.are_options-is ∙ w.if-are_options.false
          ∙ ap (λ a. a && not (bytes_eq (string_bytes word) (codes "--"))) (sym w.if-are_options.false)
    ] in (
      elim c.match-of_word.branch [
        | in-Some+then-not-is_there+in_ok-from_str-in-Some+in_ok-push-in-Some w ↦
            let it = w.in_ok-from_str-in-Some.field-0 in
            let has : has_value option (string_bytes word) ≡ true = search rules in
            rw (w.spelled-is, w.in_ok-push-in-Some.ensures.items) (grown string_bytes option words i word below at made are was_there now there all
            c.loop-word.invariant.0 it
            (first_value string_bytes option words i word below at are was_there now there becomes (search rules) has (search rules) w.is_there-is
            ∙ ap (λ l. l ∷ rest_of option now there (map string_bytes (drop (i + 1) words))) (sym w.in_ok-from_str-in-Some.ensures.ok)))
        | in-Some+else-not-is_there w ↦
            let has : has_value option (string_bytes word) ≡ true = search rules in
            let is_there : was_there ≡ true = search rules in
            rw w.spelled-is (passed_over string_bytes option words i word below at made are was_there now there all c.loop-word.invariant.0
            (further_value string_bytes option words i word below at are was_there now there becomes (search rules) has is_there (w.is_there-is ∙ is_there)))
        | in_default+in_ok-from_str-in_default+in_ok-push-in_default w ↦
            let it = w.in_ok-from_str-in_default.field-0 in
            let none : now ≡ true → has_value option (string_bytes word) ≡ false = elim w.in_default.branch [
              | in_default-via-in-Some+else-are_options-2 w' ↦ λ may. absurd (false≢true (sym w'.if-are_options-2.false ∙ may))
              | in_default-via-in_default w' ↦ λ may. search rules
            ] in
            rw (w.spelled-is, w.in_ok-push-in_default.ensures.items, w.is_there-is) (grown string_bytes option words i word below at made are was_there now was_there all
            c.loop-word.invariant.0 it
            (other_word string_bytes option words i word below at are was_there now becomes none
            ∙ ap (λ l. l ∷ rest_of option now was_there (map string_bytes (drop (i + 1) words))) (sym (w.in_ok-from_str-in_default.ensures.ok ∙ value))))
      ],
      λ picks apart.
          let same = c.loop-word.invariant.1 picks apart in
          elim c.match-of_word.branch [
            | in-Some+then-not-is_there+in_ok-from_str-in-Some+in_ok-push-in-Some w ↦
                let has : has_value option (string_bytes word) ≡ true = search rules in
                let mention : IsTrue (mentions option (string_bytes word)) = or_right (bytes_eq (string_bytes word) option) _ has in
                let it = w.in_ok-from_str-in-Some.field-0 in
                let itself = ap picks w.in_ok-from_str-in-Some.ensures.ok ∙ apart option (mentions_itself option) in
                rw (w.spelled-is, w.in_ok-push-in-Some.ensures.items) (replaced string_bytes picks words made i word below at same it itself (apart (string_bytes word) mention))
            | in-Some+else-not-is_there w ↦
                let has : has_value option (string_bytes word) ≡ true = search rules in
                let mention : IsTrue (mentions option (string_bytes word)) = or_right (bytes_eq (string_bytes word) option) _ has in
                rw w.spelled-is (passed string_bytes picks words made i word below at same (apart (string_bytes word) mention))
            | in_default+in_ok-from_str-in_default+in_ok-push-in_default w ↦
                let it = w.in_ok-from_str-in_default.field-0 in
                rw (w.spelled-is, w.in_ok-push-in_default.ensures.items)
                (kept string_bytes picks words made i word below at same it (w.in_ok-from_str-in_default.ensures.ok ∙ value))
          ],
    )
