-- Parsing a text line by line.
use Rattle.std.proofs.Common.{◌≡◌, ℕ, zero, suc, ◌+◌, ◌-◌, ◌<◌, ◌≤◌, inl, inr, true, List, [], ◌∷◌, ◌++◌, length, take, drop, get_or, refl, sym, ap, ◌∙◌, subst, arith, append_assoc, append-nil, length-append, length-drop}
use Rattle.std.specs.Prelude.{◌==◌}
use Rattle.memchr.specs.Find.{Nowhere, Passes, is_byte}
use Rattle.std.proofs.lemmas.Bool.{and_parts, eq-eqb, eqb-true, ne_eqb}
use Rattle.std.proofs.lemmas.List.{get_or-drop, drop_more, drop_all, drop-drop, take_all, take-append-drop, nil_from_length, take-append-le, drop-append-le}
use Rattle.std.proofs.lemmas.List.Sums.{count_by_more_no, sum_by-take-drop}
use Rattle.std.proofs.Math.Seq.{take-add}
use Rattle.object_heap.specs.HeapImage.{HeapImage, IsValid}
use Rattle.heap_text.specs.Parsing.{Expects, IsWaiting}
use Rattle.heap_text.specs.TextLines.{ended_lines}
use Rattle.heap_text.specs.declared.text_parser.TextParser.{TextParser}
use Rattle.heap_text.proofs.Lemmas.LineSteps.{lines_append, lines_cons, newlines_of}
use Rattle.heap_text.proofs.Lemmas.ParseSteps.{line_ahead}
use Rattle.heap_text.proofs.Lemmas.LineBytes.{IsPart, unfinished_part}
use Rattle.heap_text.specs.TextBytes.{is_text_byte, longest}
use Rattle.std.specs.List.{list_all}

-- a byte more that is no newline
pub waits_after_byte : (image : HeapImage) (parser : TextParser) (bytes : List ℕ) (place : ℕ) (more : List ℕ) → IsWaiting image parser bytes place more
    → place < length bytes → (get_or bytes place 0 ≡ 10 → ⊥) → IsWaiting image parser bytes (place + 1) more
waits_after_byte image parser bytes place more p inside other =
    record {
      expects = p.expects;
      one_line = count_by_more_no (λ b. b == 10) bytes place 0 inside (ne_eqb (get_or bytes place 0) 10 other) ∙ p.one_line;
    }

-- no byte from one place up to another is a newline
abbrev pub HasNoNewline : List ℕ → ℕ → ℕ → Type 0
HasNoNewline bytes from to = (k : ℕ) → from ≤ k → k < to → get_or bytes k 0 ≡ 10 → ⊥

waits_after_bytes : (image : HeapImage) (parser : TextParser) (bytes : List ℕ) (from n to : ℕ) (more : List ℕ) → to ≡ from + n → IsWaiting image parser bytes from more
    → to ≤ length bytes → HasNoNewline bytes from to → IsWaiting image parser bytes to more
waits_after_bytes image parser bytes from zero to more is p within none =
    let same : from ≡ to = omega (arith, is) in
    subst (λ (k : ℕ). IsWaiting image parser bytes k more) same p
waits_after_bytes image parser bytes from (suc n) to more is p within none =
    waits_after_bytes image parser bytes (from + 1) n to more (omega (arith, is))
    (waits_after_byte image parser bytes from more p (omega (arith, is, within)) (none from (omega arith) (omega (arith, is)))) within
    (λ k low high. none k (omega (arith, low)) high)

-- bytes more that are no newlines
pub waits_further : (image : HeapImage) (parser : TextParser) (bytes : List ℕ) (from to : ℕ) (more : List ℕ) → IsWaiting image parser bytes from more
    → from ≤ to → to ≤ length bytes → HasNoNewline bytes from to → IsWaiting image parser bytes to more
waits_further image parser bytes from to more p low within none =
    waits_after_bytes image parser bytes from (to - from) to more (omega (arith, low)) p within none

-- a search in what is left of the bytes from a place on
module _ (bytes hay : List ℕ) (from : ℕ) (is_rest : hay ≡ drop from bytes) where
  byte_there : (k : ℕ) → get_or hay k 0 ≡ get_or bytes (from + k) 0
  byte_there k = ap (λ (xs : List ℕ). get_or xs k 0) is_rest ∙ get_or-drop from bytes k 0

  pub passes_none : (n to : ℕ) → to ≡ from + n → Nowhere (Passes (is_byte 10) hay) 0 n → HasNoNewline bytes from to
  passes_none n to is none k low high here =
      let at : from + (k - from) ≡ k = omega (arith, low) in
      let same : get_or hay (k - from) 0 ≡ 10 = byte_there (k - from) ∙ (ap (λ (j : ℕ). get_or bytes j 0) at ∙ here) in
      none (k - from) (omega arith) (omega (arith, is, low, high)) (eq-eqb (get_or hay (k - from) 0) 10 same)

  pub finds_newline : (k : ℕ) → Passes (is_byte 10) hay k → get_or bytes (from + k) 0 ≡ 10
  finds_newline k h = sym (byte_there k) ∙ eqb-true (get_or hay k 0) 10 h

-- the line that ends at a newline, and what follows it
pub line_at : (bytes more : List ℕ) (begin place : ℕ) → begin ≤ place → place < length bytes → get_or bytes place 0 ≡ 10
    → drop begin bytes ++ more ≡ take (place - begin) (drop begin bytes) ++ (10 ∷ (drop (place + 1) bytes ++ more))
line_at bytes more begin place low inside is =
    let n : ℕ = place - begin in
    let at : begin + n ≡ place = omega (arith, low) in
    let rest : drop n (drop begin bytes) ≡ 10 ∷ drop (place + 1) bytes =
    drop-drop n begin bytes ∙ (ap (λ (k : ℕ). drop k bytes) at ∙ (drop_more bytes place 0 inside ∙ ap (λ (b : ℕ). b ∷ drop (place + 1) bytes) is)) in
    ap (λ (t : List ℕ). t ++ more) (sym (take-append-drop n (drop begin bytes)) ∙ ap (λ (t : List ℕ). take n (drop begin bytes) ++ t) rest)
    ∙ append_assoc (take n (drop begin bytes)) (10 ∷ drop (place + 1) bytes) more

-- it has no newline before that
pub line_alone : (bytes : List ℕ) (begin place : ℕ) → begin ≤ place → ended_lines (take place bytes) ≡ ended_lines (take begin bytes)
    → ended_lines (take (place - begin) (drop begin bytes)) ≡ 0
line_alone bytes begin place low one =
    let n : ℕ = place - begin in
    let at : place ≡ begin + n = omega (arith, low) in
    let whole : ended_lines (take place bytes) ≡ ended_lines (take begin bytes ++ take n (drop begin bytes)) =
    ap ended_lines (ap (λ (k : ℕ). take k bytes) at ∙ take-add begin n bytes) in
    omega (arith, whole, one, lines_append (take begin bytes) (take n (drop begin bytes)))

-- the bytes of the line that has not ended yet
pub unfinished : (image : HeapImage) → IsValid image → (parser : TextParser) (bytes more : List ℕ) → IsWaiting image parser bytes (length bytes) more
    → IsPart (drop parser.begin bytes) (longest parser.parser.next parser.parser.len) × (more ≡ [] → drop parser.begin bytes ≡ [])
unfinished image valid parser bytes more p =
    let rest : List ℕ = drop parser.begin bytes in
    let whole : ended_lines (take (length bytes) bytes) ≡ ended_lines bytes = ap ended_lines (take_all (length bytes) bytes (omega arith)) in
    let one : ended_lines rest ≡ 0 = omega (arith, p.one_line, whole, sum_by-take-drop newlines_of bytes parser.begin) in
    elim (line_ahead image valid parser.parser (rest ++ more) parser.parser.next p.expects) [
      | inl none ↦
          let lengths : length (rest ++ more) ≡ 0 = ap (λ (xs : List ℕ). length xs) none in
          let empty : rest ≡ [] = nil_from_length rest (omega (arith, lengths, length-append rest more)) in
          (subst (λ (xs : List ℕ). IsPart xs (longest parser.parser.next parser.parser.len)) (sym empty) (record { short = omega arith; plain = refl }), λ _. empty)
      | inr line ↦ (
        unfinished_part rest line.line more line.rest (longest parser.parser.next parser.parser.len) one line.part line.is,
        λ last. absurd (
            let is : rest ≡ line.line ++ (10 ∷ line.rest) = sym (append-nil rest) ∙ (ap (λ (t : List ℕ). rest ++ t) (sym last) ∙ line.is) in
            let no : ⊥ = omega (arith, one, ap ended_lines is, lines_append line.line (10 ∷ line.rest), lines_cons 10 line.rest) in no
            ),
      )
    ]

-- no line is unfinished at the end of a text
pub nothing_unfinished : (image : HeapImage) → IsValid image → (parser : TextParser) (bytes : List ℕ) → IsWaiting image parser bytes (length bytes) [] → parser.begin < length bytes → ⊥
nothing_unfinished image valid parser bytes p inside =
    let empty : length (drop parser.begin bytes) ≡ 0 = ap (λ (xs : List ℕ). length xs) ((unfinished image valid parser bytes [] p).1 refl) in
    let no : ⊥ = omega (arith, empty, length-drop parser.begin bytes, inside) in no

-- nothing is left at the end of a text
pub at_end : (image : HeapImage) (parser : TextParser) (bytes : List ℕ) → IsWaiting image parser bytes (length bytes) [] → length bytes ≤ parser.begin → Expects image parser.parser []
at_end image parser bytes p past =
    subst (Expects image parser.parser) (append-nil (drop parser.begin bytes) ∙ drop_all parser.begin bytes past) p.expects

-- a piece more has come
pub waits_for_piece : (image : HeapImage) (parser : TextParser) (old new came left rest : List ℕ) (seen : ℕ) → IsWaiting image parser old seen left
    → new ≡ old ++ came → left ≡ came ++ rest → seen ≤ length old → parser.begin ≤ length old → IsWaiting image parser new seen rest
waits_for_piece image parser old new came left rest seen p new_is left_is low low' =
    let begin : ℕ = parser.begin in
    let whole : drop begin old ++ left ≡ drop begin new ++ rest =
    ap (λ (t : List ℕ). drop begin old ++ t) left_is
    ∙ (sym (append_assoc (drop begin old) came rest)
    ∙ ap (λ (t : List ℕ). t ++ rest) (sym (ap (λ (xs : List ℕ). drop begin xs) new_is ∙ drop-append-le begin old came low'))) in
    record {
      expects = subst (Expects image parser.parser) whole p.expects;
      one_line = ap (λ (xs : List ℕ). ended_lines (take seen xs)) new_is
          ∙ (ap ended_lines (take-append-le seen old came low)
          ∙ (p.one_line ∙ sym (ap (λ (xs : List ℕ). ended_lines (take begin xs)) new_is ∙ ap ended_lines (take-append-le begin old came low'))));
    }

plain_drop : (k : ℕ) (xs : List ℕ) → list_all is_text_byte xs ≡ true → list_all is_text_byte (drop k xs) ≡ true
plain_drop zero xs h = h
plain_drop (suc k) [] h = refl
plain_drop (suc k) (x ∷ xs) h = plain_drop k xs (and_parts (is_text_byte x) (list_all is_text_byte xs) h).1

-- so are the bytes of a line from a later place on
pub plain_from : (bytes : List ℕ) (begin m : ℕ) → begin ≤ m → list_all is_text_byte (drop begin bytes) ≡ true → list_all is_text_byte (drop m bytes) ≡ true
plain_from bytes begin m low h =
    let at : begin + (m - begin) ≡ m = omega (arith, low) in
    let is : drop (m - begin) (drop begin bytes) ≡ drop m bytes = drop-drop (m - begin) begin bytes ∙ ap (λ (k : ℕ). drop k bytes) at in
    subst (λ (xs : List ℕ). list_all is_text_byte xs ≡ true) is (plain_drop (m - begin) (drop begin bytes) h)
