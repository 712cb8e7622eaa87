use Rattle.std.proofs.Common.{◌≡◌, ◌∙◌, ◌++◌, [], List, ℕ, Option, Ok, ap, sym, subst, length, arith}
use Rattle.std.proofs.lemmas.Result.{err_from_is_err_and}
use Rattle.heap_text.specs.TextLines.{EndsInLine, IsWithin}
use Rattle.heap_text.proofs.Lemmas.TextSteps.{about_all, about_none, more_given, none_given}
use Rattle.heap_text.specs.Parsing.{IsWaiting}
use Rattle.heap_text.specs.Text.{text_of}
use Rattle.heap_text.proofs.Lemmas.DeviceSteps.{at_end_of, next_piece, no_line_accepted, text_from}
use Rattle.heap_text.proofs.Lemmas.PartSteps.{some_same}
use Rattle.heap_text.proofs.reading.parse_from.Goals as goal

pub loop-parser-init : goal.loop-parser-init
loop-parser-init g c =
    let none : length c.args.text.now.items ≡ 0 = ap (λ (xs : List ℕ). length xs) c.requires in
    record {
      room = omega (arith, c.in_ok-piece.ensures.len);
      seen = omega (arith, none, c.args.text.now.ok.0);
      came = none_given (g.R.Intake.left c.args.device.now) c.args.text.now.items c.requires;
      stands = subst (λ (xs : List ℕ). EndsInLine xs 0 c.new-parser.result.line c.new-parser.result.begin) (sym c.requires) c.new-parser.ensures.stands;
      waits = λ image left valid known now.
          let same : text_of image ≡ left = some_same (text_of image) left (sym known ∙ now) in
          c.new-parser.ensures.waits image c.args.text.now.items left (ap (λ (xs : List ℕ). xs ++ left) c.requires ∙ sym same);
    }

pub returns-in_err-read_piece-clause-line : goal.returns-in_err-read_piece-clause-line
returns-in_err-read_piece-clause-line g c =
    let p = err_from_is_err_and c.from_residual-in_err-read_piece.result c.from_residual-in_err-read_piece.ensures.1 in
    rw (p.1, p.2) (about_none (g.R.Intake.left c.args.device.now) c.in_err-read_piece.field-0.0 c.in_err-read_piece.ensures.line)

pub returns-in_err-parse_lines-clause-line : goal.returns-in_err-parse_lines-clause-line
returns-in_err-parse_lines-clause-line g c =
    let p = err_from_is_err_and c.from_residual-in_err-parse_lines.result c.from_residual-in_err-parse_lines.ensures.1 in
    let first : Option (List ℕ) = g.R.Intake.left c.args.device.now in
    let new : Option (List ℕ) = g.R.Intake.left c.read_piece.new.device in
    let text : List ℕ = c.read_piece.new.text.items in
    let more = c.in_ok-read_piece.ensures.more in
    let given = more_given first (g.R.Intake.left c.loop-parser.device) new c.loop-parser.text.items text more.0 c.loop-parser.invariant.came more.2 more.1 in
    rw (p.1, p.2) (about_all first new text c.in_err-parse_lines.field-0.0 given
    (subst (λ (xs : List ℕ). IsWithin xs c.in_err-parse_lines.field-0.0) c.as_slice.ensures.value c.in_err-parse_lines.ensures.line))

pub returns-in_err-check_unfinished_line-clause-line : goal.returns-in_err-check_unfinished_line-clause-line
returns-in_err-check_unfinished_line-clause-line g c =
    let p = err_from_is_err_and c.from_residual-in_err-check_unfinished_line.result c.from_residual-in_err-check_unfinished_line.ensures.1 in
    let first : Option (List ℕ) = g.R.Intake.left c.args.device.now in
    let new : Option (List ℕ) = g.R.Intake.left c.read_piece.new.device in
    let text : List ℕ = c.read_piece.new.text.items in
    let more = c.in_ok-read_piece.ensures.more in
    let given = more_given first (g.R.Intake.left c.loop-parser.device) new c.loop-parser.text.items text more.0 c.loop-parser.invariant.came more.2 more.1 in
    rw (p.1, p.2) (about_all first new text c.in_err-check_unfinished_line.field-0.0 given
    (subst (λ (xs : List ℕ). IsWithin xs c.in_err-check_unfinished_line.field-0.0) c.as_slice-in-loop-parser.ensures.value c.in_err-check_unfinished_line.ensures.line))

pub loop-parser-preserved : goal.loop-parser-preserved
loop-parser-preserved g c =
    let text : List ℕ = c.read_piece.new.text.items in
    let more = c.in_ok-read_piece.ensures.more in
    let seen : length text ≡ c.len-seen.result = omega (arith, c.read_piece.new.text.ok.0, c.len-seen.ensures) in
    let stands : EndsInLine text (length text) c.parse_lines.new.self.line c.parse_lines.new.self.begin =
    subst (λ (xs : List ℕ). EndsInLine xs (length xs) c.parse_lines.new.self.line c.parse_lines.new.self.begin) c.as_slice.ensures.value c.in_ok-parse_lines.ensures.stands in
    record {
      room = c.loop-parser.invariant.room;
      seen = c.len-seen.ensures;
      came = more_given (g.R.Intake.left c.args.device.now) (g.R.Intake.left c.loop-parser.device) (g.R.Intake.left c.read_piece.new.device)
          c.loop-parser.text.items text more.0 c.loop-parser.invariant.came more.2 more.1;
      stands = subst (λ (n : ℕ). EndsInLine text n c.parse_lines.new.self.line c.parse_lines.new.self.begin) seen stands;
      waits = λ image left valid known now.
          let more = c.in_ok-read_piece.ensures.more in
          let inv = c.loop-parser.invariant in
          let next = next_piece image c.loop-parser.parser (text_of image) c.loop-parser.text.items c.read_piece.new.text.items more.0 c.loop-parser.seen
          (g.R.Intake.left c.args.device.now) (g.R.Intake.left c.loop-parser.device) (g.R.Intake.left c.read_piece.new.device) known inv.came
          (λ left e. inv.waits image left valid known e) more.2 more.1 (omega (arith, inv.seen, c.loop-parser.text.ok.0)) (omega (arith, inv.seen, inv.stands.begun, c.loop-parser.text.ok.0)) in
          let same : next.rest ≡ left = some_same next.rest left (sym next.new_is ∙ now) in
          let parsed : IsWaiting image c.parse_lines.new.self c.as_slice.result.now (length c.as_slice.result.now) next.rest = c.in_ok-parse_lines.ensures.accepts image next.rest valid
          (subst (λ (xs : List ℕ). IsWaiting image c.loop-parser.parser xs c.loop-parser.seen next.rest) (sym c.as_slice.ensures.value) next.waits) in
          subst (λ (r : List ℕ). IsWaiting image c.parse_lines.new.self text c.len-seen.result r) same
          (subst (λ (n : ℕ). IsWaiting image c.parse_lines.new.self text n next.rest) seen
          (subst (λ (xs : List ℕ). IsWaiting image c.parse_lines.new.self xs (length xs) next.rest) c.as_slice.ensures.value parsed));
    }

pub returns-in_err-finish-clause-line : goal.returns-in_err-finish-clause-line
returns-in_err-finish-clause-line g c =
    let p = err_from_is_err_and c.from_residual-in_err-finish.result c.from_residual-in_err-finish.ensures.1 in
    let first : Option (List ℕ) = g.R.Intake.left c.args.device.now in
    let new : Option (List ℕ) = g.R.Intake.left c.read_piece.new.device in
    let text : List ℕ = c.read_piece.new.text.items in
    let more = c.in_ok-read_piece.ensures.more in
    let given = more_given first (g.R.Intake.left c.loop-parser.device) new c.loop-parser.text.items text more.0 c.loop-parser.invariant.came more.2 more.1 in
    rw (p.1, p.2) (about_all first new text c.in_err-finish.field-0.0 given
    (subst (λ (xs : List ℕ). IsWithin xs c.in_err-finish.field-0.0) c.as_slice-2.ensures.value c.in_err-finish.ensures.line))

pub returns-clause-text : goal.returns-clause-text
returns-clause-text g c =
    let more = c.in_ok-read_piece.ensures.more in
    more_given (g.R.Intake.left c.args.device.now) (g.R.Intake.left c.loop-parser.device) (g.R.Intake.left c.read_piece.new.device)
    c.loop-parser.text.items c.read_piece.new.text.items more.0 c.loop-parser.invariant.came more.2 more.1

pub returns-in_err-read_piece-clause-accepts : goal.returns-in_err-read_piece-clause-accepts
returns-in_err-read_piece-clause-accepts g c image valid known =
    let p = err_from_is_err_and c.from_residual-in_err-read_piece.result c.from_residual-in_err-read_piece.ensures.1 in
    rw (p.1, p.2) (no_line_accepted c.in_err-read_piece.field-0.0 _ c.in_err-read_piece.ensures.line)

pub returns-in_err-parse_lines-clause-accepts : goal.returns-in_err-parse_lines-clause-accepts
returns-in_err-parse_lines-clause-accepts g c image valid known =
    let p = err_from_is_err_and c.from_residual-in_err-parse_lines.result c.from_residual-in_err-parse_lines.ensures.1 in
    let more = c.in_ok-read_piece.ensures.more in
    let inv = c.loop-parser.invariant in
    let next = next_piece image c.loop-parser.parser (text_of image) c.loop-parser.text.items c.read_piece.new.text.items more.0 c.loop-parser.seen
    (g.R.Intake.left c.args.device.now) (g.R.Intake.left c.loop-parser.device) (g.R.Intake.left c.read_piece.new.device) known inv.came
    (λ left e. inv.waits image left valid known e) more.2 more.1 (omega (arith, inv.seen, c.loop-parser.text.ok.0)) (omega (arith, inv.seen, inv.stands.begun, c.loop-parser.text.ok.0)) in
    rw (p.1, p.2) (text_from c.in_err-parse_lines.field-0.0 _ _ (c.in_err-parse_lines.ensures.accepts image next.rest valid
    (subst (λ (xs : List ℕ). IsWaiting image c.loop-parser.parser xs c.loop-parser.seen next.rest) (sym c.as_slice.ensures.value) next.waits)))

pub returns-in_err-check_unfinished_line-clause-accepts : goal.returns-in_err-check_unfinished_line-clause-accepts
returns-in_err-check_unfinished_line-clause-accepts g c image valid known =
    let more = c.in_ok-read_piece.ensures.more in
    let inv = c.loop-parser.invariant in
    let next = next_piece image c.loop-parser.parser (text_of image) c.loop-parser.text.items c.read_piece.new.text.items more.0 c.loop-parser.seen
    (g.R.Intake.left c.args.device.now) (g.R.Intake.left c.loop-parser.device) (g.R.Intake.left c.read_piece.new.device) known inv.came
    (λ left e. inv.waits image left valid known e) more.2 more.1 (omega (arith, inv.seen, c.loop-parser.text.ok.0)) (omega (arith, inv.seen, inv.stands.begun, c.loop-parser.text.ok.0)) in
    let parsed : IsWaiting image c.parse_lines.new.self c.as_slice.result.now (length c.as_slice.result.now) next.rest = c.in_ok-parse_lines.ensures.accepts image next.rest valid
    (subst (λ (xs : List ℕ). IsWaiting image c.loop-parser.parser xs c.loop-parser.seen next.rest) (sym c.as_slice.ensures.value) next.waits) in
    let no = c.in_err-check_unfinished_line.ensures.accepts image next.rest valid
    (subst (λ (xs : List ℕ). IsWaiting image c.parse_lines.new.self xs (length xs) next.rest) (c.as_slice.ensures.value ∙ sym c.as_slice-in-loop-parser.ensures.value) parsed) in
    absurd (let none : ⊥ = cc in none)

pub returns-in_err-finish-clause-accepts : goal.returns-in_err-finish-clause-accepts
returns-in_err-finish-clause-accepts g c image valid known =
    let p = err_from_is_err_and c.from_residual-in_err-finish.result c.from_residual-in_err-finish.ensures.1 in
    let more = c.in_ok-read_piece.ensures.more in
    let inv = c.loop-parser.invariant in
    let next = next_piece image c.loop-parser.parser (text_of image) c.loop-parser.text.items c.read_piece.new.text.items more.0 c.loop-parser.seen
    (g.R.Intake.left c.args.device.now) (g.R.Intake.left c.loop-parser.device) (g.R.Intake.left c.read_piece.new.device) known inv.came
    (λ left e. inv.waits image left valid known e) more.2 more.1 (omega (arith, inv.seen, c.loop-parser.text.ok.0)) (omega (arith, inv.seen, inv.stands.begun, c.loop-parser.text.ok.0)) in
    let stop = c.in_ok-read_piece.ensures.end (ap Ok c.if-branch.false) in
    let empty : next.rest ≡ [] = at_end_of (g.R.Intake.left c.read_piece.new.device) next.rest next.new_is stop.0 in
    let seen : c.loop-parser.seen ≡ length c.read_piece.new.text.items = omega (arith, inv.seen, c.loop-parser.text.ok.0, ap (λ (xs : List ℕ). length xs) stop.1) in
    let whole : IsWaiting image c.loop-parser.parser c.as_slice-2.result.now (length c.as_slice-2.result.now) [] =
    subst (λ (xs : List ℕ). IsWaiting image c.loop-parser.parser xs (length xs) []) (sym c.as_slice-2.ensures.value)
    (subst (λ (n : ℕ). IsWaiting image c.loop-parser.parser c.read_piece.new.text.items n []) seen (subst (λ (r : List ℕ). IsWaiting image c.loop-parser.parser c.read_piece.new.text.items c.loop-parser.seen r) empty next.waits)) in
    rw (p.1, p.2) (text_from c.in_err-finish.field-0.0 _ _ (c.in_err-finish.ensures.accepts image valid whole))

pub returns-clause-accepts : goal.returns-clause-accepts
returns-clause-accepts g c image valid known =
    let more = c.in_ok-read_piece.ensures.more in
    let inv = c.loop-parser.invariant in
    let next = next_piece image c.loop-parser.parser (text_of image) c.loop-parser.text.items c.read_piece.new.text.items more.0 c.loop-parser.seen
    (g.R.Intake.left c.args.device.now) (g.R.Intake.left c.loop-parser.device) (g.R.Intake.left c.read_piece.new.device) known inv.came
    (λ left e. inv.waits image left valid known e) more.2 more.1 (omega (arith, inv.seen, c.loop-parser.text.ok.0)) (omega (arith, inv.seen, inv.stands.begun, c.loop-parser.text.ok.0)) in
    let stop = c.in_ok-read_piece.ensures.end (ap Ok c.if-branch.false) in
    let empty : next.rest ≡ [] = at_end_of (g.R.Intake.left c.read_piece.new.device) next.rest next.new_is stop.0 in
    let seen : c.loop-parser.seen ≡ length c.read_piece.new.text.items = omega (arith, inv.seen, c.loop-parser.text.ok.0, ap (λ (xs : List ℕ). length xs) stop.1) in
    let whole : IsWaiting image c.loop-parser.parser c.as_slice-2.result.now (length c.as_slice-2.result.now) [] =
    subst (λ (xs : List ℕ). IsWaiting image c.loop-parser.parser xs (length xs) []) (sym c.as_slice-2.ensures.value)
    (subst (λ (n : ℕ). IsWaiting image c.loop-parser.parser c.read_piece.new.text.items n []) seen (subst (λ (r : List ℕ). IsWaiting image c.loop-parser.parser c.read_piece.new.text.items c.loop-parser.seen r) empty next.waits)) in
    c.in_ok-finish.ensures.accepts image valid whole
