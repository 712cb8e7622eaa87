use Rattle.std.proofs.Common.{◌≡◌, ◌+◌, ◌<◌, ◌≤◌, ◌^◌, ◌++◌, ◌∷◌, ◌⊎◌, ℕ, false, None, inl, inr, refl, sym, ap, ◌∙◌, subst, length, arith, codes, decimal}
use Rattle.std.specs.Prelude.{option_map}
use Rattle.std.specs.List.{AllByRecursion}
use Rattle.std.proofs.lemmas.Bool.{cases_Bool}
use Rattle.object_heap.specs.HeapImage.{heap_words}
use Rattle.heap_text.specs.Words.{dead_part, data_part, references_part}
use Rattle.heap_text.specs.Text.{number_text}
use Rattle.heap_text.proofs.Lemmas.HeapLines.{heap_line, points_ahead, IsDeadLine, IsObjectLine}
use Rattle.heap_text.proofs.Lemmas.ParseSteps.{object_parsed, dead_parsed}
use Rattle.heap_text.proofs.Lemmas.PartSteps.{accepts_with, dead_token, named, none_some, not_named, object_not_dead, object_token, place_of, some_same, true_not_false}
use Rattle.heap_text.proofs.line_parser.LineParser.parse_heap_line.Goals as goal

pub returns-then-not-is_address : goal.returns-then-not-is_address
returns-then-not-is_address c image rest valid p one =
    let here : ℕ = c.args.self.now.heap.words.len in
    let left : here < heap_words image = omega (arith, c.if-here-self.false, c.len-here.ensures, p.len) in
    let few : here < 2 ^ 64 = omega (arith, left, valid.limits.few_words) in
    let next : IsDeadLine image here p.todo c.args.line.now rest ⊎ IsObjectLine image here p.todo c.args.line.now rest =
    heap_line image valid here p.todo c.args.line.now rest p.ahead left (points_ahead image valid c.args.self.now.heap.live.items p.todo p.live) one p.rest in
    let place : c.of.result.0.now ≡ 64 ∷ decimal here = elim next [
      | inl d ↦ (place_of here c.args.line.now (codes "dead") (number_text (length d.ws) ++ dead_part d.ws) c.of.result.0.now c.of.result.1.rest.now few d.line_is c.of.ensures.split).0
      | inr o ↦ (place_of here c.args.line.now (codes "object") (number_text (1 + (length o.refs + length o.others)) ++ (references_part o.refs ++ data_part o.others)) c.of.result.0.now c.of.result.1.rest.now few o.line_is c.of.ensures.split).0
    ] in
    true_not_false (sym (c.is_address.ensures (place ∙ ap (λ (k : ℕ). 64 ∷ decimal k) (sym c.len-here.ensures))) ∙ c.if-not-is_address.true)

pub returns-in_default : goal.returns-in_default
returns-in_default c image rest valid p one =
    let here : ℕ = c.args.self.now.heap.words.len in
    let left : here < heap_words image = omega (arith, c.if-here-self.false, c.len-here.ensures, p.len) in
    let few : here < 2 ^ 64 = omega (arith, left, valid.limits.few_words) in
    let next : IsDeadLine image here p.todo c.args.line.now rest ⊎ IsObjectLine image here p.todo c.args.line.now rest =
    heap_line image valid here p.todo c.args.line.now rest p.ahead left (points_ahead image valid c.args.self.now.heap.live.items p.todo p.live) one p.rest in
    let none : option_map (λ t. t.now) c.next_token.result ≡ None = rw c.in_default.is refl in
    elim next [
      | inl d ↦ none_some (codes "dead") (sym none ∙ (c.next_token.ensures.some (codes "dead") (number_text (length d.ws) ++ dead_part d.ws) dead_token refl (place_of here c.args.line.now (codes "dead") (number_text (length d.ws) ++ dead_part d.ws) c.of.result.0.now c.of.result.1.rest.now few d.line_is c.of.ensures.split).1).0)
      | inr o ↦ none_some (codes "object") (sym none ∙ (c.next_token.ensures.some (codes "object") (number_text (1 + (length o.refs + length o.others)) ++ (references_part o.refs ++ data_part o.others)) object_token refl (place_of here c.args.line.now (codes "object") (number_text (1 + (length o.refs + length o.others)) ++ (references_part o.refs ++ data_part o.others)) c.of.result.0.now c.of.result.1.rest.now few o.line_is c.of.ensures.split).1).0)
    ]

pub returns-then-eq : goal.returns-then-eq
returns-then-eq c image rest valid p one =
    let here : ℕ = c.args.self.now.heap.words.len in
    let left : here < heap_words image = omega (arith, c.if-here-self.false, c.len-here.ensures, p.len) in
    let few : here < 2 ^ 64 = omega (arith, left, valid.limits.few_words) in
    let next : IsDeadLine image here p.todo c.args.line.now rest ⊎ IsObjectLine image here p.todo c.args.line.now rest =
    heap_line image valid here p.todo c.args.line.now rest p.ahead left (points_ahead image valid c.args.self.now.heap.live.items p.todo p.live) one p.rest in
    elim next [
      | inl d ↦
          let both = c.in-Some.ensures.some (codes "dead") (number_text (length d.ws) ++ dead_part d.ws) dead_token refl (place_of here c.args.line.now (codes "dead") (number_text (length d.ws) ++ dead_part d.ws) c.of.result.0.now c.of.result.1.rest.now few d.line_is c.of.ensures.split).1 in
          absurd (object_not_dead (sym (named c.in-Some.kind.now c.as_slice.result.now (codes "object") c.if-eq.ensures c.as_slice.ensures) ∙ some_same c.in-Some.kind.now (codes "dead") both.0))
      | inr o ↦
          let both = c.in-Some.ensures.some (codes "object") (number_text (1 + (length o.refs + length o.others)) ++ (references_part o.refs ++ data_part o.others)) object_token refl (place_of here c.args.line.now (codes "object") (number_text (1 + (length o.refs + length o.others)) ++ (references_part o.refs ++ data_part o.others)) c.of.result.0.now c.of.result.1.rest.now few o.line_is c.of.ensures.split).1 in
          accepts_with c.parse_object.result _ _ _
          (λ q follows. (c.parse_object.ensures.next, object_parsed image c.args.self.now c.parse_object.new.self (c.args.line.now ++ (10 ∷ rest)) c.args.line.now rest p o q c.parse_object.ensures.len follows))
          (c.parse_object.ensures.accepts o.refs o.others (subst (λ (n : ℕ). AllByRecursion (λ w. w ≤ n) o.refs) (sym p.len) o.refs_fit) o.others_fit both.1 (omega (arith, o.inside, p.len)) o.size_fits o.references_fit)
          c.parse_object.ensures.follows
    ]

pub returns-then-eq-2 : goal.returns-then-eq-2
returns-then-eq-2 c image rest valid p one =
    let here : ℕ = c.args.self.now.heap.words.len in
    let left : here < heap_words image = omega (arith, c.if-here-self.false, c.len-here.ensures, p.len) in
    let few : here < 2 ^ 64 = omega (arith, left, valid.limits.few_words) in
    let next : IsDeadLine image here p.todo c.args.line.now rest ⊎ IsObjectLine image here p.todo c.args.line.now rest =
    heap_line image valid here p.todo c.args.line.now rest p.ahead left (points_ahead image valid c.args.self.now.heap.live.items p.todo p.live) one p.rest in
    elim next [
      | inl d ↦
          let both = c.in-Some.ensures.some (codes "dead") (number_text (length d.ws) ++ dead_part d.ws) dead_token refl (place_of here c.args.line.now (codes "dead") (number_text (length d.ws) ++ dead_part d.ws) c.of.result.0.now c.of.result.1.rest.now few d.line_is c.of.ensures.split).1 in
          let fresh : c.args.self.now.follows_dead_run ≡ false = elim (cases_Bool c.args.self.now.follows_dead_run) [
            | inl after ↦ absurd (let at = p.follows after in let no : ⊥ = omega (arith, at, d.begins) in no)
            | inr none ↦ none
          ] in
          accepts_with c.parse_dead.result _ _ _
          (λ q follows. (c.parse_dead.ensures.next, dead_parsed image c.args.self.now c.parse_dead.new.self (c.args.line.now ++ (10 ∷ rest)) c.args.line.now rest p d q c.parse_dead.ensures.len))
          (c.parse_dead.ensures.accepts d.ws d.fits (omega (arith, d.count, d.begins)) both.1 (omega (arith, d.count, d.inside, p.len)) fresh)
          c.parse_dead.ensures.follows
      | inr o ↦
          let both = c.in-Some.ensures.some (codes "object") (number_text (1 + (length o.refs + length o.others)) ++ (references_part o.refs ++ data_part o.others)) object_token refl (place_of here c.args.line.now (codes "object") (number_text (1 + (length o.refs + length o.others)) ++ (references_part o.refs ++ data_part o.others)) c.of.result.0.now c.of.result.1.rest.now few o.line_is c.of.ensures.split).1 in
          absurd (not_named c.in-Some.kind.now c.as_slice.result.now (codes "object") c.if-eq.ensures c.as_slice.ensures (some_same c.in-Some.kind.now (codes "object") both.0))
    ]

pub returns : goal.returns
returns c image rest valid p one =
    let here : ℕ = c.args.self.now.heap.words.len in
    let left : here < heap_words image = omega (arith, c.if-here-self.false, c.len-here.ensures, p.len) in
    let few : here < 2 ^ 64 = omega (arith, left, valid.limits.few_words) in
    let next : IsDeadLine image here p.todo c.args.line.now rest ⊎ IsObjectLine image here p.todo c.args.line.now rest =
    heap_line image valid here p.todo c.args.line.now rest p.ahead left (points_ahead image valid c.args.self.now.heap.live.items p.todo p.live) one p.rest in
    elim next [
      | inl d ↦
          let both = c.in-Some.ensures.some (codes "dead") (number_text (length d.ws) ++ dead_part d.ws) dead_token refl (place_of here c.args.line.now (codes "dead") (number_text (length d.ws) ++ dead_part d.ws) c.of.result.0.now c.of.result.1.rest.now few d.line_is c.of.ensures.split).1 in
          not_named c.in-Some.kind.now c.as_slice-2.result.now (codes "dead") c.if-eq-2.ensures c.as_slice-2.ensures (some_same c.in-Some.kind.now (codes "dead") both.0)
      | inr o ↦
          let both = c.in-Some.ensures.some (codes "object") (number_text (1 + (length o.refs + length o.others)) ++ (references_part o.refs ++ data_part o.others)) object_token refl (place_of here c.args.line.now (codes "object") (number_text (1 + (length o.refs + length o.others)) ++ (references_part o.refs ++ data_part o.others)) c.of.result.0.now c.of.result.1.rest.now few o.line_is c.of.ensures.split).1 in
          not_named c.in-Some.kind.now c.as_slice.result.now (codes "object") c.if-eq.ensures c.as_slice.ensures (some_same c.in-Some.kind.now (codes "object") both.0)
    ]
