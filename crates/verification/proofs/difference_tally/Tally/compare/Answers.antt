use Rattle.std.proofs.Common.{◌≡◌, ℕ, ◌+◌, ◌<◌, ◌≤◌, ◌≢◌, List, [], ◌∷◌, ◌++◌, length, sym, ◌∙◌, ap, subst, arith}
use Rattle.std.specs.Prelude.{Some}
use Rattle.verification.specs.Tally.{IsTally, difference_at}
use Rattle.verification.specs.declared.difference_tally.OtherWord.{OtherWord}
use Rattle.verification.proofs.Lemmas.Tallies.{tally_same, tally_full, tally_more}
use Rattle.verification.proofs.difference_tally.Tally.compare.Goals as goal

pub returns-then-found-expected-clause-tally : goal.returns-then-found-expected-clause-tally
returns-then-found-expected-clause-tally c = λ wanted is w f tally.
    tally_same wanted is c.args.address c.args.self.now.count c.args.self.now.first.items c.args.self.now.last (f ∙ c.if-found-expected.true ∙ sym w) tally

pub returns-in_ok-push-clause-tally : goal.returns-in_ok-push-clause-tally
returns-in_ok-push-clause-tally c = λ wanted is w f tally.
    let p : ℕ = c.args.address in
    let first : List OtherWord = c.args.self.now.first.items in
    let other : is p ≢ wanted p = λ e. c.if-found-expected.false (sym f ∙ e ∙ w) in
    let room : length first < 10 = (let z = c.args.self.now.first.ok in let y = c.len.ensures in let t = c.if-len-lt-LISTED.true in omega arith) in
    let entry : OtherWord = record { address = p; expected = c.args.expected; found = c.args.found } in
    let is_entry : difference_at wanted is p ≡ entry = λ i. record { address = p; expected = w i; found = f i } in
    subst (λ (xs : List OtherWord). IsTally wanted is (p + 1) (c.args.self.now.count + 1) xs (Some p))
    (ap (λ (e : OtherWord). first ++ e ∷ []) is_entry ∙ sym c.in_ok-push.ensures.items)
    (tally_more wanted is p c.args.self.now.count first c.args.self.now.last other room tally)

pub returns-else-len-lt-LISTED-clause-tally : goal.returns-else-len-lt-LISTED-clause-tally
returns-else-len-lt-LISTED-clause-tally c = λ wanted is w f tally.
    let full : 10 ≤ length c.args.self.now.first.items = (let z = c.args.self.now.first.ok in let y = c.len.ensures in let t = c.if-len-lt-LISTED.false in omega arith) in
    tally_full wanted is c.args.address c.args.self.now.count c.args.self.now.first.items c.args.self.now.last (λ e. c.if-found-expected.false (sym f ∙ e ∙ w)) full tally
