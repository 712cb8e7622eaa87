use Rattle.std.proofs.Common.{◌≡◌, ◌∙◌, ◌++◌, ◌<◌, ℕ, List, [], ap, sym, subst, length, get_or, take, drop, ◌≢◌, append-nil, arith}
use Rattle.heap_text.proofs.Lemmas.TokenSteps.{space_ends, no_space, take_token, drop_token}
use Rattle.heap_text.proofs.line_parser.tokens.split_at_space.Goals as goal

pub returns-then-byte-eq32-clause-split : goal.returns-then-byte-eq32-clause-split
returns-then-byte-eq32-clause-split c token rest t r is =
    let at : c.loop-i.i ≡ length token = space_ends token rest c.loop-i.i t r
    (subst (λ (xs : List ℕ). c.loop-i.i < length xs) is c.loop-i-test.true)
    (subst (λ (xs : List ℕ). (k : ℕ) → k < c.loop-i.i → get_or xs k 0 ≢ 32) is c.loop-i.invariant)
    (subst (λ (xs : List ℕ). get_or xs c.loop-i.i 0 ≡ 32) is c.if-byte-eq32.true) in (
      c.split_at.ensures.front ∙ (ap (λ (n : ℕ). take n c.args.bytes.now) at ∙ (ap (λ (xs : List ℕ). take (length token) xs) is ∙ take_token token rest)),
      c.split_at.ensures.back ∙ (ap (λ (n : ℕ). drop n c.args.bytes.now) at ∙ (ap (λ (xs : List ℕ). drop (length token) xs) is ∙ drop_token token rest)),
    )

pub returns-clause-split : goal.returns-clause-split
returns-clause-split c token rest t r is =
    let none : rest ≡ [] = no_space token rest t r (λ k low. subst (λ (xs : List ℕ). get_or xs k 0 ≢ 32) is (c.loop-i.invariant k (omega (arith, low, ap (λ (xs : List ℕ). length xs) is)))) in
    (is ∙ (ap (λ (xs : List ℕ). token ++ xs) none ∙ append-nil token), sym none)
