-- What two workers did together.
use Rattle.std.proofs.Common.{◌≡◌, ℕ, zero, suc, ◌+◌, ◌<◌, Bool, true, false, cond, List, [], ◌∷◌, refl, sym, ap, ◌∙◌, inl, inr, ◌⊎◌, arith}
use Rattle.std.specs.Prelude.{◌==◌, ◌++◌, count_by}
use Rattle.std.proofs.lemmas.List.Sums.{sum_by-cons}
use Rattle.scheduler.specs.declared.entry.Entry.{Entry}
use Rattle.scheduler.specs.MoveTable.{MoveTable, region_count}
use Rattle.scheduler.specs.State.{State, opening, state_after}
use Rattle.scheduler.specs.History.{AreSteps, IsLegal, calls_by, is_grant}
use Rattle.board_sweep.specs.declared.tally.Tally.{Tally}
use Rattle.board_sweep.specs.Tallies.{AreTallies, claims_in, completions_in, completes}
use Rattle.board_sweep.specs.Report.{lines_of, sweep_line}

-- the first or the second
either : (n : ℕ) → n < 2 → (n ≡ 0) ⊎ (n ≡ 1)
either zero lt = inl refl
either (suc zero) lt = inr refl
either (suc (suc n)) lt = absurd (omega arith)

-- the calls of a history of two workers are those of the one and those of the other
pub calls-of_two : (m : MoveTable) (p : Entry → Bool) (now : State) (log : List Entry) → AreSteps m 2 now log
    → count_by p log ≡ count_by p (calls_by 0 log) + count_by p (calls_by 1 log)
calls-of_two m p now [] steps = refl
calls-of_two m p now (e ∷ es) steps = go (calls-of_two m p (state_after now e.worker e.event e.reply) es steps.2) (either e.worker steps.0)
  where
    whole : count_by p (e ∷ es) ≡ cond {A = ℕ} (p e) 1 0 + count_by p es
    whole = sum_by-cons (λ x. cond (p x) 1 0) e es

    one : (w : ℕ) → (e.worker == w) ≡ true → count_by p (calls_by w (e ∷ es)) ≡ cond {A = ℕ} (p e) 1 0 + count_by p (calls_by w es)
    one w is = ap (λ (t : Bool). count_by p (cond t (e ∷ calls_by w es) (calls_by w es))) is ∙ sum_by-cons (λ x. cond (p x) 1 0) e (calls_by w es)

    none : (w : ℕ) → (e.worker == w) ≡ false → count_by p (calls_by w (e ∷ es)) ≡ count_by p (calls_by w es)
    none w is = ap (λ (t : Bool). count_by p (cond t (e ∷ calls_by w es) (calls_by w es))) is

    sums : (x a b c d k : ℕ) → x ≡ k + a → a ≡ b + c → d ≡ k + b → x ≡ d + c
    sums x a b c d k e1 e2 e3 = omega arith

    sums' : (x a b c d k : ℕ) → x ≡ k + a → a ≡ b + c → d ≡ k + c → x ≡ b + d
    sums' x a b c d k e1 e2 e3 = omega arith

    go : count_by p es ≡ count_by p (calls_by 0 es) + count_by p (calls_by 1 es) → (e.worker ≡ 0) ⊎ (e.worker ≡ 1) → count_by p (e ∷ es) ≡ count_by p (calls_by 0 (e ∷ es)) + count_by p (calls_by 1 (e ∷ es))
    go tail (inl z) = sums (count_by p (e ∷ es)) (count_by p es) (count_by p (calls_by 0 es)) (count_by p (calls_by 1 es)) (count_by p (calls_by 0 (e ∷ es))) (cond {A = ℕ} (p e) 1 0) whole tail (one 0 (ap (λ (n : ℕ). n == 0) z))
        ∙ ap (λ (n : ℕ). count_by p (calls_by 0 (e ∷ es)) + n) (sym (none 1 (ap (λ (n : ℕ). n == 1) z)))
    go tail (inr z) = sums' (count_by p (e ∷ es)) (count_by p es) (count_by p (calls_by 0 es)) (count_by p (calls_by 1 es)) (count_by p (calls_by 1 (e ∷ es))) (cond {A = ℕ} (p e) 1 0) whole tail (one 1 (ap (λ (n : ℕ). n == 1) z))
        ∙ ap (λ (n : ℕ). n + count_by p (calls_by 1 (e ∷ es))) (sym (none 0 (ap (λ (n : ℕ). n == 0) z)))

-- the same counts make the same lines
pub same-lines : (n : ℕ) (claims claims' completions completions' : ℕ → ℕ) → ((r : ℕ) → r < n → claims r ≡ claims' r) → ((r : ℕ) → r < n → completions r ≡ completions' r)
    → lines_of n claims completions ≡ lines_of n claims' completions'
same-lines zero claims claims' completions completions' one other = refl
same-lines (suc n) claims claims' completions completions' one other =
    let before = same-lines n claims claims' completions completions' (λ r lt. one r (omega arith)) (λ r lt. other r (omega arith)) in
    λ j. before j ++ sweep_line n (one n (omega arith) j) (other n (omega arith) j)

-- the lines by the tallies of both are those by the counts of the history
pub lines-of_both : (m : MoveTable) (log one other : List Entry) (first second : List Tally) → IsLegal m 2 log → calls_by 0 log ≡ one → calls_by 1 log ≡ other
    → AreTallies (region_count m) one first → AreTallies (region_count m) other second
    → lines_of (region_count m) (λ r. claims_in first r + claims_in second r) (λ r. completions_in first r + completions_in second r)
    ≡ lines_of (region_count m) (λ r. count_by (is_grant r) log) (λ r. count_by (completes r) log)
lines-of_both m log one other first second legal is_one is_other told_one told_other =
    same-lines (region_count m) (λ r. claims_in first r + claims_in second r) (λ r. count_by (is_grant r) log) (λ r. completions_in first r + completions_in second r) (λ r. count_by (completes r) log)
    (λ r lt. together (is_grant r) (told_one.claims r lt) (told_other.claims r lt))
    (λ r lt. together (completes r) (told_one.completions r lt) (told_other.completions r lt))
  where
    together : (p : Entry → Bool) {a b : ℕ} → a ≡ count_by p one → b ≡ count_by p other → a + b ≡ count_by p log
    together p {a} {b} is_a is_b =
        let all : count_by p log ≡ count_by p (calls_by 0 log) + count_by p (calls_by 1 log) = calls-of_two m p opening log legal in
        let x : count_by p (calls_by 0 log) ≡ count_by p one = ap (count_by p) is_one in
        let y : count_by p (calls_by 1 log) ≡ count_by p other = ap (count_by p) is_other in
        omega arith
