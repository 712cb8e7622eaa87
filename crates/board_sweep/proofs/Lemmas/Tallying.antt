-- How calls add up in tallies.
use Rattle.std.proofs.Common.{◌≡◌, ℕ, ◌+◌, Bool, true, false, cond, List, [], ◌∷◌, refl, ap, ◌∙◌, arith}
use Rattle.std.specs.Prelude.{◌==◌, ◌++◌, count_by}
use Rattle.std.proofs.lemmas.List.Sums.{sum_by-append}
use Rattle.scheduler.specs.declared.event.Event.TheVariants.{Claim, Drain, Complete, Settle}
use Rattle.scheduler.specs.declared.reply.Reply.{Reply}
use Rattle.scheduler.specs.declared.reply.Reply.TheVariants.{Yes, No}
use Rattle.scheduler.specs.declared.entry.Entry.{Entry}
use Rattle.scheduler.specs.History.{entry, is_grant}
use Rattle.board_sweep.specs.declared.tally.Tally.{Tally}
use Rattle.board_sweep.specs.Tallies.{Adds, completes, none}

abbrev pub tally : ℕ → ℕ → Tally
tally claims completions = record { claims = claims; completions = completions }

one-more : (p : Entry → Bool) (log : List Entry) (e : Entry) → count_by p (log ++ e ∷ []) ≡ count_by p log + cond {A = ℕ} (p e) 1 0
one-more p log e =
    let appended : count_by p (log ++ e ∷ []) ≡ count_by p log + (0 + cond {A = ℕ} (p e) 1 0) = sum_by-append (λ x. cond (p x) 1 0) log (e ∷ []) in
    omega arith

zeros : (b : Bool) → 0 ≡ cond {A = ℕ} b 0 0
zeros true = refl
zeros false = refl

sums : (b : Bool) (x y : ℕ) → cond {A = ℕ} b x 0 + cond {A = ℕ} b y 0 ≡ cond {A = ℕ} b (x + y) 0
sums true x y = refl
sums false x y = refl

-- one call more, of which this is known
adds-entry : (region : ℕ) (t : Tally) (e : Entry) (old new : List Entry) → new ≡ old ++ e ∷ []
    → ((r : ℕ) → cond {A = ℕ} (is_grant r e) 1 0 ≡ cond {A = ℕ} (r == region) t.claims 0)
    → ((r : ℕ) → cond {A = ℕ} (completes r e) 1 0 ≡ cond {A = ℕ} (r == region) t.completions 0)
    → Adds region t old new
adds-entry region t e old new is claims completions = record {
  claims = λ r. ap (count_by (is_grant r)) is ∙ (one-more (is_grant r) old e ∙ ap (λ (n : ℕ). count_by (is_grant r) old + n) (claims r));
  completions = λ r. ap (count_by (completes r)) is ∙ (one-more (completes r) old e ∙ ap (λ (n : ℕ). count_by (completes r) old + n) (completions r));
}

pub adds-granted : (region w : ℕ) (old new : List Entry) → new ≡ old ++ entry w (Claim region) Yes ∷ [] → Adds region (tally 1 0) old new
adds-granted region w old new is = adds-entry region (tally 1 0) (entry w (Claim region) Yes) old new is (λ r. refl) (λ r. zeros (r == region))

pub adds-refused : (region w : ℕ) (old new : List Entry) → new ≡ old ++ entry w (Claim region) No ∷ [] → Adds region none old new
adds-refused region w old new is = adds-entry region none (entry w (Claim region) No) old new is (λ r. zeros (r == region)) (λ r. zeros (r == region))

pub adds-drain : (region w d s : ℕ) (reply : Reply) (old new : List Entry) → new ≡ old ++ entry w (Drain d s) reply ∷ [] → Adds region none old new
adds-drain region w d s reply old new is = adds-entry region none (entry w (Drain d s) reply) old new is (λ r. zeros (r == region)) (λ r. zeros (r == region))

pub adds-completion : (region w : ℕ) (reply : Reply) (old new : List Entry) → new ≡ old ++ entry w (Complete region) reply ∷ [] → Adds region (tally 0 1) old new
adds-completion region w reply old new is = adds-entry region (tally 0 1) (entry w (Complete region) reply) old new is (λ r. zeros (r == region)) (λ r. refl)

pub adds-settling : (region w d : ℕ) (reply : Reply) (old new : List Entry) → new ≡ old ++ entry w (Settle d) reply ∷ [] → Adds region none old new
adds-settling region w d reply old new is = adds-entry region none (entry w (Settle d) reply) old new is (λ r. zeros (r == region)) (λ r. zeros (r == region))

-- no call
pub adds-nothing : (region : ℕ) (log : List Entry) → Adds region none log log
adds-nothing region log = record {
  claims = λ r. same (count_by (is_grant r) log) (zeros (r == region));
  completions = λ r. same (count_by (completes r) log) (zeros (r == region));
}
  where
    same : (n : ℕ) {k : ℕ} → 0 ≡ k → n ≡ n + k
    same n none = omega arith

-- what was added, and then added again
pub adds-both : (region : ℕ) (s t : Tally) (old mid new : List Entry) → Adds region s old mid → Adds region t mid new
    → Adds region (tally (s.claims + t.claims) (s.completions + t.completions)) old new
adds-both region s t old mid new first second = record {
  claims = λ r.
      let a = first.claims r in let b = second.claims r in let sum = sums (r == region) s.claims t.claims in
      b ∙ (ap (λ (n : ℕ). n + cond {A = ℕ} (r == region) t.claims 0) a ∙ (assoc (count_by (is_grant r) old) (cond {A = ℕ} (r == region) s.claims 0) (cond {A = ℕ} (r == region) t.claims 0) ∙ ap (λ (n : ℕ). count_by (is_grant r) old + n) sum));
  completions = λ r.
      let a = first.completions r in let b = second.completions r in let sum = sums (r == region) s.completions t.completions in
      b ∙ (ap (λ (n : ℕ). n + cond {A = ℕ} (r == region) t.completions 0) a ∙ (assoc (count_by (completes r) old) (cond {A = ℕ} (r == region) s.completions 0) (cond {A = ℕ} (r == region) t.completions 0) ∙ ap (λ (n : ℕ). count_by (completes r) old + n) sum));
}
  where
    assoc : (x y z : ℕ) → x + y + z ≡ x + (y + z)
    assoc x y z = omega arith
