use Rattle.std.proofs.Common.{◌≡◌, Bool, true, false, [], Ok, refl, sym, ap, ◌∙◌}
use Rattle.std.specs.Prelude.{not}
use Rattle.std.proofs.lemmas.Bool.{both_ways, not-true}
use Rattle.history.specs.Window.{rest_of}
use Rattle.history.proofs.Lemmas.KnownBytes.{consumes_more, consumes_none}
use Rattle.history.proofs.schedule.window.Window.hold_line.Goals as goal

true_of : (b : Bool) → not b ≡ false → b ≡ true
true_of true e = refl
true_of false e = sym e

-- what would make a good answer a bad one did not hold
refuted : (b : Bool) → (b ≡ true → false ≡ true) → b ≡ false
refuted true h = sym (h refl)
refuted false h = refl

pub loop-self-init : goal.loop-self-init
loop-self-init g c = record { in_range = c.requires; same = consumes_none (rest_of c.args.self.now (g.R.Intake.left c.args.source.now)); failed = refl }

pub loop-self-preserved : goal.loop-self-preserved
loop-self-preserved g c =
    let first = rest_of c.args.self.now (g.R.Intake.left c.args.source.now) in
    let before : g.R.Intake.has_failed c.loop-self.source ≡ false = refuted (g.R.Intake.has_failed c.loop-self.source) c.in_ok-take_more.ensures.stays_failed in
    record {
      in_range = c.take_more.ensures.in_range;
      same = consumes_more first (rest_of c.loop-self.self (g.R.Intake.left c.loop-self.source)) (rest_of c.take_more.new.self (g.R.Intake.left c.take_more.new.source)) [] [] c.loop-self.invariant.same c.in_ok-take_more.ensures.same;
      failed = c.in_ok-take_more.ensures.failed ∙ (sym before ∙ c.loop-self.invariant.failed);
    }

pub returns-then-branch-eq0-clause-some : goal.returns-then-branch-eq0-clause-some
returns-then-branch-eq0-clause-some g c = λ e none.
    let f : not c.is_empty.result ≡ true = cc in
    both_ways c.is_empty.result (not-true c.is_empty.result f) (c.is_empty.ensures.1 none)

pub returns-then-branch-eq0-clause-none : goal.returns-then-branch-eq0-clause-none
returns-then-branch-eq0-clause-none g c = λ e.
    let f : not c.is_empty.result ≡ false = cc in
    (c.is_empty.ensures.0 (true_of c.is_empty.result f), c.in_ok-take_more.ensures.end (ap Ok c.if-branch-eq0.true))
