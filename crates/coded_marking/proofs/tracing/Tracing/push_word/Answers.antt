use Rattle.std.proofs.Common.{ℕ, ◌+◌, ◌*◌, sym, ◌∙◌, subst, arith}
use Rattle.std.proofs.lemmas.Bool.{false≢true}
use Rattle.coded_marking.proofs.Lemmas.Words.{IsPushing, pushing_first, pushing_past, pushing_next, pushing_all}
use Rattle.coded_marking.proofs.tracing.Tracing.push_word.Goals.{then-has+then-not-has, else-has, else-has-via-then-has+else-not-has, else-has-via-else-has}
use Rattle.coded_marking.proofs.tracing.Tracing.push_word.Goals as goal

pub loop-a-init : goal.loop-a-init
loop-a-init c = pushing_first (64 * c.args.i) c.args.self.now c.requires.steady

pub loop-a-preserved : goal.loop-a-preserved
loop-a-preserved c =
    let first : ℕ = 64 * c.args.i in
    let a : ℕ = c.loop-a.a in
    let t0 = c.args.self.now in
    let t = c.loop-a.self in
    elim c.if-has.branch [
      | then-has+then-not-has w ↦ subst (λ u. IsPushing first (a + 1) t0 u) (sym w.self-is) (pushing_next first a t0 t w.push.new.self (sym w.has-then-has.ensures ∙ w.if-not-has.true) w.push.ensures.steady w.push.ensures.pushes c.loop-a.invariant)
      | else-has w ↦ subst (λ u. IsPushing first (a + 1) t0 u) (sym w.self-is) (elim w.else-has.branch [
        | else-has-via-then-has+else-not-has v ↦ pushing_past first a t0 t (λ h. sym v.has-then-has.ensures ∙ v.if-not-has.false) c.loop-a.invariant
        | else-has-via-else-has v ↦ pushing_past first a t0 t (λ h. absurd (false≢true (sym v.if-has.false ∙ (c.has.ensures ∙ h)))) c.loop-a.invariant
      ])
    ]

pub returns-clause-pushes : goal.returns-clause-pushes
returns-clause-pushes c = pushing_all c.args.i c.loop-a.a c.args.self.now c.loop-a.self (omega arith) c.loop-a.invariant
