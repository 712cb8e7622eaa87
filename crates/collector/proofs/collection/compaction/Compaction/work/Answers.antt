use Rattle.std.proofs.Common.{◌≡◌, ℕ, length, None, sym, ap, ◌∙◌, subst, arith}
use Rattle.std.specs.Prelude.{All}
use Rattle.collector.specs.Halts.{IsLostTo, MayBeRefused, met_fault}
use Rattle.collector.specs.Rest.{AreFresh, AreStopped, callers_of}
use Rattle.collector.proofs.Lemmas.Failing.{HasFailed, cause_of, front_of}
use Rattle.collector.proofs.Lemmas.Stopping.{all_stopped}
use Rattle.summary.specs.RegionData.{fill_count}
use Rattle.collector.proofs.collection.compaction.Compaction.work.Goals as goal

pub returns-in-Some-clause-fault : goal.returns-in-Some-clause-fault
returns-in-Some-clause-fault g c =
    let may : ℕ → ℕ → Type 0 = g.G.Gate.may_refuse c.args.gate.now in
    let survey = c.args.self.now.shared.survey in
    let fault = c.in-Some.fault in
    let workers = c.args.self.now.workers in
    let before = c.as_mut_slice.result.now in
    let after = c.work_all.new.workers in
    let count : length before ≡ workers.len = ap length c.as_mut_slice.ensures.value ∙ sym workers.ok.0 in
    let kept : length after ≡ length before = c.work_all.auto.workers in
    let own : workers.len ≡ length after = omega (arith, kept, count) in
    let lowest = c.in-Some.ensures.lowest in
    let met : HasFailed c.as_slice.result.now fault = (lowest.0, lowest.1, lowest.2, lowest.3, lowest.4) in
    let failed = subst (λ ws. HasFailed ws fault) (c.as_slice.ensures.value ∙ front_of workers.len after _ own) met in
    subst (λ (n : ℕ). IsLostTo may n survey fault) count
    (cause_of (λ r. MayBeRefused (λ k. may k r) (length before)) (fill_count survey) after fault c.work_all.ensures.early failed)

pub returns-in-None-clause-stopped : goal.returns-in-None-clause-stopped
returns-in-None-clause-stopped g c =
    let board = g.D.HasBoard.keeps c.args.self.now.shared.desk in
    let regions : ℕ = fill_count c.args.self.now.shared.survey in
    let workers = c.args.self.now.workers in
    let before = c.as_mut_slice.result.now in
    let after = c.work_all.new.workers in
    let count : length before ≡ workers.len = ap length c.as_mut_slice.ensures.value ∙ sym workers.ok.0 in
    let kept : length after ≡ length before = c.work_all.auto.workers in
    let own : workers.len ≡ length after = omega (arith, kept, count) in
    let whole = front_of workers.len after _ own in
    let none : All (λ w. met_fault w.result ≡ None) after = subst (All (λ w. met_fault w.result ≡ None)) (c.as_slice.ensures.value ∙ whole) c.in-None.ensures.none in
    let begun : AreFresh (callers_of before) = subst (λ ws. AreFresh (callers_of ws)) (sym c.as_mut_slice.ensures.value) c.requires.fresh in
    let stopped : AreStopped board regions after = all_stopped board regions before after kept c.work_all.ensures.ends none begun in
    subst (AreStopped board regions) (sym whole) stopped
