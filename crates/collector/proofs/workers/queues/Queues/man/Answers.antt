use Rattle.std.proofs.Common.{◌≡◌, List, [], ◌++◌, map, reverse, length, Err, None, refl, sym, ap, subst, ◌∙◌, append-nil, arith}
use Rattle.std.specs.Prelude.{All}
use Rattle.std.proofs.lemmas.List.{map-append}
use Rattle.std.proofs.lemmas.List.Elements.{All-push}
use mathlib.Core.List.{reverse-reverse}
use Rattle.claim_board.specs.declared.pass.Pass.{Pass}
use Rattle.collector.specs.declared.workers.worker.Worker.{Worker}
use Rattle.collector.specs.declared.workers.end.End.TheVariants.{Stopped}
use Rattle.collector.proofs.Lemmas.Reversals.{taken_next, empty_list}
use Rattle.collector.proofs.workers.queues.Queues.man.Goals as goal

pub loop-pass-init : goal.loop-pass-init
loop-pass-init c =
    let room = c.args.self.room in
    let none : room.items ≡ [] = c.args.self.empty.0 in
    record {
      workers = ap (λ (ws : List Worker). map (λ w. w.seat.pass) ws ++ reverse c.reverse-2.new.self.items) none ∙ (ap reverse c.reverse-2.ensures.items ∙ reverse-reverse c.args.passes.items);
      queues = omega (arith, c.reverse.ensures.len, c.reverse-2.ensures.len, c.requires.all);
      count = omega (arith, c.reverse-2.ensures.len, room.ok.0, ap (λ (ws : List Worker). length ws) none);
      room = omega (arith, c.args.self.roomy.0, c.requires.all);
      idle = λ k d below. absurd (omega (arith, below, ap (λ (ws : List Worker). length ws) none));
    }

pub loop-pass-preserved : goal.loop-pass-preserved
loop-pass-preserved c =
    let i = c.loop-pass.invariant in
    let f : Worker → Pass = λ w. w.seat.pass in
    let IsIdle : Worker → Type 0 = λ w. w.result ≡ Err (Stopped None) in
    let before : List Worker = c.loop-pass.workers.items in
    let front : List Pass = c.pop.new.self.items in
    let more = c.push_reserved.ensures.items in
    record {
      workers = ap (λ (ws : List Worker). map f ws ++ reverse front) more
          ∙ (ap (λ (ps : List Pass). ps ++ reverse front) (map-append f before _)
          ∙ taken_next c.args.passes.items (map f before) front c.in-Some.pass (ap (λ (ps : List Pass). map f before ++ reverse ps) (sym c.in-Some.ensures.items) ∙ i.workers));
      queues = omega (arith, c.in-Some.ensures.cases, c.in-Some-pop.ensures.cases, i.queues);
      count = omega (arith, c.in-Some.ensures.cases, c.push_reserved.ensures.len, i.count);
      room = omega (arith, c.push_reserved.ensures.capacity, i.room);
      idle = subst (All IsIdle) (sym more) (All-push IsIdle before _ i.idle refl);
    }

pub returns-clause-passes : goal.returns-clause-passes
returns-clause-passes c =
    let f : Worker → Pass = λ w. w.seat.pass in
    let all : List Worker = c.loop-pass.workers.items in
    let left = c.loop-pass.passes in
    let none : left.items ≡ [] = empty_list left.items (omega (arith, c.in_default.ensures.cases, left.ok.0)) in
    sym (append-nil (map f all)) ∙ (ap (λ (ps : List Pass). map f all ++ reverse ps) (sym none) ∙ c.loop-pass.invariant.workers)
