use Rattle.std.proofs.Common.{◌≡◌, ◌<◌, [], ◌∷◌, ◌++◌, sym, subst, rules}
use Rattle.scheduler.specs.Book.{BookView}
use Rattle.scheduler.specs.Schedule.{line_of}
use Rattle.scheduler.specs.Scheduler.{state_in}
use Rattle.scheduler.specs.declared.entry.Entry.{Entry}
use Rattle.scheduler.proofs.Lemmas.Books.{IsApplied, applied, step_fits}
use Rattle.scheduler.proofs.Lemmas.SmallLines.{line_small}
use Rattle.scheduler.proofs.scheduler.book.Book.apply.Goals as goal

pub invariant_of-self-2 : goal.invariant_of-self-2
invariant_of-self-2 c =
    let few : c.args.worker < c.self.inside.scheduler.workers = subst (λ (b : BookView). c.args.worker < b.workers) (sym c.self.view_is) c.requires in
    let e : Entry = record { worker = c.args.worker; event = c.args.event; reply = c.in_ok-reply.reply } in
    let items : c.push.new.self.items ≡ c.self.inside.lines.items ++ line_of e ∷ [] = (let a = c.in_ok-push.ensures.items in let b = c.in_ok-reserve.ensures.items in let d = c.of.ensures in Prim.search rules) in
    let all : IsApplied c.self.inside.scheduler c.step.new.self c.self.inside.lines.items c.push.new.self.items e = applied c.self.inside.scheduler c.step.new.self c.self.inside.lines.items c.push.new.self.items e items c.self.invariant few c.in_ok-reply.ensures.moves c.in_ok-reply.ensures.workers c.in_ok-reply.ensures.ok in
    all.kept

pub returns-clause-ok : goal.returns-clause-ok
returns-clause-ok c =
    let few : c.args.worker < c.self.inside.scheduler.workers = subst (λ (b : BookView). c.args.worker < b.workers) (sym c.self.view_is) c.requires in
    let e : Entry = record { worker = c.args.worker; event = c.args.event; reply = c.in_ok-reply.reply } in
    let items : c.push.new.self.items ≡ c.self.inside.lines.items ++ line_of e ∷ [] = (let a = c.in_ok-push.ensures.items in let b = c.in_ok-reserve.ensures.items in let d = c.of.ensures in Prim.search rules) in
    let all : IsApplied c.self.inside.scheduler c.step.new.self c.self.inside.lines.items c.push.new.self.items e = applied c.self.inside.scheduler c.step.new.self c.self.inside.lines.items c.push.new.self.items e items c.self.invariant few c.in_ok-reply.ensures.moves c.in_ok-reply.ensures.workers c.in_ok-reply.ensures.ok in
    rw (← c.self.view_is) all.view

pub returns-clause-step : goal.returns-clause-step
returns-clause-step c =
    let few : c.args.worker < c.self.inside.scheduler.workers = subst (λ (b : BookView). c.args.worker < b.workers) (sym c.self.view_is) c.requires in
    let e : Entry = record { worker = c.args.worker; event = c.args.event; reply = c.in_ok-reply.reply } in
    let items : c.push.new.self.items ≡ c.self.inside.lines.items ++ line_of e ∷ [] = (let a = c.in_ok-push.ensures.items in let b = c.in_ok-reserve.ensures.items in let d = c.of.ensures in Prim.search rules) in
    let all : IsApplied c.self.inside.scheduler c.step.new.self c.self.inside.lines.items c.push.new.self.items e = applied c.self.inside.scheduler c.step.new.self c.self.inside.lines.items c.push.new.self.items e items c.self.invariant few c.in_ok-reply.ensures.moves c.in_ok-reply.ensures.workers c.in_ok-reply.ensures.ok in
    rw (← c.self.view_is) all.step

pub returns-clause-legal : goal.returns-clause-legal
returns-clause-legal c =
    let few : c.args.worker < c.self.inside.scheduler.workers = subst (λ (b : BookView). c.args.worker < b.workers) (sym c.self.view_is) c.requires in
    let e : Entry = record { worker = c.args.worker; event = c.args.event; reply = c.in_ok-reply.reply } in
    let items : c.push.new.self.items ≡ c.self.inside.lines.items ++ line_of e ∷ [] = (let a = c.in_ok-push.ensures.items in let b = c.in_ok-reserve.ensures.items in let d = c.of.ensures in Prim.search rules) in
    let all : IsApplied c.self.inside.scheduler c.step.new.self c.self.inside.lines.items c.push.new.self.items e = applied c.self.inside.scheduler c.step.new.self c.self.inside.lines.items c.push.new.self.items e items c.self.invariant few c.in_ok-reply.ensures.moves c.in_ok-reply.ensures.workers c.in_ok-reply.ensures.ok in
    all.kept.legal

pub of-requires : goal.of-requires
of-requires c =
    let few : c.args.worker < c.self.inside.scheduler.workers = subst (λ (b : BookView). c.args.worker < b.workers) (sym c.self.view_is) c.requires in
    let e : Entry = record { worker = c.args.worker; event = c.args.event; reply = c.in_ok-reply.reply } in
    line_small c.self.inside.scheduler.workers (line_of e) c.self.invariant.few
    (step_fits c.self.inside.scheduler.moves c.self.inside.scheduler.workers (state_in c.self.inside.scheduler) (state_in c.step.new.self) e c.self.invariant.table few c.in_ok-reply.ensures.ok)
