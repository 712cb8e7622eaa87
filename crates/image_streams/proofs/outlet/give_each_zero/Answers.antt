use Rattle.std.proofs.Common.{rules, ◌≡◌, ℕ, ◌-◌, ◌≤◌, ◌++◌, [], length, take, replicate, false, sym, ◌∙◌, ap, subst, arith}
use Rattle.std.proofs.lemmas.List.{append-nil, length-replicate, take-replicate, replicate-append-replicate}
use Rattle.std.specs.Io.KnownBytes.{Appends}
use Rattle.image_streams.proofs.Lemmas.Known.{appends_kept, appends_more, refuted}
use Rattle.image_streams.proofs.outlet.give_each_zero.Goals as goal

-- a piece of the zeros that are at hand has as many
short : (n m : ℕ) → m ≤ 65536 → n ≤ length (take m (replicate {A = ℕ} 65536 0)) → n ≤ m
short n m most within =
    let e = ap length (take-replicate {X = ℕ} m 65536 0 most) ∙ length-replicate {A = ℕ} m 0 in
    omega (arith, e, within)

zeros : (n m : ℕ) → m ≤ 65536 → n ≤ m → take n (take m (replicate {A = ℕ} 65536 0)) ≡ replicate n 0
zeros n m most within = ap (take n) (take-replicate m 65536 0 most) ∙ take-replicate n m 0 within

pub returns-in_err-given : goal.returns-in_err-given
returns-in_err-given g c =
    let given = c.loop-given.given in
    let within = c.loop-given.invariant.within in
    let so_far = c.loop-given.invariant.zeros in
    let kept = appends_kept (g.W.Outlet.took c.loop-given.writer) (g.W.Outlet.took c.give.new.self) c.in_err-given.ensures.bytes in
    let all = appends_more (g.W.Outlet.took c.args.writer.now) (g.W.Outlet.took c.loop-given.writer) (g.W.Outlet.took c.give.new.self) (replicate given 0) [] so_far kept in
    record {
      zeros = search rules;
      beginning = (given, subst (λ bytes. Appends (g.W.Outlet.took c.args.writer.now) (g.W.Outlet.took c.give.new.self) bytes) (append-nil (replicate given 0) ∙ sym (take-replicate given c.args.count 0 within)) all);
      failed = search rules;
    }

pub loop-given-preserved : goal.loop-given-preserved
loop-given-preserved g c =
    let given = c.loop-given.given in
    let n = c.in_ok-given.field-0 in
    let m = c.min.result in
    let is = c.min.ensures in
    let so_far = c.loop-given.invariant in
    let most : m ≤ 65536 = omega (arith, is) in
    let left : m ≤ c.args.count - given = omega (arith, is) in
    let inside : n ≤ m = short n m most c.in_ok-given.ensures.within in
    let before : g.W.Outlet.has_failed c.loop-given.writer ≡ false = refuted (g.W.Outlet.has_failed c.loop-given.writer) c.in_ok-given.ensures.stays_failed in
    let start : g.W.Outlet.has_failed c.args.writer.now ≡ false = sym so_far.failed ∙ before in
    let all = appends_more (g.W.Outlet.took c.args.writer.now) (g.W.Outlet.took c.loop-given.writer) (g.W.Outlet.took c.give.new.self) (replicate given 0) (take n (take m (replicate 65536 0))) so_far.zeros c.in_ok-given.ensures.bytes in
    record {
      within = let w = so_far.within in omega (arith, inside, left, w);
      zeros = subst (λ bytes. Appends (g.W.Outlet.took c.args.writer.now) (g.W.Outlet.took c.give.new.self) bytes) (ap (λ bytes. replicate given 0 ++ bytes) (zeros n m most inside) ∙ replicate-append-replicate given n 0) all;
      failed = c.in_ok-given.ensures.failed ∙ sym start;
      fresh = λ _. start;
    }

pub returns : goal.returns
returns g c =
    let so_far = c.loop-given.invariant in
    let within = so_far.within in
    let last = c.loop-given-test.false in
    let all : c.loop-given.given ≡ c.args.count = omega arith in
    let start = g.W.Outlet.took c.args.writer.now in
    let end = g.W.Outlet.took c.loop-given.writer in
    record {
      zeros = subst (λ n. Appends start end (replicate n 0)) all so_far.zeros;
      beginning = (c.loop-given.given, subst (λ bytes. Appends start end bytes) (sym (take-replicate c.loop-given.given c.args.count 0 within)) so_far.zeros);
      failed = so_far.failed;
    }
