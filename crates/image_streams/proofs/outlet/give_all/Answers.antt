use Rattle.std.proofs.Common.{length, ◌-◌, ◌≡◌, ◌≤◌, take, drop, false, sym, ◌∙◌, subst, arith}
use Rattle.std.specs.Io.KnownBytes.{Appends}
use Rattle.image_streams.proofs.Lemmas.Known.{appends_more, refuted}
use Rattle.image_streams.proofs.Lemmas.Pieces.{take_piece, length_of_piece}
use Rattle.image_streams.proofs.outlet.give_all.Goals as goal

pub loop-given-preserved : goal.loop-given-preserved
loop-given-preserved g c =
    let bytes = c.args.bytes.now in
    let given = c.loop-given.given in
    let n = c.in_ok-given.field-0 in
    let within = c.in_ok-given.ensures.within in
    let inside : n ≤ length bytes - given = length_of_piece bytes given n within in
    let before : g.W.Outlet.has_failed c.loop-given.writer ≡ false = refuted (g.W.Outlet.has_failed c.loop-given.writer) c.in_ok-given.ensures.stays_failed in
    let start : g.W.Outlet.has_failed c.args.writer.now ≡ false = sym c.loop-given.invariant.failed ∙ before in
    record {
      within = omega (arith, inside);
      bytes = subst (λ taken. Appends (g.W.Outlet.took c.args.writer.now) (g.W.Outlet.took c.give.new.self) taken) (sym (take_piece bytes given n c.loop-given.invariant.within inside)) (appends_more (g.W.Outlet.took c.args.writer.now) (g.W.Outlet.took c.loop-given.writer) (g.W.Outlet.took c.give.new.self) (take given bytes) (take n (take (length bytes - given) (drop given bytes))) c.loop-given.invariant.bytes c.in_ok-given.ensures.bytes);
      failed = c.in_ok-given.ensures.failed ∙ sym start;
      fresh = λ _. start;
    }
