use Rattle.std.proofs.Common.{ℕ, sym, subst, arith}
use Rattle.std.proofs.lemmas.List.{take-replicate}
use Rattle.std.specs.Io.KnownBytes.{Appends}
use Rattle.image_streams.proofs.outlet.give_zeros.Goals as goal

pub returns-then-leave_out_zeros : goal.returns-then-leave_out_zeros
returns-then-leave_out_zeros g c =
    let zeros = c.leave_out_zeros.ensures.zeros c.if-leave_out_zeros.true in
    record {
      zeros = zeros;
      beginning = (c.args.count, subst (λ bytes. Appends (g.W.Outlet.took c.args.writer.now) (g.W.Outlet.took c.leave_out_zeros.new.self) bytes) (sym (take-replicate {X = ℕ} c.args.count c.args.count 0 (omega arith))) zeros);
      failed = c.leave_out_zeros.ensures.failed;
    }
