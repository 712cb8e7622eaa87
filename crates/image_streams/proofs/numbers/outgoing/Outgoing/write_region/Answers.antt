use Rattle.std.proofs.Common.{◌*◌, replicate, subst}
use Rattle.std.proofs.lemmas.Result.{err_from_is_err_and, on_ok_weaker}
use Rattle.std.specs.Io.KnownBytes.{Appends}
use Rattle.image_streams.specs.Numbers.{numbers}
use Rattle.image_streams.specs.Outgoing.{unsent_bytes, TakesBeginning}
use Rattle.image_streams.proofs.Lemmas.Sending.{beginning_of_first, on_err_of, sends_zeros, beginning_of_zeros, none_held}
use Rattle.image_streams.proofs.numbers.outgoing.Outgoing.write_region.Goals as goal

pub returns-in_err-flush-clause-beginning : goal.returns-in_err-flush-clause-beginning
returns-in_err-flush-clause-beginning g c =
    let p = err_from_is_err_and c.from_residual.result c.from_residual.ensures.1 in
    rw (p.1) (beginning_of_first (g.W.Outlet.took c.args.writer.now) (g.W.Outlet.took c.flush.new.writer) (unsent_bytes c.args.self.now) (numbers c.args.region.now) c.in_err-flush.ensures.beginning)

pub returns-clause-bytes : goal.returns-clause-bytes
returns-clause-bytes g c =
    let words = c.args.region.now in
    let start = g.W.Outlet.took c.args.writer.now in
    let middle = g.W.Outlet.took c.flush.new.writer in
    let end = g.W.Outlet.took c.give_zeros.new.writer in
    let cleared = c.is_cleared.ensures c.if-not-is_cleared.false in
    let none = none_held c.flush.new.self.end c.flush.new.self.bytes.now c.in_ok-flush.ensures.empty in
    on_ok_weaker c.give_zeros.result (λ zeros. sends_zeros start middle end (unsent_bytes c.args.self.now) (unsent_bytes c.flush.new.self) words c.in_ok-flush.ensures.bytes none cleared (subst (λ n. Appends middle end (replicate (8 * n) 0)) c.len.ensures.value zeros)) c.give_zeros.ensures.zeros

pub returns-clause-beginning : goal.returns-clause-beginning
returns-clause-beginning g c =
    let words = c.args.region.now in
    let start = g.W.Outlet.took c.args.writer.now in
    let middle = g.W.Outlet.took c.flush.new.writer in
    let end = g.W.Outlet.took c.give_zeros.new.writer in
    let cleared = c.is_cleared.ensures c.if-not-is_cleared.false in
    let begun = subst (λ n. TakesBeginning middle end (replicate (8 * n) 0)) c.len.ensures.value c.give_zeros.ensures.beginning in
    on_err_of c.give_zeros.result (beginning_of_zeros start middle end (unsent_bytes c.args.self.now) words c.in_ok-flush.ensures.bytes cleared begun)
