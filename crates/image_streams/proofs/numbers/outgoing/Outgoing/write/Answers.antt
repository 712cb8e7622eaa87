use Rattle.std.proofs.Common.{◌≡◌, ◌≤◌, ◌+◌, ◌-◌, ◌++◌, [], length, take, drop, sym, ◌∙◌, ap, subst, arith}
use Rattle.std.proofs.lemmas.List.{append-nil, take-take}
use Rattle.std.proofs.lemmas.Result.{err_from_is_err_and}
use Rattle.image_streams.specs.Numbers.{numbers}
use Rattle.image_streams.specs.Outgoing.{unsent_bytes, Sends, TakesBeginning}
use Rattle.image_streams.proofs.Lemmas.Pieces.{length_of_piece}
use Rattle.image_streams.proofs.Lemmas.Sending.{sends_more, sends_held, beginning_of_first, beginning_after, numbers_split, numbers_more}
use Rattle.image_streams.proofs.numbers.outgoing.Outgoing.write.Goals as goal

pub returns-in_err-make_room-clause-beginning : goal.returns-in_err-make_room-clause-beginning
returns-in_err-make_room-clause-beginning g c =
    let p = err_from_is_err_and c.from_residual.result c.from_residual.ensures.1 in
    let words = c.args.words.now in
    let done = c.loop-done.done in
    let start = g.W.Outlet.took c.args.writer.now in
    let middle = g.W.Outlet.took c.loop-done.writer in
    let end = g.W.Outlet.took c.make_room.new.writer in
    let more = beginning_of_first middle end (unsent_bytes c.loop-done.self) (numbers (drop done words)) c.in_err-make_room.ensures.beginning in
    let all = beginning_after start middle end (unsent_bytes c.args.self.now) (unsent_bytes c.loop-done.self) (numbers (take done words)) (numbers (drop done words)) c.loop-done.invariant.sent more in
    rw (p.1) (subst (λ bytes. TakesBeginning start end (unsent_bytes c.args.self.now ++ bytes)) (sym (numbers_split words done)) all)

pub loop-done-preserved : goal.loop-done-preserved
loop-done-preserved g c =
    let words = c.args.words.now in
    let done = c.loop-done.done in
    let n = c.buffer-done.result in
    let so_far = c.loop-done.invariant in
    let start = g.W.Outlet.took c.args.writer.now in
    let middle = g.W.Outlet.took c.loop-done.writer in
    let end = g.W.Outlet.took c.make_room.new.writer in
    let held = unsent_bytes c.args.self.now in
    let inside : n ≤ length words - done = length_of_piece words done n c.buffer-done.ensures.within in
    let piece : take n (take (length words - done) (drop done words)) ≡ take n (drop done words) = take-take n (length words - done) (drop done words) inside in
    let roomy = sends_more start middle end held (unsent_bytes c.loop-done.self) (unsent_bytes c.make_room.new.self) (numbers (take done words)) [] so_far.sent c.in_ok-make_room.ensures.bytes in
    let more = sends_held start end held (unsent_bytes c.make_room.new.self) (unsent_bytes c.buffer-done.new.self) (numbers (take done words) ++ []) (numbers (take n (take (length words - done) (drop done words)))) roomy c.buffer-done.ensures.bytes in
    let grown : (numbers (take done words) ++ []) ++ numbers (take n (take (length words - done) (drop done words))) ≡ numbers (take (done + n) words) =
    ap (λ l. l ++ numbers (take n (take (length words - done) (drop done words)))) (append-nil (numbers (take done words))) ∙ ap (λ l. numbers (take done words) ++ numbers l) piece ∙ sym (numbers_more words done n) in
    record {
      within = let w = so_far.within in omega arith;
      room = c.buffer-done.ensures.room;
      sent = subst (λ bytes. Sends start end held (unsent_bytes c.buffer-done.new.self) bytes) grown more;
      failed = c.in_ok-make_room.ensures.failed ∙ so_far.failed;
    }
