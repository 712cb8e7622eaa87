use Rattle.std.proofs.Common.{◌≡◌, ◌+◌, ◌*◌, true, sym, subst}
use Rattle.std.proofs.lemmas.Result.{on_ok_weaker}
use Rattle.object_heap.specs.Bits.{has}
use Rattle.coded_marking.proofs.Lemmas.Drained.{gets_on_word}
use Rattle.coded_marking.proofs.Lemmas.Underway.{underway_word}
use Rattle.coded_marking.proofs.tracing.Tracing.follow_word.Goals as goal

pub returns-clause-goes_on : goal.returns-clause-goes_on
returns-clause-goes_on c = λ roots before u.
    c.drain.ensures.goes_on roots before (64 * (c.args.i + 1)) (underway_word c.args.heap.now roots before c.args.i c.args.self.now c.push_word.new.self c.push_word.ensures.pushes u)

pub returns-clause-keeps : goal.returns-clause-keeps
returns-clause-keeps c = λ b h. c.drain.ensures.keeps b (subst (λ bs. has bs b ≡ true) (sym c.push_word.ensures.pushes.followed) h)

pub returns-clause-gets_on : goal.returns-clause-gets_on
returns-clause-gets_on c = λ complete.
    let t = c.args.self.now in
    let t1 = c.push_word.new.self in
    on_ok_weaker c.drain.result (λ emptied. gets_on_word c.args.i t t1 c.drain.new.self c.requires.steady c.requires.empty complete c.push_word.ensures.steady c.push_word.ensures.pushes c.drain.ensures.words c.drain.ensures.keeps c.drain.ensures.idle emptied) c.drain.ensures.emptied
