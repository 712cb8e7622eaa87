use Rattle.std.proofs.Common.{◌≡◌, ℕ, ◌+◌, ◌<◌, List, [], length, get_or, sym, ap, ◌∙◌, subst, arith}
use Rattle.std.proofs.lemmas.List.{length-set}
use Rattle.std.proofs.lemmas.List.Elements.{All-set}
use Rattle.scheduler.specs.History.{BeginsWith, calls_by}
use Rattle.claim_board.specs.declared.pass.Pass.{Pass}
use Rattle.claim_board.specs.Boards.{board_of, worker, seen, mine, held}
use Rattle.claim_board.specs.RegionBoards.{identity}
use Rattle.collector.specs.declared.workers.worker.Worker.{Worker}
use Rattle.collector.proofs.Lemmas.Rest.{calls_begin, begins_all, begins_self}
use Rattle.collector.proofs.Lemmas.Meeting.{placed, same_set, same_all}
use Rattle.collector.proofs.workers.fill_left.meet_all.Goals as goal

pub loop-other-preserved : goal.loop-other-preserved
loop-other-preserved c =
    let i : ℕ = c.loop-other.other-index in
    let h = c.loop-other.invariant in
    let all : List Worker = c.loop-other.others in
    let item : Worker = c.other-item.result in
    let old : Worker = get_or all i item in
    let new : Worker = record old { seat = record old.seat { pass = c.meet.new.b } } in
    let pass : Pass = c.meet.new.a in
    let m = c.meet.ensures in
    let inside : i < length all = omega (arith, c.loop-other-test.true, h.long) in
    let number : worker new.seat.pass ≡ worker old.seat.pass = m.stay.1.1 in
    let calls : mine new.seat.pass ≡ mine old.seat.pass = m.stay.1.2 in
    let own : calls_by (worker new.seat.pass) (seen pass) ≡ mine new.seat.pass = ap (λ (k : ℕ). calls_by k (seen pass)) m.stay.1.1 ∙ m.calls.1 ∙ sym m.stay.1.2 in
    let IsHeard : ℕ → Worker → Type 0 = λ k w. k < i + 1 → BeginsWith (calls_by (worker w.seat.pass) (seen pass)) (mine w.seat.pass) in
    record {
      board = m.stay.0.0 ∙ h.board;
      held = m.held.0 ∙ h.held;
      seats = All-set (λ (w : Worker). board_of w.seat.pass ≡ identity c.args.board.now) all i new (m.stay.1.0 ∙ h.seats i item inside) h.seats;
      bare = All-set (λ (w : Worker). held w.seat.pass ≡ []) all i new (m.held.1 ∙ h.bare i item inside) h.bare;
      stays = (m.stay.0.0 ∙ h.stays.0, m.stay.0.1 ∙ h.stays.1, m.stay.0.2 ∙ h.stays.2);
      longer = begins_all (seen c.args.pass.now) (seen c.loop-other.pass) (seen pass) m.begins.0 h.longer;
      same = same_all _ _ _ h.same (same_set all i new item inside number calls);
      long = length-set all i new ∙ h.long;
      heard = λ k w below.
          placed IsHeard all i new k w inside (λ _. subst (BeginsWith (calls_by (worker new.seat.pass) (seen pass))) own (begins_self (calls_by (worker new.seat.pass) (seen pass))))
          (λ apart under.
          let v : Worker = get_or all k w in
          begins_all (mine v.seat.pass) (calls_by (worker v.seat.pass) (seen c.loop-other.pass)) (calls_by (worker v.seat.pass) (seen pass))
          (calls_begin (worker v.seat.pass) (seen pass) (seen c.loop-other.pass) m.begins.0) (h.heard k w (omega (arith, under, apart)))) below;
    }

pub returns-clause-heard : goal.returns-clause-heard
returns-clause-heard c = λ k w below. c.loop-other.invariant.heard k w (omega (arith, below, c.loop-other-test.false, c.loop-other.invariant.long))
