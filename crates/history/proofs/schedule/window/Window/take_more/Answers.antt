use Rattle.std.proofs.Common.{◌≡◌, ◌-◌, ◌+◌, ◌≤◌, ◌++◌, [], List, ℕ, length, take, ap, sym, subst, ◌∙◌, rules}
use Rattle.std.specs.Prelude.{slice_range}
use Rattle.std.specs.Io.KnownBytes.{Consumes, prepend_known}
use borrow.Rule.Slice.PartMut.{put_mid}
use Rattle.history.specs.Window.{unread}
use Rattle.history.proofs.Lemmas.Windows.{came_behind, rest_kept}
use Rattle.history.proofs.schedule.window.Window.take_more.Goals as goal

pub returns-clause-same : goal.returns-clause-same
returns-clause-same g c =
    let w = c.make_room.new.self in
    let buffer = c.take.new.buffer in
    let came = c.in_ok-came.came in
    let held = unread c.args.self.now in
    let inside : w.end ≤ length w.bytes = Prim.search rules in
    let all = put_mid w.end (8192 - w.end) w.bytes buffer in
    let grown : slice_range all w.start (w.end + came) ≡ held ++ take came buffer =
    ap (λ (s : ℕ). slice_range all s (w.end + came)) c.make_room.ensures.front
    ∙ (came_behind w.bytes buffer w.end (8192 - w.end) came inside c.in_ok-came.ensures.within
    ∙ ap (λ (bytes : List ℕ). bytes ++ take came buffer) (sym (ap (λ (s : ℕ). slice_range w.bytes s w.end) c.make_room.ensures.front) ∙ c.make_room.ensures.same)) in
    subst (λ (bytes : List ℕ). Consumes (prepend_known held (g.R.Intake.left c.args.source.now)) (prepend_known bytes (g.R.Intake.left c.take.new.self)) []) (sym grown)
    (rest_kept held (take came buffer) (g.R.Intake.left c.args.source.now) (g.R.Intake.left c.take.new.self) c.in_ok-came.ensures.bytes.0)
