-- The calls of a schedule that the word machine takes.
use Rattle.std.proofs.Common.{◌≡◌, ℕ, ◌<◌, List, [], ◌∷◌, ◌++◌, length, Some, None, refl, sym, ap, ◌∙◌, subst, inl, inr, ◌⊎◌, arith}
use Rattle.std.specs.Prelude.{map}
use Rattle.std.proofs.lemmas.Bool.{cases_lt}
use Rattle.object_heap.specs.HeapImage.{HeapImage}
use Rattle.scheduler.specs.MoveTable.{MoveTable}
use Rattle.scheduler.specs.State.{reply_to}
use Rattle.scheduler.specs.History.{state_of, IsLegal}
use Rattle.scheduler.specs.Schedule.{ScheduleView, line_of}
use Rattle.history.specs.Slide.{Slide, Machine, machine_after, machine_from, IsMachineStep, AreMachineSteps}
use Rattle.scheduler.specs.ImageMoves.{image_table}
use Rattle.history.specs.WordMachine.{image_slide, machine_start, machine_of}
use Rattle.history.specs.Replay.{IsCallOfLine, AreCallsOf, IsReplay, IsRefused, IsRefusedAt}
use Rattle.scheduler.specs.declared.entry.Entry.{Entry}
use Rattle.scheduler.specs.declared.event.Event.{Event}
use Rattle.scheduler.specs.declared.schedule.line.Line.{Line}
use Rattle.scheduler.specs.declared.reply.Reply.{Reply}
use Rattle.history.proofs.Lemmas.Machines.{legal_steps, known-machine_from}

pub replay_legal : (image : HeapImage) (workers : ℕ) (lines : List Line) (log : List Entry) → IsReplay image workers lines log → IsLegal (image_table image) workers log
replay_legal image workers lines log taken = legal_steps (image_table image) (image_slide image) workers (machine_start image) log taken.allowed

pub replay_state : (image : HeapImage) (log : List Entry) → (machine_of image log).known ≡ state_of log
replay_state image log = known-machine_from (image_slide image) (machine_start image) log

same_entry : (e f : Entry) → e.worker ≡ f.worker → e.event ≡ f.event → e.reply ≡ f.reply → e ≡ f
same_entry e f a b c = go e.worker f.worker e.event f.event e.reply f.reply a b c
  where
    go : (m n : ℕ) (v w : Event) (r s : Reply) → m ≡ n → v ≡ w → r ≡ s → ◌≡◌ {A = Entry} (record { worker = m; event = v; reply = r }) (record { worker = n; event = w; reply = s })
    go m n v w r s a b c = cc

one_step : (m : MoveTable) (p : Slide) (workers : ℕ) (w : Machine) (line : Line) (e f : Entry) → IsCallOfLine line e → IsCallOfLine line f → IsMachineStep m p workers w e → IsMachineStep m p workers w f → e ≡ f
one_step m p workers w line e f a b s t =
    let event : e.event ≡ f.event = a.event ∙ sym b.event in
    same_entry e f (a.worker ∙ sym b.worker) event (s.1.replied ∙ (ap (reply_to m w.known) event ∙ sym t.1.replied))

one_list : (m : MoveTable) (p : Slide) (workers : ℕ) (w : Machine) (lines : List Line) (es fs : List Entry) → AreCallsOf lines es → AreCallsOf lines fs → AreMachineSteps m p workers w es → AreMachineSteps m p workers w fs → es ≡ fs
one_list m p workers w [] [] [] a b s t = refl
one_list m p workers w (l ∷ ls) (e ∷ es) (f ∷ fs) a b s t =
    let same : e ≡ f = one_step m p workers w l e f a.0 b.0 s.0 t.0 in
    let rest : es ≡ fs = one_list m p workers (machine_after p w e) ls es fs a.1 b.1 s.1 (subst (λ (g : Entry). AreMachineSteps m p workers (machine_after p w g) fs) (sym same) t.1) in
    cc
one_list m p workers w [] (e ∷ es) fs a b s t = absurd a
one_list m p workers w [] [] (f ∷ fs) a b s t = absurd b
one_list m p workers w (l ∷ ls) [] fs a b s t = absurd a
one_list m p workers w (l ∷ ls) (e ∷ es) [] a b s t = absurd b

pub one_replay : (image : HeapImage) (workers : ℕ) (lines : List Line) (log other : List Entry) → IsReplay image workers lines log → IsReplay image workers lines other → log ≡ other
one_replay image workers lines log other taken again = one_list (image_table image) (image_slide image) workers (machine_start image) lines log other taken.calls again.calls taken.allowed again.allowed

told_reply : (r s : Reply) → (Some r ≡ None) ⊎ (Some r ≡ Some s) → s ≡ r
told_reply r s (inl none) = cc
told_reply r s (inr some) = cc

pub told_calls : (es log : List Entry) → AreCallsOf (map line_of es) log → log ≡ es
told_calls [] [] calls = refl
told_calls (e ∷ es) (f ∷ fs) calls =
    let first : f ≡ e = same_entry f e calls.0.worker calls.0.event (told_reply e.reply f.reply calls.0.reply) in
    let rest : fs ≡ es = told_calls es fs calls.1 in
    cc
told_calls [] (f ∷ fs) calls = absurd calls
told_calls (e ∷ es) [] calls = absurd calls

-- a line that is refused after the calls of those before it stops every list of calls
refuses_all : (m : MoveTable) (p : Slide) (workers : ℕ) (w : Machine) (xs : List Line) (line : Line) (ys : List Line) (es log : List Entry) → AreCallsOf xs es → AreMachineSteps m p workers w es
    → AreCallsOf (xs ++ line ∷ ys) log → AreMachineSteps m p workers w log → ((e : Entry) → IsCallOfLine line e → ¬ (IsMachineStep m p workers (machine_from p w es) e)) → ⊥
refuses_all m p workers w [] line ys [] (e ∷ log) a s b t none = none e b.0 t.0
refuses_all m p workers w [] line ys [] [] a s b t none = b
refuses_all m p workers w [] line ys (f ∷ es) log a s b t none = a
refuses_all m p workers w (x ∷ xs) line ys (e ∷ es) (f ∷ log) a s b t none =
    let same : e ≡ f = one_step m p workers w x e f a.0 b.0 s.0 t.0 in
    refuses_all m p workers (machine_after p w e) xs line ys es log a.1 s.1 b.1 (subst (λ (g : Entry). AreMachineSteps m p workers (machine_after p w g) log) (sym same) t.1) none
refuses_all m p workers w (x ∷ xs) line ys [] log a s b t none = a
refuses_all m p workers w (x ∷ xs) line ys (e ∷ es) [] a s b t none = b

refused_stops : (image : HeapImage) (workers : ℕ) (xs : List Line) (line : Line) (ys : List Line) (es log : List Entry) → IsReplay image workers xs es → IsRefused image workers es line → IsReplay image workers (xs ++ line ∷ ys) log → ⊥
refused_stops image workers xs line ys es log taken refused all =
    refuses_all (image_table image) (image_slide image) workers (machine_start image) xs line ys es log taken.calls taken.allowed all.calls all.allowed refused

-- a refused schedule isn't taken
pub refused_not_taken : (image : HeapImage) (v : ScheduleView) (number : ℕ) (log : List Entry) → IsRefusedAt image v number → ¬ (IsReplay image v.workers v.lines log)
refused_not_taken image v number log at all =
    refused_stops image v.workers at.before at.line at.after at.log log at.taken at.refused (subst (λ (ls : List Line). IsReplay image v.workers ls log) at.split all)

-- of two fronts of a list the longer one begins with the shorter one and what follows it
longer : (xs ys : List Line) (x y : Line) (ps qs : List Line) → xs ++ x ∷ ps ≡ ys ++ y ∷ qs → length xs < length ys → (zs : List Line) × (ys ≡ xs ++ x ∷ zs)
longer [] [] x y ps qs e l = absurd (let no : ⊥ = omega arith in no)
longer [] (b ∷ ys) x y ps qs e l = let f : x ∷ ps ≡ b ∷ (ys ++ y ∷ qs) = e in let same : x ≡ b = cc in (ys, ap (λ (c : Line). c ∷ ys) (sym same))
longer (a ∷ xs) [] x y ps qs e l = absurd (let no : ⊥ = omega arith in no)
longer (a ∷ xs) (b ∷ ys) x y ps qs e l =
    let f : a ∷ (xs ++ x ∷ ps) ≡ b ∷ (ys ++ y ∷ qs) = e in
    let same : a ≡ b = cc in
    let rest : xs ++ x ∷ ps ≡ ys ++ y ∷ qs = cc in
    let more = longer xs ys x y ps qs rest (omega arith) in
    (more.0, ap (λ (c : Line). c ∷ ys) (sym same) ∙ ap (λ (ls : List Line). a ∷ ls) more.1)

not_later : (image : HeapImage) (v : ScheduleView) (m n : ℕ) → IsRefusedAt image v m → IsRefusedAt image v n → m < n → ⊥
not_later image v m n a b l =
    let low = a.number_is in
    let high = b.number_is in
    let more = longer a.before b.before a.line b.line a.after b.after (sym a.split ∙ b.split) (omega arith) in
    refused_stops image v.workers a.before a.line more.0 a.log b.log a.taken a.refused (subst (λ (ls : List Line). IsReplay image v.workers ls b.log) more.1 b.taken)

-- a schedule is refused at one line
pub refused_once : (image : HeapImage) (v : ScheduleView) (m n : ℕ) → IsRefusedAt image v m → IsRefusedAt image v n → m ≡ n
refused_once image v m n a b = elim (cases_lt m n) [
  | inl before ↦ absurd (not_later image v m n a b before)
  | inr from ↦ elim (cases_lt n m) [ inl before ↦ absurd (not_later image v n m b a before) | inr from' ↦ omega arith ]
]
