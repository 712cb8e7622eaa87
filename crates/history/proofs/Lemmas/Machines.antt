-- Calls that the word machine allows, one after the other.
use Rattle.std.proofs.Common.{◌≡◌, ℕ, List, [], ◌∷◌, ◌++◌, refl}
use Rattle.object_heap.specs.HeapImage.{HeapImage}
use Rattle.scheduler.specs.MoveTable.{MoveTable}
use Rattle.scheduler.specs.History.{state_from, AreSteps}
use Rattle.history.specs.Slide.{Slide, Machine, machine_after, machine_from, IsMachineStep, AreMachineSteps}
use Rattle.scheduler.specs.ImageMoves.{image_table}
use Rattle.history.specs.WordMachine.{image_slide, machine_start, machine_of}
use Rattle.history.specs.Replay.{IsCallOfLine, AreCallsOf, IsReplay}
use Rattle.scheduler.specs.declared.entry.Entry.{Entry}
use Rattle.scheduler.specs.declared.schedule.line.Line.{Line}

pub AreMachineSteps-append : (m : MoveTable) (p : Slide) (workers : ℕ) (w : Machine) (xs ys : List Entry)
    → AreMachineSteps m p workers w xs → AreMachineSteps m p workers (machine_from p w xs) ys → AreMachineSteps m p workers w (xs ++ ys)
AreMachineSteps-append m p workers w [] ys front back = back
AreMachineSteps-append m p workers w (x ∷ xs) ys front back = (front.0, AreMachineSteps-append m p workers (machine_after p w x) xs ys front.1 back)

pub machine_from-append : (p : Slide) (w : Machine) (xs ys : List Entry) → machine_from p w (xs ++ ys) ≡ machine_from p (machine_from p w xs) ys
machine_from-append p w [] ys = refl
machine_from-append p w (x ∷ xs) ys = machine_from-append p (machine_after p w x) xs ys

-- an event that the words allow is legal
pub legal_steps : (m : MoveTable) (p : Slide) (workers : ℕ) (w : Machine) (log : List Entry) → AreMachineSteps m p workers w log → AreSteps m workers w.known log
legal_steps m p workers w [] steps = tt
legal_steps m p workers w (e ∷ es) steps = (steps.0.0, steps.0.1, legal_steps m p workers (machine_after p w e) es steps.1)

-- and leads to the state of the machine's scheduler
pub known-machine_from : (p : Slide) (w : Machine) (log : List Entry) → (machine_from p w log).known ≡ state_from w.known log
known-machine_from p w [] = refl
known-machine_from p w (e ∷ es) = known-machine_from p (machine_after p w e) es

AreCallsOf-push : (lines : List Line) (log : List Entry) (line : Line) (e : Entry) → AreCallsOf lines log → IsCallOfLine line e → AreCallsOf (lines ++ line ∷ []) (log ++ e ∷ [])
AreCallsOf-push [] [] line e calls is = (is, tt)
AreCallsOf-push (l ∷ ls) (f ∷ es) line e calls is = (calls.0, AreCallsOf-push ls es line e calls.1 is)
AreCallsOf-push [] (f ∷ es) line e calls is = absurd calls
AreCallsOf-push (l ∷ ls) [] line e calls is = absurd calls

-- one line more
pub machine_of-push : (image : HeapImage) (log : List Entry) (e : Entry) → machine_of image (log ++ e ∷ []) ≡ machine_after (image_slide image) (machine_of image log) e
machine_of-push image log e = machine_from-append (image_slide image) (machine_start image) log (e ∷ [])

pub replay_more : (image : HeapImage) (workers : ℕ) (lines : List Line) (log : List Entry) (line : Line) (e : Entry) → IsReplay image workers lines log → IsCallOfLine line e
    → IsMachineStep (image_table image) (image_slide image) workers (machine_of image log) e → IsReplay image workers (lines ++ line ∷ []) (log ++ e ∷ [])
replay_more image workers lines log line e taken is step =
    record {
      calls = AreCallsOf-push lines log line e taken.calls is;
      allowed = AreMachineSteps-append (image_table image) (image_slide image) workers (machine_start image) log (e ∷ []) taken.allowed (step, tt);
    }
