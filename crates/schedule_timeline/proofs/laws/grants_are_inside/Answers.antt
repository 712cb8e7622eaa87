use Rattle.std.proofs.Common.{rules, ◌<◌, ℕ, List, [], ◌∷◌, subst, arith}
use Rattle.std.specs.Prelude.{IsTrue, ◌&&◌}
use Rattle.std.proofs.lemmas.List.Elements.{All-cons}
use Rattle.scheduler.specs.MoveTable.{MoveTable, region_count}
use Rattle.scheduler.specs.History.{AreSteps, grants, is_grant}
use Rattle.scheduler.specs.ImageMoves.{image_table}
use Rattle.scheduler.specs.State.{Allows, State, opening, state_after}
use Rattle.scheduler.specs.declared.entry.Entry.{Entry}
use Rattle.scheduler.specs.declared.event.Event.{Event}
use Rattle.scheduler.specs.declared.event.Event.TheVariants.{Claim, Look, Drain, Complete, Settle, Poll, Copy}
use Rattle.scheduler.specs.declared.reply.Reply.{Reply}
use Rattle.schedule_timeline.specs.FirstCalls.{AreGrantedBelow}
use Rattle.schedule_timeline.proofs.laws.grants_are_inside.Goals as goal

-- a region that is granted is one that there is
granted : (m : MoveTable) (now : State) (worker r : ℕ) (event : Event) (reply : Reply) → Allows m now worker event → IsTrue (grants r event reply) → r < region_count m
granted m now worker r (Claim q) reply allowed is = grind (arith, allowed, is)
granted m now worker r (Look q) reply allowed is = search rules
granted m now worker r (Drain d s) reply allowed is = search rules
granted m now worker r (Complete d) reply allowed is = search rules
granted m now worker r (Settle d) reply allowed is = search rules
granted m now worker r Poll reply allowed is = search rules
granted m now worker r (Copy d n) reply allowed is = search rules

inside : (m : MoveTable) (workers : ℕ) (now : State) (log : List Entry) → AreSteps m workers now log → AreGrantedBelow (region_count m) log
inside m workers now [] steps = λ k d few. let no : ⊥ = omega arith in absurd no
inside m workers now (e ∷ es) steps =
    All-cons (λ e. (r : ℕ) → IsTrue (is_grant r e) → r < region_count m) e es
    (λ r is. granted m now e.worker r e.event e.reply steps.1.allowed is)
    (inside m workers (state_after now e.worker e.event e.reply) es steps.2)

pub returns : goal.returns
returns c image workers lines log taken =
    subst (λ n. AreGrantedBelow n log) (c.moves_of_images.ensures.regions image)
    (inside (image_table image) workers opening log (c.what_replays_keep.ensures.legal image workers lines log taken))
