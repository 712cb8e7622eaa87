use Rattle.std.proofs.Common.{length, ◌-◌, ◌+◌, ◌≡◌, ◌≤◌, ◌<◌, ◌^◌, List, ℕ, take}
use Rattle.std.specs.Prelude.{All}
use Rattle.std.specs.Io.KnownBytes.{Consumes}
use Rattle.image_streams.specs.Numbers.{numbers}
use Rattle.image_streams.specs.Incoming.{IsInRange, expected, known_rest}
use Rattle.image_streams.proofs.numbers.incoming.Incoming.read.Given as goal

abbrev pub invariant-loop-done : goal.invariant-loop-done
invariant-loop-done g l = record {
  within : l.done ≤ length l.words;
  in_range : IsInRange l.self;
  fit : All (λ w. w < 2 ^ 64) l.words;
  expected : expected l.self + l.done ≡ expected l.initial.self;
  bytes : Consumes (known_rest l.initial.self (g.R.Intake.left l.initial.reader)) (known_rest l.self (g.R.Intake.left l.reader)) (numbers (take l.done l.words));
  lost : (came : List ℕ) × Consumes (g.R.Intake.left l.initial.reader) (g.R.Intake.left l.reader) came;
  failed : g.R.Intake.has_failed l.reader ≡ g.R.Intake.has_failed l.initial.reader;
}

abbrev pub decreases-loop-done : goal.decreases-loop-done
decreases-loop-done g l = length l.words - l.done
