use Rattle.std.proofs.Common.{length, ◌+◌, ◌*◌, ◌^◌, ◌≡◌, ◌<◌, List, ℕ}
use Rattle.std.specs.Prelude.{All}
use Rattle.std.specs.List.{concat}
use Rattle.std.specs.Io.KnownBytes.{Consumes}
use Rattle.image_streams.specs.Numbers.{numbers}
use Rattle.image_streams.specs.Incoming.{IsInRange, expected, known_rest}
use Rattle.image_streams.proofs.body.read_regions.Given as goal

abbrev pub invariant-loop-r : goal.invariant-loop-r
invariant-loop-r g l = record {
  in_range : IsInRange l.incoming;
  count : length l.regions.items ≡ l.r;
  words : l.words.len ≡ 2 ^ l.fn.size.region_log;
  whole : All (λ block. length block ≡ 2 ^ l.fn.size.region_log) l.regions.items;
  fit : All (λ w. w < 2 ^ 64) (concat l.regions.items);
  expected : expected l.incoming + l.r * 2 ^ l.fn.size.region_log ≡ expected l.initial.incoming;
  bytes : Consumes (known_rest l.initial.incoming (g.R.Intake.left l.initial.reader)) (known_rest l.incoming (g.R.Intake.left l.reader)) (numbers (concat l.regions.items));
  lost : (came : List ℕ) × Consumes (g.R.Intake.left l.initial.reader) (g.R.Intake.left l.reader) came;
  failed : g.R.Intake.has_failed l.reader ≡ g.R.Intake.has_failed l.initial.reader;
}
