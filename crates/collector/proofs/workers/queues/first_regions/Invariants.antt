use Rattle.std.proofs.Common.{◌≡◌, ◌≤◌, length}
use Rattle.collector.proofs.workers.queues.first_regions.Given as goal

-- fewer regions were queued than there are to fill
abbrev pub invariant-loop-region : goal.invariant-loop-region
invariant-loop-region l = record { room : l.ready.room ≡ l.fill_regions; pushed : length l.ready.pushed ≤ l.region; place : l.place ≤ l.region }
