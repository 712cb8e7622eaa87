use Rattle.std.proofs.Common.{◌≡◌}
use Rattle.collector.specs.Sessions.{heap_of}
use Rattle.collector.proofs.session.share.Share.work_all.Given as goal

-- the share stays one of its session's
abbrev pub invariant-loop : goal.invariant-loop
invariant-loop l = heap_of l.self ≡ heap_of l.initial.self
