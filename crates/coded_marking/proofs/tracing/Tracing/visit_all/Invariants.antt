use Rattle.std.proofs.Common.{◌≡◌, take}
use Rattle.coded_marking.specs.Tracing.{IsSteady, Grows, leads_any}
use Rattle.coded_marking.proofs.tracing.Tracing.visit_all.Given as goal

-- the targets of the first words are visited
abbrev pub invariant-loop-word : goal.invariant-loop-word
invariant-loop-word l = record {
  steady : IsSteady l.self;
  grown : Grows (leads_any l.heap.layout (take l.word-index l.words)) l.initial.self l.self;
  followed : l.self.followed ≡ l.initial.self.followed;
}
