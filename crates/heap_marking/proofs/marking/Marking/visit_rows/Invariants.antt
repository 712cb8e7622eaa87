use Rattle.std.proofs.Common.{◌≡◌, take}
use Rattle.std.specs.Prelude.{IsTrue}
use Rattle.heap_marking.specs.Boxes.{arrives_anywhere}
use Rattle.heap_marking.specs.Marking.{IsGrown}
use Rattle.heap_marking.proofs.marking.Marking.visit_rows.Given as goal

-- the first rows are visited
abbrev pub invariant-loop-boxes : goal.invariant-loop-boxes
invariant-loop-boxes l = record {
  grown : IsGrown l.initial.self.words (arrives_anywhere (take l.boxes-index l.rows)) l.initial.self.bits l.self.bits l.initial.self.stack.items l.self.stack.items;
  well_formed : IsTrue l.self.well_formed → IsTrue l.initial.self.well_formed;
  words : l.self.words ≡ l.initial.self.words;
}
