use Rattle.std.proofs.Common.{◌≡◌, ◌++◌, ℕ, List, take}
use Rattle.std.specs.Prelude.{string_bytes}
use Rattle.std.specs.Io.KnownBytes.{Appends}
use Rattle.heap_commands.specs.ObjectList.{list_text}
use Rattle.heap_commands.proofs.Lemmas.Rows.{AreRows}
use Rattle.heap_commands.proofs.import.object_list.give_list.Given as goal

abbrev pub invariant-loop-object : goal.invariant-loop-object
invariant-loop-object g l =
    (given : List ℕ) × Appends (g.O.Outlet.took l.initial.output) (g.O.Outlet.took l.output) given
    × (given ++ string_bytes l.lines ≡ list_text l.import.names (take l.object-index l.import.objects.items))
    × AreRows l.import.names (take l.object-index l.import.objects.items)
