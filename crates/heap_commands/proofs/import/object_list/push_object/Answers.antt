use Rattle.std.proofs.Common.{◌∙◌, ◌++◌, List, ℕ, ap₂, arith, codes, string_bytes}
use Rattle.std.specs.Prelude.{decimal}
use Rattle.heap_commands.proofs.Lemmas.Rows.{is_row}
use Rattle.heap_commands.proofs.Lemmas.Texts.{join5}
use Rattle.heap_commands.proofs.import.object_list.push_object.Goals as goal

pub returns-clause-line : goal.returns-clause-line
returns-clause-line c =
    let named : List ℕ = string_bytes c.push_name.new.line in
    join5 _ _ _ _ _ _ _ _ _ _ _ c.in_ok-write.ensures.bytes c.in_ok-push_id.ensures.id c.in_ok-push_str.ensures.bytes c.in_ok-push_name.ensures.name
    (c.in_ok-writeln.ensures.bytes ∙ ap₂ (λ n (s : List ℕ). named ++ (codes " " ++ (decimal n ++ (codes " " ++ (s ++ codes "\n"))))) c.bytes_of-bytes.ensures c.state_of-state.ensures)

pub returns-clause-row : goal.returns-clause-row
returns-clause-row c =
    is_row c.args.names.now c.args.object.now (omega arith) c.in_ok-push_id.ensures.short c.in_ok-push_id.ensures.no_line c.in_ok-push_name.ensures.short c.in_ok-push_name.ensures.no_line
