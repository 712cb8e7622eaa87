use Rattle.std.specs.Prelude.{string_bytes}
use Rattle.heap_commands.proofs.Lemmas.Imports.{import_text}
use Rattle.heap_commands.proofs.import.import_timed.Goals as goal

pub returns : goal.returns
returns g c =
    let made = c.in_ok-made.ensures.image in
    import_text made.0.image c.args.wish.rows (string_bytes c.in_ok-made.made.text) made.2
