-- What is left to read of a watched file.
use Rattle.std.specs.Prelude.{ℕ, List, Option, option_map}
use Rattle.command_support.specs.Heads.{bytes_read}
use Rattle.command_support.specs.declared.files.watched.Watched.{Watched}

-- the bytes that the file has left, if they are known, as its shape has them
abbrev pub bytes_left : {F : Type 0} → (F → Option (List ℕ)) → Watched F → Option (List ℕ)
bytes_left remaining watched = option_map (bytes_read watched.shape watched.front.count) (remaining watched.file)
