-- The head of an image that is read with another region log or allowance than its own.
use Rattle.std.specs.Prelude.{ℕ, ◌-◌, ◌&&◌, List, Option, None, map, option_map, unwrap_or, slice_index, nat_le, nat_lt, if◌then◌else◌}
use Rattle.std.specs.Int.{w32, w64, to_le_bytes}
use Rattle.std.specs.List.{enumerate_from}
use Rattle.command_line.specs.declared.shape.Shape.{Shape}

-- the byte that a shape has at a position of a file: its region log is at 8 to 11, its allowance at 24 to 31
abbrev pub byte_at : Shape → ℕ → Option ℕ
byte_at shape position =
    if nat_le 8 position && nat_lt position 12 then option_map (λ log. slice_index (to_le_bytes w32 log) (position - 8)) shape.region_log
    else (if nat_le 24 position && nat_lt position 32 then option_map (λ words. slice_index (to_le_bytes w64 words) (position - 24)) shape.allowance
    else None)

-- what is read in place of the byte at a position
abbrev pub byte_read : Shape → ℕ → ℕ → ℕ
byte_read shape position byte = unwrap_or (byte_at shape position) byte

-- what is read in place of the bytes from a position on
abbrev pub bytes_read : Shape → ℕ → List ℕ → List ℕ
bytes_read shape at bytes = map (λ place. byte_read shape place.0 place.1) (enumerate_from at bytes)
