use Rattle.std.proofs.Common.{◌≡◌, ◌++◌, length}
use Rattle.command_support.specs.Json.{json_of, rest_of}
use Rattle.command_support.proofs.json.push_json.Given as goal

abbrev pub invariant-loop-byte : goal.invariant-loop-byte
invariant-loop-byte l = l.json.items ++ rest_of l.place l.rest ≡ l.fn.json.items ++ json_of l.text

abbrev pub decreases-loop-byte : goal.decreases-loop-byte
decreases-loop-byte l = length l.rest
