use Rattle.std.proofs.Common.{◌≡◌, ◌++◌, drop}
use Rattle.std.specs.Prelude.{string_bytes}
use Rattle.object_pairs.specs.Json.{others_text}
use Rattle.object_pairs.proofs.json.push_others.Given as goal

-- what is written and what is left make the whole
abbrev pub invariant-loop-space : goal.invariant-loop-space
invariant-loop-space l = string_bytes l.text ++ others_text (drop l.space-index l.spaces) ≡ string_bytes l.fn.text ++ others_text l.spaces
