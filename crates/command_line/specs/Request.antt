use Rattle.std.specs.Prelude.{◌≡◌, ⊤, ℕ, Bool, Option, None, codes, false, true}
use Rattle.clap.specs.Walk.{Text as Name}
use Rattle.command_line.specs.declared.commands.import.Import.{Import as ImportCall}
use Rattle.command_line.specs.declared.request.Request.{Request}
use Rattle.command_line.specs.declared.request.Request.TheVariants.{Board, BoardSteps, Summary, Collect, Verify, Record, Replay, Upgrade, Import, Compare, Generate, Reduce, Order, Text, Assemble, Map, Timeline, Show}
use Rattle.command_line.specs.declared.unread.Unread.{Unread}
use Rattle.command_line.specs.declared.unread.Unread.TheVariants.{Usage, NoCommand, Memory}

-- the request is a call of the command of this name
abbrev pub IsFor : Name → Request → Type 0
IsFor name Board = name ≡ codes "board"
IsFor name BoardSteps = name ≡ codes "board"
IsFor name (Summary call) = name ≡ codes "summary"
IsFor name (Collect call) = name ≡ codes "collect"
IsFor name (Verify call) = name ≡ codes "verify"
IsFor name (Record call) = name ≡ codes "record"
IsFor name (Replay call) = name ≡ codes "replay"
IsFor name (Upgrade call) = name ≡ codes "upgrade"
IsFor name (Import call) = name ≡ codes "import"
IsFor name (Compare call) = name ≡ codes "compare"
IsFor name (Generate call) = name ≡ codes "generate"
IsFor name (Reduce call) = name ≡ codes "reduce"
IsFor name (Order call) = name ≡ codes "order"
IsFor name (Text call) = name ≡ codes "text"
IsFor name (Assemble call) = name ≡ codes "assemble"
IsFor name (Map call) = name ≡ codes "map"
IsFor name (Timeline call) = name ≡ codes "timeline"
IsFor name (Show text) = ⊥

-- the request has `--stats`
abbrev pub asks_stats : Request → Bool
asks_stats (Collect call) = call.stats
asks_stats (Verify call) = call.stats
asks_stats (Record call) = call.stats
asks_stats (Import call) = call.stats
asks_stats request = false

-- the request has `--json`
abbrev pub asks_json : Request → Bool
asks_json (Summary call) = call.json
asks_json (Collect call) = call.json
asks_json (Verify call) = call.json
asks_json (Import call) = call.json
asks_json (Order call) = call.json
asks_json request = false

-- the request has `--steps`
abbrev pub asks_steps : Request → Bool
asks_steps BoardSteps = true
asks_steps request = false

-- the most classes of the histogram that a call of `import` prints, if it prints one
abbrev pub rows_in : ImportCall → Option ℕ
rows_in call = call.histogram

abbrev pub rows_of : Request → Option ℕ
rows_of (Import call) = rows_in call
rows_of request = None

-- the error isn't a usage error
abbrev pub IsNoUsage : Unread → Type 0
IsNoUsage (Usage text) = ⊥
IsNoUsage NoCommand = ⊤
IsNoUsage Memory = ⊤
