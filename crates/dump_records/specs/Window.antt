-- The buffered bytes of a window.
use Rattle.std.specs.Prelude.{ℕ, ◌-◌}
use Rattle.dump_records.specs.declared.dump.window.Window.{Window}

-- the number of buffered bytes that are unread
abbrev pub unread : Window → ℕ
unread w = w.end - w.start
