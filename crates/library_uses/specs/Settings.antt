-- The settings of a heap of cells.
use Rattle.std.specs.Prelude.{ℕ}
use Rattle.caller_heap.specs.declared.settings.HeapSettings.{HeapSettings}

abbrev pub settings_of : ℕ → HeapSettings
settings_of region_log = record { region_log = region_log; allowance = 0 }
