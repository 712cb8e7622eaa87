-- Small heaps, worked by the definitions.
use Rattle.std.proofs.Common.{◌≡◌, refl, ℕ, [], ◌∷◌, ◌++◌, take}
use Rattle.std.specs.Prelude.{slice_index, Some, None, map, filter, codes}
use Rattle.std.specs.List.{range_with_len}
use Rattle.object_heap.specs.Header.{object_header, filler_header}
use Rattle.object_heap.specs.Layout.{Own}
use Rattle.object_heap.specs.HeapImage.{HeapImage}
use Rattle.object_heap.specs.declared.version.Version.TheVariants.{One}
use Rattle.summary.specs.NewAddresses.{prefix_end, new_top}
use Rattle.summary.specs.WordMoves.{word_moves, reads}
use Rattle.summary.specs.Compaction.{compact, moved}
use Rattle.summary.specs.RegionData.{region_data, deferred, fill_count}
use Rattle.std.specs.Fmt.{digits}
use Rattle.summary.specs.Report.{report}

abbrev pub base : ℕ → HeapImage
base m = record { version = One; layout = Own; region_log = 3; allowance = m; words = object_header 3 2 ∷ 6 ∷ 21 ∷ 999 ∷ 999 ∷ object_header 4 1 ∷ 13 ∷ 107 ∷ 108 ∷ 999 ∷ 999 ∷ 999 ∷ object_header 2 1 ∷ 1 ∷ 999 ∷ 999 ∷ 999 ∷ 999 ∷ 999 ∷ 999 ∷ object_header 10 8 ∷ 21 ∷ 0 ∷ 6 ∷ 13 ∷ 1 ∷ 0 ∷ 21 ∷ 6 ∷ 129 ∷ 999 ∷ 999 ∷ []; live = 0 ∷ 5 ∷ 12 ∷ 20 ∷ []; roots = None }

base_compact : compact (base 0) ≡ (record { version = One; layout = Own; region_log = 3; allowance = 0; words = object_header 3 2 ∷ 4 ∷ 10 ∷ object_header 4 1 ∷ 8 ∷ 107 ∷ 108 ∷ object_header 2 1 ∷ 1 ∷ object_header 10 8 ∷ 10 ∷ 0 ∷ 4 ∷ 8 ∷ 1 ∷ 0 ∷ 10 ∷ 4 ∷ 129 ∷ 0 ∷ 0 ∷ 0 ∷ 0 ∷ 0 ∷ 0 ∷ 0 ∷ 0 ∷ 0 ∷ 0 ∷ 0 ∷ 0 ∷ 0 ∷ []; live = 0 ∷ 3 ∷ 7 ∷ 9 ∷ []; roots = None })
base_compact = refl

base_one_allowed : compact (base 1) ≡ (record { version = One; layout = Own; region_log = 3; allowance = 1; words = object_header 3 2 ∷ 4 ∷ 10 ∷ object_header 4 1 ∷ 8 ∷ 107 ∷ 108 ∷ object_header 2 1 ∷ 1 ∷ object_header 10 8 ∷ 10 ∷ 0 ∷ 4 ∷ 8 ∷ 1 ∷ 0 ∷ 10 ∷ 4 ∷ 129 ∷ 0 ∷ 0 ∷ 0 ∷ 0 ∷ 0 ∷ 0 ∷ 0 ∷ 0 ∷ 0 ∷ 0 ∷ 0 ∷ 0 ∷ 0 ∷ []; live = 0 ∷ 3 ∷ 7 ∷ 9 ∷ []; roots = None })
base_one_allowed = refl

base_two_allowed : compact (base 2) ≡ (record { version = One; layout = Own; region_log = 3; allowance = 2; words = object_header 3 2 ∷ 6 ∷ 12 ∷ filler_header 2 ∷ 0 ∷ object_header 4 1 ∷ 10 ∷ 107 ∷ 108 ∷ object_header 2 1 ∷ 1 ∷ object_header 10 8 ∷ 12 ∷ 0 ∷ 6 ∷ 10 ∷ 1 ∷ 0 ∷ 12 ∷ 6 ∷ 129 ∷ 0 ∷ 0 ∷ 0 ∷ 0 ∷ 0 ∷ 0 ∷ 0 ∷ 0 ∷ 0 ∷ 0 ∷ 0 ∷ []; live = 0 ∷ 5 ∷ 9 ∷ 11 ∷ []; roots = None })
base_two_allowed = refl

base_prefix : prefix_end (base 0) ≡ 0
base_prefix = refl

base_top : new_top (base 0) ≡ 19
base_top = refl

base_two_allowed_prefix : prefix_end (base 2) ≡ 8
base_two_allowed_prefix = refl

base_two_allowed_top : new_top (base 2) ≡ 21
base_two_allowed_top = refl

abbrev pub small : ℕ → HeapImage
small m = record { version = One; layout = Own; region_log = 3; allowance = m; words = object_header 1 0 ∷ 999 ∷ object_header 1 0 ∷ object_header 5 2 ∷ 3 ∷ 4 ∷ 106 ∷ 107 ∷ []; live = 0 ∷ 2 ∷ 3 ∷ []; roots = None }

small_compact : compact (small 0) ≡ (record { version = One; layout = Own; region_log = 3; allowance = 0; words = object_header 1 0 ∷ object_header 1 0 ∷ object_header 5 2 ∷ 2 ∷ 3 ∷ 106 ∷ 107 ∷ 0 ∷ []; live = 0 ∷ 1 ∷ 2 ∷ []; roots = None })
small_compact = refl

small_top : new_top (small 0) ≡ 7
small_top = refl

small_one_allowed : compact (small 1) ≡ (record { version = One; layout = Own; region_log = 3; allowance = 1; words = object_header 1 0 ∷ filler_header 1 ∷ object_header 1 0 ∷ object_header 5 2 ∷ 3 ∷ 4 ∷ 106 ∷ 107 ∷ []; live = 0 ∷ 2 ∷ 3 ∷ []; roots = None })
small_one_allowed = refl

small_one_allowed_top : new_top (small 1) ≡ 8
small_one_allowed_top = refl

small_one_allowed_prefix : prefix_end (small 1) ≡ 8
small_one_allowed_prefix = refl

abbrev empty : ℕ → HeapImage
empty m = record { version = One; layout = Own; region_log = 3; allowance = m; words = 999 ∷ 999 ∷ 999 ∷ 999 ∷ 999 ∷ 999 ∷ 999 ∷ 999 ∷ 999 ∷ 999 ∷ 999 ∷ 999 ∷ 999 ∷ 999 ∷ 999 ∷ 999 ∷ 999 ∷ 999 ∷ 999 ∷ 999 ∷ 999 ∷ 999 ∷ 999 ∷ 999 ∷ 999 ∷ 999 ∷ 999 ∷ 999 ∷ 999 ∷ 999 ∷ 999 ∷ 999 ∷ []; live = []; roots = None }

empty_compact : compact (empty 0) ≡ (record { version = One; layout = Own; region_log = 3; allowance = 0; words = 0 ∷ 0 ∷ 0 ∷ 0 ∷ 0 ∷ 0 ∷ 0 ∷ 0 ∷ 0 ∷ 0 ∷ 0 ∷ 0 ∷ 0 ∷ 0 ∷ 0 ∷ 0 ∷ 0 ∷ 0 ∷ 0 ∷ 0 ∷ 0 ∷ 0 ∷ 0 ∷ 0 ∷ 0 ∷ 0 ∷ 0 ∷ 0 ∷ 0 ∷ 0 ∷ 0 ∷ 0 ∷ []; live = []; roots = None })
empty_compact = refl

empty_prefix : prefix_end (empty 0) ≡ 0
empty_prefix = refl

empty_top : new_top (empty 0) ≡ 0
empty_top = refl

empty_fill : fill_count (empty 0) ≡ 0
empty_fill = refl

empty_all_allowed : compact (empty 18446744073709551615) ≡ (record { version = One; layout = Own; region_log = 3; allowance = 18446744073709551615; words = 0 ∷ 0 ∷ 0 ∷ 0 ∷ 0 ∷ 0 ∷ 0 ∷ 0 ∷ 0 ∷ 0 ∷ 0 ∷ 0 ∷ 0 ∷ 0 ∷ 0 ∷ 0 ∷ 0 ∷ 0 ∷ 0 ∷ 0 ∷ 0 ∷ 0 ∷ 0 ∷ 0 ∷ 0 ∷ 0 ∷ 0 ∷ 0 ∷ 0 ∷ 0 ∷ 0 ∷ 0 ∷ []; live = []; roots = None })
empty_all_allowed = refl

empty_all_allowed_prefix : prefix_end (empty 18446744073709551615) ≡ 0
empty_all_allowed_prefix = refl

empty_all_allowed_top : new_top (empty 18446744073709551615) ≡ 0
empty_all_allowed_top = refl

empty_all_allowed_fill : fill_count (empty 18446744073709551615) ≡ 0
empty_all_allowed_fill = refl

abbrev full : ℕ → HeapImage
full m = record { version = One; layout = Own; region_log = 3; allowance = m; words = object_header 32 0 ∷ 0 ∷ 0 ∷ 0 ∷ 0 ∷ 0 ∷ 0 ∷ 0 ∷ 0 ∷ 0 ∷ 0 ∷ 0 ∷ 0 ∷ 0 ∷ 0 ∷ 0 ∷ 0 ∷ 0 ∷ 0 ∷ 0 ∷ 0 ∷ 0 ∷ 0 ∷ 0 ∷ 0 ∷ 0 ∷ 0 ∷ 0 ∷ 0 ∷ 0 ∷ 0 ∷ 0 ∷ []; live = 0 ∷ []; roots = None }

full_compact : compact (full 0) ≡ (record { version = One; layout = Own; region_log = 3; allowance = 0; words = object_header 32 0 ∷ 0 ∷ 0 ∷ 0 ∷ 0 ∷ 0 ∷ 0 ∷ 0 ∷ 0 ∷ 0 ∷ 0 ∷ 0 ∷ 0 ∷ 0 ∷ 0 ∷ 0 ∷ 0 ∷ 0 ∷ 0 ∷ 0 ∷ 0 ∷ 0 ∷ 0 ∷ 0 ∷ 0 ∷ 0 ∷ 0 ∷ 0 ∷ 0 ∷ 0 ∷ 0 ∷ 0 ∷ []; live = 0 ∷ []; roots = None })
full_compact = refl

full_prefix : prefix_end (full 0) ≡ 32
full_prefix = refl

full_top : new_top (full 0) ≡ 32
full_top = refl

full_fill : fill_count (full 0) ≡ 4
full_fill = refl

full_all_allowed : compact (full 18446744073709551615) ≡ (record { version = One; layout = Own; region_log = 3; allowance = 18446744073709551615; words = object_header 32 0 ∷ 0 ∷ 0 ∷ 0 ∷ 0 ∷ 0 ∷ 0 ∷ 0 ∷ 0 ∷ 0 ∷ 0 ∷ 0 ∷ 0 ∷ 0 ∷ 0 ∷ 0 ∷ 0 ∷ 0 ∷ 0 ∷ 0 ∷ 0 ∷ 0 ∷ 0 ∷ 0 ∷ 0 ∷ 0 ∷ 0 ∷ 0 ∷ 0 ∷ 0 ∷ 0 ∷ 0 ∷ []; live = 0 ∷ []; roots = None })
full_all_allowed = refl

base_data : map (region_data (base 0)) (range_with_len 0 4) ≡ (record { partial = 0; live = 6; destination = 0; count = 0; source = Some 0 }) ∷ (record { partial = 1; live = 2; destination = 6; count = 1; source = Some 1 }) ∷ (record { partial = 0; live = 4; destination = 9; count = 1; source = Some 3 }) ∷ (record { partial = 6; live = 0; destination = 13; count = 2; source = None }) ∷ []
base_data = refl

base_two_allowed_data : map (region_data (base 2)) (range_with_len 0 4) ≡ (record { partial = 0; live = 6; destination = 0; count = 0; source = None }) ∷ (record { partial = 1; live = 2; destination = 8; count = 0; source = Some 1 }) ∷ (record { partial = 0; live = 4; destination = 11; count = 1; source = Some 3 }) ∷ (record { partial = 6; live = 0; destination = 15; count = 2; source = None }) ∷ []
base_two_allowed_data = refl

full_data : map (region_data (full 0)) (range_with_len 0 4) ≡ (record { partial = 0; live = 8; destination = 0; count = 0; source = None }) ∷ (record { partial = 8; live = 0; destination = 8; count = 0; source = None }) ∷ (record { partial = 8; live = 0; destination = 16; count = 0; source = None }) ∷ (record { partial = 8; live = 0; destination = 24; count = 0; source = None }) ∷ []
full_data = refl

base_deferred : map (deferred (base 0)) (range_with_len 0 4) ≡ Some 7 ∷ Some 9 ∷ None ∷ None ∷ []
base_deferred = refl

base_two_allowed_deferred : map (deferred (base 2)) (range_with_len 0 4) ≡ Some 5 ∷ Some 11 ∷ None ∷ None ∷ []
base_two_allowed_deferred = refl

full_deferred : map (deferred (full 0)) (range_with_len 0 4) ≡ Some 0 ∷ None ∷ None ∷ None ∷ []
full_deferred = refl

abbrev cut_gap : ℕ → HeapImage
cut_gap m = record { version = One; layout = Own; region_log = 3; allowance = m; words = object_header 4 0 ∷ 0 ∷ 0 ∷ 0 ∷ 999 ∷ 999 ∷ 999 ∷ 999 ∷ 999 ∷ 999 ∷ object_header 2 0 ∷ 0 ∷ 999 ∷ 999 ∷ 999 ∷ 999 ∷ []; live = 0 ∷ 10 ∷ []; roots = None }

cut_gap_compact : compact (cut_gap 8) ≡ (record { version = One; layout = Own; region_log = 3; allowance = 8; words = object_header 4 0 ∷ 0 ∷ 0 ∷ 0 ∷ filler_header 4 ∷ 0 ∷ 0 ∷ 0 ∷ object_header 2 0 ∷ 0 ∷ 0 ∷ 0 ∷ 0 ∷ 0 ∷ 0 ∷ 0 ∷ []; live = 0 ∷ 8 ∷ []; roots = None })
cut_gap_compact = refl

cut_gap_prefix : prefix_end (cut_gap 8) ≡ 8
cut_gap_prefix = refl

cut_gap_top : new_top (cut_gap 8) ≡ 10
cut_gap_top = refl

abbrev long_gap : ℕ → HeapImage
long_gap m = record { version = One; layout = Own; region_log = 3; allowance = m; words = 999 ∷ 999 ∷ object_header 2 0 ∷ 0 ∷ 999 ∷ 999 ∷ 999 ∷ 999 ∷ 999 ∷ 999 ∷ 999 ∷ 999 ∷ 999 ∷ 999 ∷ 999 ∷ 999 ∷ 999 ∷ 999 ∷ 999 ∷ 999 ∷ object_header 3 0 ∷ 0 ∷ 0 ∷ 999 ∷ []; live = 2 ∷ 20 ∷ []; roots = None }

long_gap_compact : compact (long_gap 14) ≡ (record { version = One; layout = Own; region_log = 3; allowance = 14; words = filler_header 2 ∷ 0 ∷ object_header 2 0 ∷ 0 ∷ filler_header 12 ∷ 0 ∷ 0 ∷ 0 ∷ 0 ∷ 0 ∷ 0 ∷ 0 ∷ 0 ∷ 0 ∷ 0 ∷ 0 ∷ object_header 3 0 ∷ 0 ∷ 0 ∷ 0 ∷ 0 ∷ 0 ∷ 0 ∷ 0 ∷ []; live = 2 ∷ 16 ∷ []; roots = None })
long_gap_compact = refl

long_gap_prefix : prefix_end (long_gap 14) ≡ 16
long_gap_prefix = refl

long_gap_top : new_top (long_gap 14) ≡ 19
long_gap_top = refl

long_gap_less_allowed : compact (long_gap 13) ≡ (record { version = One; layout = Own; region_log = 3; allowance = 13; words = filler_header 2 ∷ 0 ∷ object_header 2 0 ∷ 0 ∷ filler_header 4 ∷ 0 ∷ 0 ∷ 0 ∷ object_header 3 0 ∷ 0 ∷ 0 ∷ 0 ∷ 0 ∷ 0 ∷ 0 ∷ 0 ∷ 0 ∷ 0 ∷ 0 ∷ 0 ∷ 0 ∷ 0 ∷ 0 ∷ 0 ∷ []; live = 2 ∷ 8 ∷ []; roots = None })
long_gap_less_allowed = refl

long_gap_less_allowed_prefix : prefix_end (long_gap 13) ≡ 8
long_gap_less_allowed_prefix = refl

long_gap_less_allowed_top : new_top (long_gap 13) ≡ 11
long_gap_less_allowed_top = refl

abbrev long_object : ℕ → HeapImage
long_object m = record { version = One; layout = Own; region_log = 3; allowance = m; words = 999 ∷ object_header 20 0 ∷ 0 ∷ 0 ∷ 0 ∷ 0 ∷ 0 ∷ 0 ∷ 0 ∷ 0 ∷ 0 ∷ 0 ∷ 0 ∷ 0 ∷ 0 ∷ 0 ∷ 0 ∷ 0 ∷ 0 ∷ 0 ∷ 0 ∷ 999 ∷ 999 ∷ 999 ∷ 999 ∷ 999 ∷ 999 ∷ 999 ∷ 999 ∷ 999 ∷ 999 ∷ 999 ∷ []; live = 1 ∷ []; roots = None }

long_object_data : map (region_data (long_object 0)) (range_with_len 0 4) ≡ (record { partial = 0; live = 7; destination = 0; count = 0; source = Some 0 }) ∷ (record { partial = 8; live = 0; destination = 7; count = 1; source = Some 1 }) ∷ (record { partial = 5; live = 0; destination = 15; count = 1; source = Some 2 }) ∷ (record { partial = 0; live = 0; destination = 20; count = 0; source = None }) ∷ []
long_object_data = refl

long_object_deferred : map (deferred (long_object 0)) (range_with_len 0 4) ≡ Some 0 ∷ None ∷ None ∷ None ∷ []
long_object_deferred = refl

long_object_reads_0 : filter (reads (long_object 0) 0) (range_with_len 0 4) ≡ 0 ∷ 1 ∷ []
long_object_reads_0 = refl

long_object_reads_1 : filter (reads (long_object 0) 1) (range_with_len 0 4) ≡ 1 ∷ 2 ∷ []
long_object_reads_1 = refl

long_object_reads_2 : filter (reads (long_object 0) 2) (range_with_len 0 4) ≡ 2 ∷ []
long_object_reads_2 = refl

base_all_allowed_report : map (region_data (base 18446744073709551615)) (range_with_len 0 4) ≡ (record { partial = 0; live = 6; destination = 0; count = 0; source = None }) ∷ (record { partial = 1; live = 2; destination = 8; count = 0; source = None }) ∷ (record { partial = 0; live = 4; destination = 16; count = 0; source = None }) ∷ (record { partial = 6; live = 0; destination = 24; count = 0; source = Some 3 }) ∷ []
base_all_allowed_report = refl

base_all_allowed_prefix : prefix_end (base 18446744073709551615) ≡ 24
base_all_allowed_prefix = refl

base_all_allowed_top : new_top (base 18446744073709551615) ≡ 30
base_all_allowed_top = refl

base_all_allowed_fill : fill_count (base 18446744073709551615) ≡ 4
base_all_allowed_fill = refl

base_all_allowed : compact (base 18446744073709551615) ≡ (record { version = One; layout = Own; region_log = 3; allowance = 18446744073709551615; words = object_header 3 2 ∷ 6 ∷ 21 ∷ filler_header 2 ∷ 0 ∷ object_header 4 1 ∷ 13 ∷ 107 ∷ 108 ∷ filler_header 3 ∷ 0 ∷ 0 ∷ object_header 2 1 ∷ 1 ∷ filler_header 6 ∷ 0 ∷ 0 ∷ 0 ∷ 0 ∷ 0 ∷ object_header 10 8 ∷ 21 ∷ 0 ∷ 6 ∷ 13 ∷ 1 ∷ 0 ∷ 21 ∷ 6 ∷ 129 ∷ 0 ∷ 0 ∷ []; live = 0 ∷ 5 ∷ 12 ∷ 20 ∷ []; roots = None })
base_all_allowed = refl

base_moves : word_moves (base 0) ≡ (0, 0) ∷ (1, 1) ∷ (2, 2) ∷ (5, 3) ∷ (6, 4) ∷ (7, 5) ∷ (8, 6) ∷ (12, 7) ∷ (13, 8) ∷ (20, 9) ∷ (21, 10) ∷ (22, 11) ∷ (23, 12) ∷ (24, 13) ∷ (25, 14) ∷ (26, 15) ∷ (27, 16) ∷ (28, 17) ∷ (29, 18) ∷ []
base_moves = refl

base_reads_0 : filter (reads (base 0) 0) (range_with_len 0 4) ≡ 0 ∷ 1 ∷ []
base_reads_0 = refl

base_reads_1 : filter (reads (base 0) 1) (range_with_len 0 4) ≡ 1 ∷ 2 ∷ 3 ∷ []
base_reads_1 = refl

base_reads_2 : filter (reads (base 0) 2) (range_with_len 0 4) ≡ 3 ∷ []
base_reads_2 = refl

base_reads_3 : filter (reads (base 0) 3) (range_with_len 0 4) ≡ []
base_reads_3 = refl

base_fill : fill_count (base 0) ≡ 3
base_fill = refl

base_moved_0 : (moved (base 0)).words ≡ object_header 3 2 ∷ 4 ∷ 10 ∷ object_header 4 1 ∷ 8 ∷ 107 ∷ 108 ∷ object_header 2 1 ∷ 1 ∷ object_header 10 8 ∷ 21 ∷ 0 ∷ 6 ∷ 13 ∷ 1 ∷ 0 ∷ 21 ∷ 6 ∷ 129 ∷ 999 ∷ object_header 10 8 ∷ 21 ∷ 0 ∷ 6 ∷ 13 ∷ 1 ∷ 0 ∷ 21 ∷ 6 ∷ 129 ∷ 999 ∷ 999 ∷ []
base_moved_0 = refl

base_moved_2 : take 8 ((moved (base 2)).words) ≡ object_header 3 2 ∷ 6 ∷ 12 ∷ filler_header 2 ∷ 0 ∷ object_header 4 1 ∷ 13 ∷ 107 ∷ []
base_moved_2 = refl

small_moved : slice_index ((moved (small 0)).words) 7 ≡ 107
small_moved = refl

base_report : report (base 0) ≡ (codes "       0        0        6        0        0        0" ++ 10 ∷ []) ++ (codes "       1        1        2        6        1        1" ++ 10 ∷ []) ++ (codes "       2        0        4        9        1        3" ++ 10 ∷ []) ++ (codes "       3        6        0       13        2        -" ++ 10 ∷ [])
unfolding digits
base_report = refl

base_two_allowed_report : report (base 2) ≡ (codes "       0        0        6        0        0        -" ++ 10 ∷ []) ++ (codes "       1        1        2        8        0        1" ++ 10 ∷ []) ++ (codes "       2        0        4       11        1        3" ++ 10 ∷ []) ++ (codes "       3        6        0       15        2        -" ++ 10 ∷ [])
unfolding digits
base_two_allowed_report = refl

full_report : report (full 0) ≡ (codes "       0        0        8        0        0        -" ++ 10 ∷ []) ++ (codes "       1        8        0        8        0        -" ++ 10 ∷ []) ++ (codes "       2        8        0       16        0        -" ++ 10 ∷ []) ++ (codes "       3        8        0       24        0        -" ++ 10 ∷ [])
unfolding digits
full_report = refl
