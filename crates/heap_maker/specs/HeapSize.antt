-- The counts of a heap, and when one heap is smaller than another.
use Rattle.std.specs.Prelude.{ℕ, ◌+◌, ◌<◌, ◌≤◌, List, ◌++◌, codes, decimal, length, map, count_by, sum_by, not, ◌==◌}
use Rattle.std.specs.List.{range_with_len}
use Rattle.object_heap.specs.HeapImage.{HeapImage, heap_words, last_end, reference_at, references_at, roots_of}
use Rattle.heap_maker.specs.declared.heap_size.HeapSize.{HeapSize}

module _ (image : HeapImage) where
  -- the number of references of the object at an address that are not null
  abbrev pub held_references : ℕ → ℕ
  held_references a = count_by (λ w. not (w == 0)) (map (reference_at image a) (range_with_len 0 (references_at image a)))

  -- the number of references of live objects that are not null
  abbrev pub all_references : ℕ
  all_references = sum_by held_references image.live

  abbrev pub size_of_heap : HeapSize
  size_of_heap = record {
    words = heap_words image;
    region_log = image.region_log;
    allowance = image.allowance;
    roots = length (roots_of image);
    live = length image.live;
    end = last_end image;
    references = all_references;
  }

-- the sum of all counts
abbrev pub sum_of : HeapSize → ℕ
sum_of size = size.words + size.region_log + size.allowance + size.roots + size.live + size.end + size.references

-- no count of the first is above that of the second
pub record IsWithin (small large : HeapSize) : Type 0 where
  pub words : small.words ≤ large.words
  pub region_log : small.region_log ≤ large.region_log
  pub allowance : small.allowance ≤ large.allowance
  pub roots : small.roots ≤ large.roots
  pub live : small.live ≤ large.live
  pub end : small.end ≤ large.end
  pub references : small.references ≤ large.references

-- and one is below
pub record IsBelow (small large : HeapSize) : Type 0 where
  pub within : IsWithin small large
  pub one : sum_of small < sum_of large

-- the line that reports the counts, without its newline
abbrev pub size_text : HeapSize → List ℕ
size_text size =
    codes "words " ++ (decimal size.words ++ (codes " live " ++ (decimal size.live
    ++ (codes " roots " ++ (decimal size.roots ++ (codes " references " ++ (decimal size.references
    ++ (codes " region-log " ++ (decimal size.region_log ++ (codes " allowance " ++ decimal size.allowance))))))))))
