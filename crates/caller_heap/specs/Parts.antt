-- The workers' parts in one collection.
use Rattle.std.specs.Prelude.{◌≡◌, Some, option_map}
use Rattle.object_heap.specs.HeapImage.{HeapImage}
use Rattle.collector.specs.Sessions.{image_of}
use Rattle.caller_heap.specs.declared.part.Origin.{Origin}
use Rattle.caller_heap.specs.declared.part.Part.{Part}

-- a part in the compaction of this image, whose words come from there
abbrev pub IsPartOf : HeapImage → Origin → Part → Type 0
IsPartOf image origin part = (option_map image_of part.share ≡ Some image) × (part.origin ≡ origin)
