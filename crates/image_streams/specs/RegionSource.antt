-- The regions of a body that is read, and the pool that they come from.
use Rattle.std.specs.Prelude.{◌≡◌, ℕ, ◌+◌, ◌^◌, ◌<◌, ◌≤◌, IfSome}
use Rattle.raw_region.specs.Frame.{FrameView}
use Rattle.image_streams.specs.Extents.{IsExtent}
use Rattle.image_streams.specs.declared.body_size.BodySize.{BodySize}
use Rattle.image_streams.specs.declared.side_by_side.Extent.{Extent}
use Rattle.image_streams.specs.declared.region_source.RegionSource.{RegionSource}

-- the pool has the regions of a body of this size
pub record IsPoolOf (size : BodySize) (pool : FrameView) : Type 0 where
  pub words : pool.size ≡ 2 ^ size.region_log
  pub count : pool.count ≡ size.regions

-- the pool, if there is one, has this number of regions of so many words, from the first on
pub record HasRegions (source : RegionSource) (size count : ℕ) : Type 0 where
  pub words : IfSome source.pool (λ pool. pool.now.size ≡ size)
  pub inside : IfSome source.pool (λ pool. source.first + count ≤ pool.now.count)
  pub fits : source.first + count < 2 ^ 64

-- the regions of a body of this size are not too large, and the source has them
pub record HasRegionsFor (source : RegionSource) (size : BodySize) : Type 0 where
  pub log : size.region_log ≤ 20
  pub regions : HasRegions source (2 ^ size.region_log) size.regions

-- the source has the regions of the body in this extent
pub record HasPlace (source : RegionSource) (extent : Extent) : Type 0 where
  pub is : IsExtent extent
  pub regions : HasRegions source (2 ^ extent.size.region_log) extent.size.regions

-- they are the last ones of the pool, if there is one
pub record HasRest (source : RegionSource) (extent : Extent) : Type 0 where
  pub place : HasPlace source extent
  pub last : IfSome source.pool (λ pool. source.first + extent.size.regions ≡ pool.now.count)
