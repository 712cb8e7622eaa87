-- Where a reading in order begins in a store.
use Rattle.std.specs.Prelude.{◌≡◌, ℕ, false}
use Rattle.image_streams.specs.declared.cursor.Cursor.{Cursor}

-- the cursor is at this offset of this store, and counts as not failed
pub record StartsAt {S : Type 0} (whole : S) (offset : ℕ) (cursor : Cursor S) : Type 0 where
  pub store : cursor.store.now ≡ whole
  pub at : cursor.at ≡ offset
  pub failed : cursor.failed ≡ false
