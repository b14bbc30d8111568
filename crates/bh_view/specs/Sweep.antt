-- A sweep at a moment: it removes stale uploads of all tenants, and then unreferenced blocks.
use Rattle.std.specs.Prelude.{ℕ, Bool, ◌+◌, ◌-◌, nat_le, List, [], ◌∷◌, length, take, filter}
use Rattle.sqlite_keyed.specs.Lists.{sort_by}
use Rattle.bh_model.specs.State.{is_stale}
use Rattle.bh_tables.specs.Typed.{UploadRow, BlockRow, Tables, rebodied}
use Rattle.bh_tables.specs.Due.{by_owner}
use Rattle.bh_tables.specs.Shown.{is_unreferenced, by_name}
use Rattle.bh_view.specs.Grouped.{same_number}
use Rattle.bh_view.specs.Blocks.{blocks_without}
use Rattle.bh_view.specs.View.{days_in, without_uploads}

-- ---- the uploads that are due

-- whether an upload is stale at a moment, by the rule of its bucket
abbrev pub is_due : ℕ → Tables → UploadRow → Bool
is_due at tables u = is_stale (days_in u.tenant u.bucket tables.buckets) u.begun at

-- by tenant and number
unfoldable pub due_uploads : ℕ → Tables → List UploadRow
due_uploads at tables = sort_by by_owner (filter (is_due at tables) tables.uploads)

-- the tables without some uploads, their parts and the references of the parts' bodies
abbrev pub without_each : List UploadRow → Tables → Tables
without_each [] tables = tables
without_each (u ∷ us) tables = without_each us (without_uploads u.tenant (λ n. same_number n u.upload) tables)

-- ---- the blocks that are due

-- those that are unreferenced once all of those uploads are deleted
unfoldable pub due_blocks : ℕ → Tables → List BlockRow
due_blocks at tables = sort_by by_name (filter (is_unreferenced (without_each (due_uploads at tables) tables).refs) tables.blocks)

abbrev pub without_blocks : List BlockRow → Tables → Tables
without_blocks gone tables = rebodied tables tables.refs (blocks_without gone tables.blocks)

-- ---- a sweep removes the first of what is due, up to a limit

unfoldable pub uploads_swept : ℕ → ℕ → Tables → List UploadRow
uploads_swept at limit tables = take limit (due_uploads at tables)

unfoldable pub blocks_swept : ℕ → ℕ → Tables → List BlockRow
blocks_swept at limit tables = take (limit - length (due_uploads at tables)) (due_blocks at tables)

unfoldable pub swept : ℕ → ℕ → Tables → Tables
swept at limit tables = without_blocks (blocks_swept at limit tables) (without_each (uploads_swept at limit tables) tables)

-- whether nothing more is due
unfoldable pub is_complete : ℕ → ℕ → Tables → Bool
is_complete at limit tables = nat_le (length (due_uploads at tables) + length (due_blocks at tables)) limit
