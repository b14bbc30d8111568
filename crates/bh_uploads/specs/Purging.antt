-- The uploads that a purge deletes.
use Rattle.std.specs.Prelude.{ℕ, Bool, List, [], map, Option, Some, None}
use Rattle.std.specs.List.{list_any}
use Rattle.bh_model.specs.State.{Octets, stale_before}
use Rattle.bh_tables.specs.Typed.{UploadRow}
use Rattle.bh_view.specs.Grouped.{same_number}
use Rattle.bh_uploads.specs.Rows.{begun_before}

-- the numbers of the uploads of a bucket that are stale at a moment, by the bucket's rule
abbrev pub stale_by : Octets → ℕ → List UploadRow → Octets × Option ℕ → List ℕ
stale_by t at uploads (b, None) = []
stale_by t at uploads (b, Some days) = map (λ (u : UploadRow). u.upload) (begun_before t b (stale_before days at) uploads)

-- whether a number is among some
abbrev pub is_among : List ℕ → ℕ → Bool
is_among numbers n = list_any (λ m. same_number n m) numbers
