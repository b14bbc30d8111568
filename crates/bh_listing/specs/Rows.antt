-- The rows of a bucket's versions in the order of a listing, and their values.
use Rattle.std.specs.Prelude.{ℕ, pos, Bool, ◌&&◌, ◌<◌, List, [], ◌∷◌, filter, take}
use Rattle.std.specs.List.{AllByRecursion}
use Rattle.std.specs.Ordering.{ordering_then, int_cmp}
use Rattle.std.specs.declared.cmp.Ordering.{Ordering}
use Rattle.sqlite.specs.declared.types.Value.TheVariants.{Text, Blob}
use Rattle.sqlite.specs.Order.{Row}
use Rattle.sqlite_keyed.specs.Lists.{sort_by}
use Rattle.sqlite_typed.specs.Tests.{bytes_cmp, bytes_eq, bytes_le, bytes_lt}
use Rattle.bh_pages.specs.Gathered.{past_name}
use Rattle.bh_pages.specs.Seen.{Shown, item_of, seen_line}
use Rattle.bh_pages.specs.declared.gathering.Line.{Line}
use Rattle.bh_tables.specs.Schema.{Octets}
use Rattle.bh_tables.specs.Typed.{VersionRow, number}
use Rattle.bh_listing.specs.Texts.{Columns}

-- by key, then the greatest `seq` first
abbrev pub version_order : VersionRow → VersionRow → Ordering
version_order a b = ordering_then (bytes_cmp a.okey b.okey) (int_cmp (pos b.seq) (pos a.seq))

-- of this bucket, with a key from one text on and before another
abbrev pub is_listed : Octets → Octets → Octets → Octets → VersionRow → Bool
is_listed tenant bucket from upto v =
    bytes_eq v.tenant tenant && (bytes_eq v.bucket bucket && (bytes_le from v.okey && bytes_lt v.okey upto))

abbrev pub shown_listed : VersionRow → Row
shown_listed v = Blob v.okey ∷ number v.marker ∷ number v.stamp ∷ number v.size ∷ Text v.checksum ∷ []

-- the first of them
abbrev pub listed_rows : Octets → Octets → Octets → Octets → ℕ → List VersionRow → List VersionRow
listed_rows tenant bucket from upto count versions =
    take count (sort_by version_order (filter (is_listed tenant bucket from upto) versions))

-- a row in a listing of objects: its key, and the object, if it is not a delete marker
abbrev pub row_shown : VersionRow → Shown
row_shown v = (v.okey, item_of v.marker (record { key = v.okey; moment = v.stamp; size = v.size; checksum = v.checksum }))

abbrev pub columns : Columns Line VersionRow Shown
columns = record { shown = shown_listed; see = seen_line; told = row_shown }

-- the rows of a bucket under a prefix
abbrev pub bucket_rows : Octets → Octets → Octets → List VersionRow → List VersionRow
bucket_rows tenant bucket prefix versions = sort_by version_order (filter (is_listed tenant bucket prefix (past_name prefix)) versions)

-- no key has a byte of 255, as no text of UTF-8 has
abbrev pub AreSmallKeys : List VersionRow → Type 0
AreSmallKeys versions = AllByRecursion (λ v. AllByRecursion (λ b. b < 255) v.okey) versions
