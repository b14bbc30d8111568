-- The rows of a listing of versions, and the requested page as contracts see it.
use Rattle.std.specs.Prelude.{ℕ, pos, Bool, false, ◌&&◌, int_lt, List, [], ◌∷◌, map, filter, take, Option, Some, None, option_map}
use Rattle.std.specs.Prelude.{if◌then◌else◌}
use Rattle.sqlite.specs.declared.types.Value.TheVariants.{Text, Blob}
use Rattle.sqlite.specs.Order.{Row}
use Rattle.sqlite_keyed.specs.Lists.{sort_by}
use Rattle.sqlite_typed.specs.Tests.{bytes_eq}
use Rattle.bh_types.specs.declared.id.VersionId.{VersionId}
use Rattle.bh_types.specs.declared.wanted.Wanted.{Wanted}
use Rattle.bh_types.specs.declared.wanted.Wanted.TheVariants.{Current, Named, Unknown}
use Rattle.bh_model.specs.Pages.{Listed, VersionItem, VersionPlace, begins, versions_after, entries_after, passes_version}
use Rattle.bh_pages.specs.Gathered.{start_of}
use Rattle.bh_pages.specs.Seen.{token_of}
use Rattle.bh_pages.specs.Versions.{Numbered, row_key, Place, at_key, after_entry, is_from, nothing_after, versions_to_come, id_in}
use Rattle.bh_pages.specs.Versions.{stored_of, items_next, seen_place, seen_line}
use Rattle.bh_pages.specs.declared.gathering.PageAsked.{PageAsked}
use Rattle.bh_tables.specs.Schema.{Octets}
use Rattle.bh_tables.specs.Typed.{VersionRow, number}
use Rattle.bh_pages.specs.declared.versions.VersionLine.{VersionLine}
use Rattle.bh_listing.specs.Rows.{version_order, listed_rows}
use Rattle.bh_listing.specs.Texts.{Columns, Shows}
use Rattle.bh_listing.specs.declared.versions.Start.{Start}

-- a version or delete marker of this key with a lesser number
abbrev pub is_older_of : Octets → Octets → Octets → ℕ → VersionRow → Bool
is_older_of tenant bucket okey seq v =
    bytes_eq v.tenant tenant && (bytes_eq v.bucket bucket && (bytes_eq v.okey okey && int_lt (pos v.seq) (pos seq)))

abbrev pub shown_numbered : VersionRow → Row
shown_numbered v = Blob v.okey ∷ number v.seq ∷ number v.id ∷ number v.marker ∷ number v.stamp ∷ number v.size ∷ Text v.checksum ∷ []

-- the first of them, the newest first
abbrev pub older_rows : Octets → Octets → Octets → ℕ → ℕ → List VersionRow → List VersionRow
older_rows tenant bucket okey seq count versions = take count (sort_by version_order (filter (is_older_of tenant bucket okey seq) versions))

-- the first rows at a place: of a key those that are older than an entry, or those from a key on and before a text
abbrev pub place_rows : Octets → Octets → Octets → Option ℕ → Octets → ℕ → List VersionRow → List VersionRow
place_rows tenant bucket key None upto count versions = listed_rows tenant bucket key upto count versions
place_rows tenant bucket key (Some seq) upto count versions = older_rows tenant bucket key seq count versions

-- a row in a listing of versions
abbrev pub row_numbered : VersionRow → Numbered
row_numbered v = (
  v.seq,
  record {
    key = v.okey;
    id = id_in v.id;
    moment = v.stamp;
    latest = false;
    object = stored_of v.marker v.size v.checksum;
  },
)

abbrev pub columns : Columns VersionLine VersionRow Numbered
columns = record { shown = shown_numbered; see = seen_line; told = row_numbered }

abbrev pub rows : Shows
rows = record {
  keyed = λ tenant bucket from upto count t. map shown_numbered (listed_rows tenant bucket from upto count t.versions);
  later = λ tenant bucket key seq count t. map shown_numbered (older_rows tenant bucket key seq count t.versions);
}

-- the rows of a bucket, in the order of a listing
abbrev pub own_rows : Octets → Octets → List VersionRow → List Numbered
own_rows tenant bucket versions =
    map row_numbered (sort_by version_order (filter (λ v. bytes_eq v.tenant tenant && bytes_eq v.bucket bucket) versions))

-- the marker after which a page begins
abbrev pub place_view : PageAsked → Wanted → Option VersionPlace
place_view asked version = option_map (λ key. record { key = key; version = version }) (token_of asked)

-- the entries that a listing of versions may have of these rows
abbrev pub versions_of_rows : PageAsked → Wanted → List Numbered → List (Listed VersionItem)
versions_of_rows asked version rows =
    entries_after asked.prefix.now asked.delimiter.now (λ (v : VersionItem). v.key) (passes_version (token_of asked))
    (versions_after (place_view asked version) (items_next None rows))

-- ---- the position at which a page begins

-- at a place, after rows of a key, if those before the place are listed
pub record Beginning : Type 0 where
  pub place : Place
  pub key : Option Octets

abbrev pub seen_start : Start → Beginning
seen_start s = record { place = seen_place s.place; key = option_map (λ k. k.items) s.key }

-- after all versions of the marker's key, if there is a marker
abbrev pub past_marker : PageAsked → Beginning
past_marker asked = record { place = at_key (start_of asked.prefix.now (token_of asked)); key = None }

-- after an entry of a key
abbrev pub past_entry : Octets → ℕ → Beginning
past_entry key seq = record { place = after_entry key seq; key = Some key }

-- the marker's key and an id, if the page comes after one version of a key under the prefix
abbrev pub marked : Octets → Option Octets → Wanted → Option (Octets × VersionId)
marked prefix None version = None
marked prefix (Some key) Current = None
marked prefix (Some key) (Named id) = if begins prefix key then Some (key, id) else None
marked prefix (Some key) Unknown = None

-- the entries that a page from there may have of a bucket's rows
abbrev pub listed_from : PageAsked → Beginning → List Numbered → List (Listed VersionItem)
listed_from asked start rows =
    versions_to_come asked.prefix.now asked.delimiter.now (token_of asked) (nothing_after start.key)
    (filter (is_from start.place) (filter (λ r. begins asked.prefix.now (row_key r)) rows))
