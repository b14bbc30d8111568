-- The row of the version or delete marker that a request names.
use Rattle.std.specs.Prelude.{Bool, ◌&&◌, List, find, Option, Some, None, option_map, Result}
use Rattle.std.specs.List.{filter}
use Rattle.sqlite_keyed.specs.Lists.{sort_by}
use Rattle.sqlite_typed.specs.Tests.{bytes_eq}
use Rattle.bh_types.specs.declared.id.VersionId.{VersionId}
use Rattle.bh_types.specs.declared.refusal.Refusal.TheVariants.{NoSuchKey, NoSuchVersion}
use Rattle.bh_types.specs.declared.wanted.Wanted.{Wanted}
use Rattle.bh_types.specs.declared.wanted.Wanted.TheVariants.{Current, Named, Unknown}
use Rattle.bh_model.specs.State.{Octets}
use Rattle.bh_model.specs.Entries.{Version, LookupFault, same_id, not_found, opened, found_named}
use Rattle.bh_tables.specs.Typed.{VersionRow}
use Rattle.bh_tables.specs.Shown.{is_at, newer}
use Rattle.bh_view.specs.Grouped.{first}
use Rattle.bh_view.specs.View.{id_of, content_of, entry_of}

-- of a key, with an id
abbrev pub has_row_id : Octets → Octets → Octets → VersionId → VersionRow → Bool
has_row_id tenant bucket key id v =
    bytes_eq v.tenant tenant && (bytes_eq v.bucket bucket && (bytes_eq v.okey key && same_id (id_of v.id) id))

-- the newest of the key, or the one with the id
abbrev pub wanted_row : Octets → Octets → Octets → Wanted → List VersionRow → Option VersionRow
wanted_row tenant bucket key Current rows = first (sort_by newer (filter (is_at tenant bucket key) rows))
wanted_row tenant bucket key (Named id) rows = find (has_row_id tenant bucket key id) rows
wanted_row tenant bucket key Unknown rows = None

-- the result of a lookup
abbrev pub newest_looked : Option VersionRow → Result Version LookupFault
newest_looked None = not_found NoSuchKey
newest_looked (Some v) = opened NoSuchKey (entry_of v) (content_of v.marker v)

abbrev pub looked : Wanted → Option VersionRow → Result Version LookupFault
looked Current row = newest_looked row
looked (Named id) row = found_named (option_map entry_of row)
looked Unknown row = not_found NoSuchVersion
