-- The entries of a bucket, key by key and newest first, are the version rows in the order of a listing.
use Rattle.std.proofs.Common.{◌≡◌, List, map, Ordering}
use Rattle.std.specs.Ordering.{ordering_then}
use Rattle.std.specs.FinMap.{entries}
use Rattle.sqlite_keyed.specs.Lists.{sort_by}
use Rattle.sqlite_typed.specs.Tests.{bytes_cmp}
use Rattle.bh_model.specs.State.{Octets, Entry}
use Rattle.bh_tables.specs.Typed.{VersionRow}
use Rattle.bh_tables.specs.Shown.{newer}
use Rattle.bh_view.specs.View.{entry_of, objects_of}
use Rattle.bh_view.proofs.Keys.{octets}
use Rattle.bh_view.proofs.ObjectLemmas.{newer_total}
use Rattle.bh_view.proofs.GroupListingLemmas.{flat, flat_entries}

abbrev pub version_order : VersionRow → VersionRow → Ordering
version_order a b = ordering_then (bytes_cmp a.okey b.okey) (newer a b)

pub versions_listed : (rows : List VersionRow) → flat octets (entries (objects_of rows)) ≡ map {B = Octets × Entry} (λ v. (v.okey, entry_of v)) (sort_by version_order rows)
versions_listed = flat_entries octets (λ (v : VersionRow). v.okey) newer newer_total entry_of
