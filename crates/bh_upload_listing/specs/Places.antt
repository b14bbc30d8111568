-- The position at which a page of uploads begins, and the entries that it may have of a bucket's
-- rows.
use Rattle.std.specs.Prelude.{ℕ, ◌^◌, min, List, filter, Option, Some, None, option_map, if◌then◌else◌}
use Rattle.bh_types.specs.declared.id.UploadId.{UploadId}
use Rattle.bh_model.specs.State.{Octets}
use Rattle.bh_model.specs.Pages.{Listed, UploadItem, UploadPlace, begins, entries_after, passes_upload}
use Rattle.bh_pages.specs.Gathered.{start_of}
use Rattle.bh_pages.specs.Seen.{token_of}
use Rattle.bh_pages.specs.Uploads.{is_from, nothing, uploads_to_come}
use Rattle.bh_pages.specs.Places.{Place, at_key, after_entry}
use Rattle.bh_pages.specs.declared.gathering.PageAsked.{PageAsked}

-- the marker after which a page begins
abbrev pub place_view : PageAsked → Option UploadId → Option UploadPlace
place_view asked upload = option_map (λ key. record { key = key; upload = upload }) (token_of asked)

-- the entries that a page after the marker may have of a bucket's uploads
abbrev pub uploads_of_items : PageAsked → Option UploadId → List UploadItem → List (Listed UploadItem)
uploads_of_items asked upload items =
    entries_after asked.prefix.now asked.delimiter.now (λ (u : UploadItem). u.key) (passes_upload (place_view asked upload)) items

-- the marker's key and a number, if the page comes after one upload of a key under the prefix. No
-- counter reaches 2^62
abbrev pub marked : Octets → Option Octets → Option UploadId → Option (Octets × ℕ)
marked prefix None upload = None
marked prefix (Some key) None = None
marked prefix (Some key) (Some id) = if begins prefix key then Some (key, min id.number (2 ^ 62)) else None

-- after an upload of a key, or after all uploads of the marker's key, if there is a marker
abbrev pub place_by : PageAsked → Option (Octets × ℕ) → Place
place_by asked None = at_key (start_of asked.prefix.now (token_of asked))
place_by asked (Some mark) = after_entry mark.0 mark.1

-- the entries that a page from there may have
abbrev pub listed_from : PageAsked → Place → List UploadItem → List (Listed UploadItem)
listed_from asked place items = uploads_to_come asked nothing (filter (is_from place) (filter (λ u. begins asked.prefix.now u.key) items))
